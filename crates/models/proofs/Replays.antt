-- A replay of a written model judges as the model does: each path that judging asks for is named by the place of its part in the
-- bytes, and the byte there decides it as the model does.
use Rattle.std.proofs.Common.{◌≡◌, ℕ, zero, suc, ◌+◌, ◌*◌, Bool, true, false, cond, eqb, ltb, leb, List, [], ◌∷◌, ◌++◌, map, length, get_or, drop, Ok, Err, Result, refl, sym, ap, ◌∙◌, subst, arith, drop-cons}
use Rattle.std.proofs.lemmas.List.{drop_all}
use Rattle.std.proofs.lemmas.Bool.{and_from, lt-ltb, le-leb, eq-eqb}
use mathlib.Core.Option.{Option, none, some, some-injective, none-ne-some}
use Rattle.syntax.specs.declared.faults.Reason.TheVariants.{TooLong}
use Rattle.syntax.specs.Faults.{fault}
use Rattle.syntax.specs.Typing.{Sig, arguments}
use Rattle.syntax.specs.Problems.{Problem, sig_of, Lawful}
use Rattle.records.proofs.Results.{never_ok}
use Rattle.judging.specs.Held.{goal}
use Rattle.judging.specs.Judging.{Unknowns, judge}
use Rattle.judging.specs.Paths.{Path, root, child, Decision, type_of, children_from, under}
use Rattle.judging.specs.Scope.{Declares}
use Rattle.judging.specs.Asked.{Asked, asked_root, asked_kid}
use Rattle.judging.specs.Names.{named_head, result}
use Rattle.judging.specs.Reached.{Reached, Exists}
use Rattle.judging.proofs.Lockstep.{Naming, judge_named}
use Rattle.judging.proofs.Scope.{lawful_scoped}
use Rattle.judging.proofs.Asked.{all_members, goal_like}
use Rattle.judging.proofs.Reached.{asked_paths}
use Rattle.judge.specs.Outcomes.{outcome, byte_of}
use Rattle.finder.specs.Tables.{Table}
use Rattle.finder.specs.Ways.{Way, decided}
use Rattle.finder.specs.Models.{Partial, open_part, built, Partials, o[], ◌o∷◌, Shows, shows_built, ShowsAll, ◌s∷◌, part_of, head_of, replayed}
use Rattle.finder.proofs.Models.{partial_same}
use Rattle.finder.proofs.Ways.{decided_says}
use Rattle.model.specs.Partial.{OfType, OfTypes, all_written}
use Rattle.model.specs.Reading.{places_from, reading, value_end}
use Rattle.model.specs.Places.{or_stay, starts_from, chosen_at, decided_by}
use Rattle.model.proofs.Bytes.{at_byte}
use Rattle.models.specs.Models.{part, parts, written_model}
use Rattle.replay.specs.declared.faults.ReplayFault.{ReplayFault}
use Rattle.replay.specs.declared.faults.ReplayFault.TheVariants.{Steps, Places, AnswerLength}
use Rattle.replay.specs.Replays.{answer_of, whole, accepted, Replayed}
use Rattle.models.specs.Replays.{WrittenReplays, OneInForce, ReplayAnswers}
use Rattle.models.proofs.Recording.{fits}
use Rattle.models.proofs.Sites.{Site, Sited, arguments_sited, records_read}

starts_length : (sig : Sig) (bs ts : List ℕ) (p : ℕ) → length (starts_from sig bs ts p) ≡ length ts
starts_length sig bs [] p = refl
starts_length sig bs (t ∷ ts) p = ap suc (starts_length sig bs ts (or_stay p (value_end (length bs) sig bs 0 t p)))

ok_is : {E : Type 0} (xs ys : List ℕ) → ◌≡◌ {A = Result (List ℕ) E} (Ok xs) (Ok ys) → xs ≡ ys
ok_is xs ys h = cc

-- what a way shows has the types of its places
module _ (p : Problem) (T : Table) (w : Way) where
  mutual
    shown_typed : (u : Path) (q : Partial) → Shows (sig_of p) (decided p T w) u (type_of (sig_of p) u) q → OfType (sig_of p) (type_of (sig_of p) u) (part q)
    shown_typed u open_part s = tt
    shown_typed u (built c qs) (shows_built e s) =
        let d = decided_says p T w u c e in
        (d.2, all_typed (child u c) (arguments (sig_of p) (type_of (sig_of p) u) c) qs s (λ j. refl))

    all_typed : (place : ℕ → Path) (ts : List ℕ) (qs : Partials) → ShowsAll (sig_of p) (decided p T w) place ts qs
        → ((j : ℕ) → type_of (sig_of p) (place j) ≡ get_or ts j 0) → OfTypes (sig_of p) ts (parts qs)
    all_typed place [] o[] s types = tt
    all_typed place [] (q o∷ qs) s types = elim s [ ]
    all_typed place (t ∷ ts) o[] s types = elim s [ ]
    all_typed place (t ∷ ts) (q o∷ qs) (s s∷ ss) types = (
      subst (λ y. OfType (sig_of p) y (part q)) (types 0)
          (shown_typed (place 0) q (subst (λ y. Shows (sig_of p) (decided p T w) (place 0) y q) (sym (types 0)) s)),
      all_typed (λ j. place (suc j)) ts qs ss (λ j. types (suc j)),
    )

-- the byte at the place of a value decides as the value does
module _ (sig : Sig) (bs : List ℕ) (t place : ℕ) where
  -- the three bytes that lead what is built
  record Led (c : ℕ) (rest : List ℕ) : Type 0 where
    ty : get_or bs (place + 1) 0 ≡ t
    chosen : chosen_at bs place ≡ some c
    after : drop (place + 3) bs ≡ rest

  led : (c : ℕ) (rest : List ℕ) → drop place bs ≡ 2 ∷ (t ∷ (c ∷ rest)) → Led c rest
  led c rest h =
      let a = at_byte bs place 2 (t ∷ (c ∷ rest)) h in
      let b = at_byte bs (place + 1) t (c ∷ rest) a.2 in
      let plus : place + 2 ≡ place + 1 + 1 = omega arith in
      let d = at_byte bs (place + 2) c rest (ap (λ i. drop i bs) plus ∙ b.2) in
      let more : place + 3 ≡ place + 2 + 1 = omega arith in
      record {
        ty = b.1;
        chosen =
            ap (λ (x : Bool). cond x (cond (eqb (get_or bs place 0) 2) (some (get_or bs (place + 2) 0)) none) none) (lt-ltb (place + 2) (length bs) d.0)
            ∙ ap (λ (x : ℕ). cond (eqb x 2) (some (get_or bs (place + 2) 0)) none) a.1
            ∙ ap some d.1;
        after = ap (λ i. drop i bs) more ∙ d.2;
      }

  not_chosen : (b : Bool) (o : Option ℕ) → o ≡ none → cond b o none ≡ none
  not_chosen true o e = e
  not_chosen false o e = refl

  chosen_head : (q : Partial) → Site sig bs t place q → chosen_at bs place ≡ head_of (some q)
  chosen_head open_part s =
      let a = at_byte bs place 8 s.rest s.is in
      not_chosen (ltb (place + 2) (length bs)) _ (ap (λ (x : ℕ). cond (eqb x 2) (some (get_or bs (place + 2) 0)) none) a.1)
  chosen_head (built c qs) s = (led c (all_written sig (arguments sig t c) (parts qs) ++ s.rest) s.is).chosen

built_of : (o : Option Partial) (q : Partial) (c : ℕ) → o ≡ some q → head_of o ≡ some c → (qs : Partials) × (q ≡ built c qs)
built_of o q c e f = go q (sym (ap head_of e) ∙ f)
  where
    go : (q : Partial) → head_of (some q) ≡ some c → (qs : Partials) × (q ≡ built c qs)
    go open_part g = absurd (none-ne-some c g)
    go (built d qs) g = (qs, ap (λ x. built x qs) (some-injective d c g))

module _ (p : Problem) (lawful : Lawful p) (qs : Partials) (bs : List ℕ) (roots : List ℕ) (sited : Sited (sig_of p) bs p.unknowns qs roots) where
  abbrev sig : Sig
  sig = sig_of p

  abbrev δ : Decision
  δ = replayed qs

  abbrev K : Unknowns ℕ
  K = decided_by p bs roots

  -- the place of a path's part
  abbrev name : Path → ℕ
  name (root k) = get_or roots k 0
  name (child u c j) = get_or (K.kids (name u) c) j 0

  record Stood (u : Path) : Type 0 where
    value : Partial
    there : part_of qs u ≡ some value
    site : Site sig bs (type_of sig u) (name u) value

  -- the arguments of what is built at u
  below : (u : Path) (c : ℕ) → (s : Stood u) → δ u ≡ some c → (ys : Partials) × (part_of qs u ≡ some (built c ys))
      × (K.kids (name u) c ≡ starts_from sig bs (arguments sig (type_of sig u) c) (name u + 3))
      × Sited sig bs (arguments sig (type_of sig u) c) ys (starts_from sig bs (arguments sig (type_of sig u) c) (name u + 3))
  below u c s d =
      let b = built_of (part_of qs u) s.value c s.there d in
      let site : Site sig bs (type_of sig u) (name u) (built c b.0) = subst (Site sig bs (type_of sig u) (name u)) b.1 s.site in
      let l = led sig bs (type_of sig u) (name u) c (all_written sig (arguments sig (type_of sig u) c) (parts b.0) ++ site.rest) site.is in (
        b.0,
        s.there ∙ ap some b.1,
        ap (λ t. starts_from sig bs (arguments sig t c) (name u + 3)) l.ty,
        arguments_sited sig bs (arguments sig (type_of sig u) c) b.0 (name u + 3) site.rest site.typed.1 l.after,
      )

  stood : (u : Path) → Reached δ u → Exists sig u → Stood u
  stood (root k) r x = let s = sited k x in record { value = s.value; there = s.there; site = s.site }
  stood (child u c j) r x =
      let b = below u c (stood u r.1 x.1) r.0 in
      let s = b.3 j x.0 in
      record {
        value = s.value;
        there = partial_same c j b.0 (part_of qs u) b.1 ∙ s.there;
        site = subst (λ ps. Site sig bs (type_of sig (child u c j)) (get_or ps j 0) s.value) (sym b.2) s.site;
      }

  kids_named : (u : Path) (c j n : ℕ) → length (K.kids (name u) c) ≡ j + n → map name (children_from u c j n) ≡ drop j (K.kids (name u) c)
  kids_named u c j zero e = sym (drop_all j (K.kids (name u) c) (omega (arith, e)))
  kids_named u c j (suc n) e =
      ap (λ xs. get_or (K.kids (name u) c) j 0 ∷ xs) (kids_named u c (suc j) n (omega (arith, e)))
      ∙ sym (drop-cons (K.kids (name u) c) j 0 (omega (arith, e)))

  naming : Naming p (under p δ) K (Declares p) (Asked p (under p δ)) name
  naming =
      record {
        bodies = (lawful_scoped p lawful).0;
        at_roots = λ k n. (asked_root n, refl);
        at_chosen = λ u a.
            let r = (asked_paths p δ u).0 a in
            let s = stood u r.0 r.1 in
            chosen_head sig bs (type_of sig u) (name u) s.value s.site ∙ sym (ap head_of s.there);
        at_kids = λ u c a e.
            let r = (asked_paths p δ u).0 a in
            let b = below u c (stood u r.0 r.1) e in
            let long = ap length b.2 ∙ starts_length sig bs (arguments sig (type_of sig u) c) (name u + 3) in
            (all_members (children_from u c 0 (length (arguments sig (type_of sig u) c))) (λ v m. asked_kid a e m), kids_named u c 0 _ (omega (arith, long)));
      }

  pub judges_same : (g s : ℕ) → judge p K (goal p g) s ≡ result (named_head name) (judge p (under p δ) (goal p g) s)
  judges_same g s = judge_named p (under p δ) K (Declares p) (Asked p (under p δ)) name naming (goal p g) (goal p g) (goal_like p lawful _ g) s

pub written_replays_lem : WrittenReplays
written_replays_lem p lawful t T count w qs stands shown force steps true_by =
    let bs = written_model p qs in
    let r = records_read (sig_of p) bs p.unknowns qs 0 0 (all_typed p T w root p.unknowns qs shown (λ j. refl)) refl in
    let low = fits p lawful t T count w qs stands shown in
    record {
      roots = r.roots;
      reads =
          ap (λ (b : Bool). cond b (places_from (sig_of p) bs 0 p.unknowns 0) (Err (fault TooLong 16384))) (le-leb (length bs) 16384 (omega (arith, low)))
          ∙ r.reads;
      answers = λ g l e.
          let j = true_by g l e in
          ap (λ o. byte_of (outcome o)) (judges_same p lawful qs bs r.roots r.sited g steps ∙ ap (result (named_head (name p lawful qs bs r.roots r.sited))) j.3);
    }

-- and what a call of replay answers by it
pub replay_answers_lem : ReplayAnswers
replay_answers_lem p bytes force steps places before after r t some_steps few_steps room size said = go r said
  where
    taken : accepted p bytes steps places (length before) ≡ Ok t.roots
    taken =
        ap (λ (b : Bool). cond b (cond (leb (6 * steps) places) (cond (eqb (length before) (length p.goals)) (whole (reading p bytes)) (Err AnswerLength)) (Err Places)) (Err Steps))
        (and_from (leb 1 steps) (leb steps 4096) (le-leb 1 steps some_steps) (le-leb steps 4096 few_steps))
        ∙ ap (λ (b : Bool). cond b (cond (eqb (length before) (length p.goals)) (whole (reading p bytes)) (Err AnswerLength)) (Err Places)) (le-leb (6 * steps) places room)
        ∙ ap (λ (b : Bool). cond b (whole (reading p bytes)) (Err AnswerLength)) (eq-eqb (length before) (length p.goals) size)
        ∙ ap whole t.reads

    go : (r : Result (Unit {0}) ReplayFault) → Replayed p bytes steps places before after r → (r ≡ Ok tt) × OneInForce p force after
    go (Ok u) s =
        let same : s.0 ≡ t.roots = ok_is s.0 t.roots (sym s.1 ∙ taken) in
        (refl, λ g l e. s.2 g l ∙ ap (λ roots. answer_of p (decided_by p bytes roots) steps g) same ∙ t.answers g l e)
    go (Err e) s = never_ok (sym s.0 ∙ taken)

-- The other examples of sessions, round by round. Assumes nothing.
use Rattle.std.proofs.Common.{◌≡◌, ℕ, Bool, true, false, not, ◌&&◌, ◌||◌, [], ◌∷◌, sym, refl, ap, ◌∙◌, subst}
use mathlib.Core.Option.{none, some, none-ne-some}
use Rattle.std.proofs.lemmas.Bool.{and_parts, both_ways, false≢true}
use Rattle.chooser.specs.Meaning.{Meaning}
use Rattle.judging.specs.Judging.{judges}
use Rattle.judging.specs.Paths.{root}
use Rattle.finder.specs.Levels.{measures, too_shallow}
use Rattle.finder.specs.Ways.{Way}
use Rattle.finder.specs.Clauses.{all_met}
use Rattle.finder.specs.Findings.{out_of_steps, false_goal}
use Rattle.histories.specs.States.{Session, State, begun, start}
use Rattle.histories.specs.Rounds.{none_within, never, Answer, one_recorded, Known, with_conflict, finds, conflict_in, Runs}
use Rattle.histories.specs.Calls.{forcing, Reply, answered, in_hand, after_give_back, search_refused, search_shallow, search_made}
use Rattle.examples.specs.Sessions.{Fresh, Search, reply, forced, pairs, PairFound, contradiction, NeverTrue, looping, StepsSpent}
use Rattle.examples.proofs.Turns.{mk, At, at_same, OneWay, record_round, never_round, model_round, out_round}
use Rattle.examples.proofs.Made.{accepted, made, F₀, fresh_at}

-- a pair of natural numbers
shallow : {s : Session} {M M' : Meaning} {r : Reply} {S' : State} → Search 1 (begun s) M r S' M' → M.count ≡ s.count → M.left ≡ s.left
    → too_shallow s.problem (measures s.problem) 1 ≡ true → r ≡ reply none_within 0 0 0
shallow {s} {M} (search_refused {r = r} e same) c l deep = absurd (none-ne-some r (sym (accepted 1 s M refl c l) ∙ e))
shallow (search_shallow e shallow' same) c l deep = refl
shallow (search_made e deep' run) c l deep = absurd (both_ways _ deep' deep)

abbrev no_force : ℕ → Bool
no_force g = false

abbrev P₀ : Known
P₀ = record { table = record { path = root 0; first = none } ∷ []; conflicts = [] }

pair_round : OneWay pairs no_force 2 0 P₀ F₀ []
pair_round = record { long = refl; can = refl; meets = refl; inside = refl; decides = refl; only = λ w e f. tt }

pub pair_found : PairFound
pair_found =
    record {
      depth_1 = λ M M₁ S₁ r f s. shallow {s = start pairs M} s refl refl refl;
      depth_2 = λ M M₁ S₁ r f s.
          let m = made {n = 2} {s = start pairs M} s refl refl refl refl in
          let t = model_round {k = 999} m.runs 0 100 1000 F₀ [] pair_round refl (fresh_at f) in
          (t.0, m.replies ∙ ap answered t.2.answers);
    }

-- "unknown 0, and false"
abbrev force : ℕ → Bool
force = forcing (λ g. false) 0 true

abbrev P₁ : Known
P₁ = with_conflict P₀ (conflict_in contradiction P₀ (mk (true ∷ [])) 0 [])

abbrev F₁ : Way → Bool
F₁ w = F₀ w && all_met w ((1 ∷ []) ∷ [])

never_first : OneWay contradiction force 1 1 P₀ F₀ (true ∷ [])
never_first =
    record { long = refl; can = refl; meets = refl; inside = refl; decides = refl; only = λ w e f. ((and_parts (w 0) true f).0, tt) }

is_false : finds contradiction force 512 P₀ (mk (true ∷ [])) ≡ false_goal 0 []
unfolding judges
is_false = refl

off_and_on : (b : Bool) → ((not b || false) && true) ≡ true → (b && true) ≡ true → ⊥
off_and_on true e f = false≢true e
off_and_on false e f = false≢true f

search_never : (M M' : Meaning) (a : Answer) (X' : Known) → At 1 F₀ 100 1000 M → Runs contradiction force 1 512 1000 P₀ M a X' M'
    → (a ≡ record { outcome = never; rounds = 2; opened = 0; recorded = 1 }) × (P₁ ≡ X') × At 1 F₁ 100 998 M'
search_never M M' a X' q run =
    let r = record_round {k = 999} run 1 F₀ (true ∷ []) never_first 0 [] is_false 100 998 (1 ∷ []) refl refl q in
    let t = never_round {k = 998} r.4 1 100 998 F₁ r.3 (λ w e f. off_and_on (w 0) e f) (λ w e f. off_and_on (w 0) e f) in
    (r.2 ∙ ap one_recorded t.answers, t.known, at_same t.meant r.3)

abbrev session : Meaning → Known → (ℕ → Bool) → Session
session M X f =
    record {
      problem = contradiction;
      table = X.table;
      conflicts = X.conflicts;
      force = f;
      count = M.count;
      left = M.left;
      model = none;
    }

after_never : (M M₁ : Meaning) (S₁ : State) (r : Reply) → Fresh 1 M → Search 1 (forced contradiction M) M r S₁ M₁
    → (r ≡ reply never 2 0 1) × (S₁ ≡ begun (session M₁ P₁ force)) × At 1 F₁ 100 998 M₁
after_never M M₁ S₁ r f s =
    let m = made {n = 1} {s = session M P₀ force} s refl refl refl refl in
    let q = search_never M M₁ m.answer m.knows (fresh_at f) m.runs in (
      m.replies ∙ ap answered q.0,
      m.comes_to ∙ (λ i. begun (record {
        problem = contradiction;
        table = (sym q.1 i).table;
        conflicts = (sym q.1 i).conflicts;
        force = force;
        count = M₁.count;
        left = M₁.left;
        model = in_hand 1 512 (q.0 i).outcome;
      })),
      q.2,
    )

-- with its switch free, the variable 0 is 0
abbrev back : ℕ → Bool
back = forcing force 0 false

is_off : (b : Bool) → ((not b || false) && true) ≡ true → b ≡ false
is_off true e = absurd (false≢true e)
is_off false e = refl

back_round : OneWay contradiction back 1 1 P₁ F₁ (false ∷ [])
back_round = record { long = refl; can = refl; meets = refl; inside = refl; decides = refl; only = λ w e f. (is_off (w 0) e, tt) }

pub never_true : NeverTrue
never_true =
    record {
      in_force = λ M M₁ S₁ r f s. (after_never M M₁ S₁ r f s).0;
      given_back = λ M M₁ M₂ S₁ S₂ r₁ r f s₁ s.
          let a = after_never M M₁ S₁ r₁ f s₁ in
          let m = made {n = 1} {s = session M₁ P₁ back} (subst (λ x. Search 1 (after_give_back x (some 0)) M₁ r S₂ M₂) a.1 s) refl refl refl refl in
          let t = model_round {k = 999} m.runs 1 100 998 F₁ (false ∷ []) back_round refl a.2 in
          (t.0, m.replies ∙ ap answered t.2.answers);
    }

-- a goal that loops
abbrev L₀ : Known
L₀ = record { table = []; conflicts = [] }

loop_round : OneWay looping force 1 1 L₀ F₀ (true ∷ [])
loop_round =
    record { long = refl; can = refl; meets = refl; inside = refl; decides = refl; only = λ w e f. ((and_parts (w 0) true f).0, tt) }

is_out : finds looping force 512 L₀ (mk (true ∷ [])) ≡ out_of_steps 0
unfolding judges
is_out = refl

pub steps_spent : StepsSpent
steps_spent =
    record {
      loops_spend = λ M M₁ S₁ r f s.
          let m = made {n = 1} s refl refl refl refl in
          m.replies ∙ ap answered (out_round {k = 999} m.runs 1 100 1000 F₀ (true ∷ []) loop_round 0 is_out (fresh_at f)).answers;
    }

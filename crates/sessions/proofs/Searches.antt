-- A search by its tests: the first that fails refuses it, and after all of them it is one that overlooks nothing. Assumes nothing.
use Rattle.std.proofs.Common.{◌≡◌, Bool, true, false, cond, ◌&&◌, eqb, Option as Maybe, Some, None, Ok, Err, Result, refl, sym, ap, ◌∙◌, subst}
use Rattle.std.proofs.Math.Option.{Option, none, some, none-ne-some}
use Rattle.std.proofs.lemmas.Bool.{cond-true, cond-false}
use Rattle.chooser.specs.Meaning.{Meaning}
use Rattle.syntax.specs.Problems.{Problem}
use Rattle.finder.proofs.Extended.{same_self}
use Rattle.histories.specs.States.{Session as Abstract, State, not_begun, begun}
use Rattle.histories.specs.Calls.{Refusal, plain, between, seen, search_refusal, refused, answered, search_refused}
use Rattle.histories.proofs.Theorem.{nothing_overlooked}
use Rattle.answers.specs.declared.answer.Answer.{Answer}
use Rattle.rounds.specs.declared.search.Limits.{Limits}
use Rattle.sessions.specs.declared.session.Begun.{Begun}
use Rattle.sessions.specs.declared.session.Session.{Session}
use Rattle.sessions.specs.declared.faults.SessionFault.{SessionFault}
use Rattle.sessions.specs.declared.faults.SessionFault.TheVariants.{SmallBuffers, NotAsSeen}
use Rattle.sessions.specs.Faults.{refusal_of}
use Rattle.sessions.specs.Shown.{ShowsBegun, ShowsIn, Shows}
use Rattle.sessions.specs.Limits.{limits_refusal}
use Rattle.sessions.specs.Searching.{Sought, Searched}

passed : (a b : Bool) (x y : Refusal) → none ≡ cond a (cond b none (some y)) (some x) → (z : Option Refusal) → cond a (cond b z (some y)) (some x) ≡ z
passed true true x y e z = refl
passed true false x y e z = absurd (none-ne-some y e)
passed false b x y e z = absurd (none-ne-some x e)

stopped : (a b : Bool) (x y f : Refusal) → some f ≡ cond a (cond b none (some y)) (some x) → (z : Option Refusal)
    → cond a (cond b z (some y)) (some x) ≡ some f
stopped true true x y f e z = absurd (none-ne-some f (sym e))
stopped true false x y f e z = sym e
stopped false b x y f e z = sym e

seen_by : (x : Begun) (s : Abstract) (M : Meaning) → ShowsBegun x s → (eqb M.count x.count && eqb M.left x.left) ≡ seen (begun s) M
seen_by x s M h =
    ap (λ n. eqb M.count n && eqb M.left x.left) h.count ∙ ap (λ n. eqb M.count s.count && eqb M.left n) h.left

module _ (p : Problem) (l : Limits) (room : Bool) (M : Meaning) where
  refused_so : (S : State) (s : Session) (f : SessionFault) → search_refusal S M l.depth l.rounds l.steps room ≡ some (refusal_of f) → Shows s S
      → Searched p l room S M s M (Err f)
  refused_so S s f e h =
      let is = search_refused e same_self in
      record {
        refuses = sym e;
        finds = λ own. record {
          state = S;
          reply = refused (refusal_of f);
          searches = is;
          shows = h;
          tells = refl;
          overlooks_nothing = λ es k. nothing_overlooked es S S M M l.depth l.rounds l.steps room (refused (refusal_of f)) k is;
        };
      }

  pub beyond_limits : (S : State) (s : Session) (f : SessionFault) (r : Result Answer SessionFault) → r ≡ Err f
      → some (refusal_of f) ≡ limits_refusal l.depth l.rounds l.steps → Shows s S → Searched p l room S M s M r
  beyond_limits S s f r is e h =
      subst (Searched p l room S M s M) (sym is)
      (refused_so S s f (stopped (between 1 64 l.depth) (between 1 65535 l.rounds && between 1 4096 l.steps) (plain 40) (plain 41) (refusal_of f) e _) h)

  module _ (within : none ≡ limits_refusal l.depth l.rounds l.steps) where
    then_tests : (S : State) → search_refusal S M l.depth l.rounds l.steps room ≡ cond room (cond (seen S M) none (some (plain 43))) (some (plain 42))
    then_tests S = passed (between 1 64 l.depth) (between 1 65535 l.rounds && between 1 4096 l.steps) (plain 40) (plain 41) within _

    pub too_small : (S : State) (s : Session) → room ≡ false → Shows s S → Searched p l room S M s M (Err SmallBuffers)
    too_small S s e h = refused_so S s SmallBuffers (then_tests S ∙ cond-false _ _ _ e) h

    module _ (enough : room ≡ true) where
      unseen : (S : State) (s : Session) → seen S M ≡ false → Shows s S → Searched p l room S M s M (Err NotAsSeen)
      unseen S s e h = refused_so S s NotAsSeen (then_tests S ∙ cond-true _ _ _ enough ∙ cond-false _ _ _ e) h

      pub not_yet_begun : (S : State) (o : Maybe Begun) → o ≡ None → ShowsIn o S → Searched p l room S M (record { begun = o }) M (Err NotAsSeen)
      not_yet_begun not_begun o e h = unseen not_begun (record { begun = o }) refl h
      not_yet_begun (begun s) o e h = absurd (subst (λ b. ShowsIn b (begun s)) e h)

      pub not_as_seen : (S : State) (x : Begun) → (eqb M.count x.count && eqb M.left x.left) ≡ false → ShowsIn (Some x) S
          → Searched p l room S M (record { begun = Some x }) M (Err NotAsSeen)
      not_as_seen not_begun x e h = absurd h
      not_as_seen (begun s) x e h = unseen (begun s) (record { begun = Some x }) (sym (seen_by x s M h) ∙ e) h

      pub searched_so : {M' : Meaning} (S : State) (x x' : Begun) (a : Answer) → (eqb M.count x.count && eqb M.left x.left) ≡ true
          → ShowsIn (Some x) S → ((s : Abstract) → ShowsBegun x s → s.problem ≡ p → seen (begun s) M ≡ true → Sought l s M x' M' a)
          → Searched p l room S M (record { begun = Some x' }) M' (Ok a)
      searched_so not_begun x x' a e h sought = absurd h
      searched_so {M' = M'} (begun s) x x' a e h sought =
          let as_seen = sym (seen_by x s M h) ∙ e in
          let passes = then_tests (begun s) ∙ cond-true _ _ _ enough ∙ cond-true _ _ _ as_seen in
          record {
            refuses = sym passes;
            finds =
                λ own.
                let so = sought s h own as_seen in
                let is = so.searches room passes in
                record {
                  state = begun so.after;
                  reply = answered so.answer;
                  searches = is;
                  shows = so.shows;
                  tells = so.tells;
                  overlooks_nothing = λ es k. nothing_overlooked es (begun s) (begun so.after) M M' l.depth l.rounds l.steps room (answered so.answer) k is;
                };
          }

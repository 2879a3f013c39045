-- Goals under assignments: both judgements hold under all the assignment's choices, and a goal has one meaning there.
-- Assumes nothing.
use Rattle.std.proofs.Common.{◌≡◌, ℕ, Bool, true, false, cond, ◌&&◌, eqb, sym, refl, ap, ◌∙◌, suc-ne-zero}
use mathlib.Core.Option.{Option, none, some, none-ne-some}
use Rattle.std.proofs.lemmas.Bool.{eqb-true, both_ways}
use Rattle.syntax.specs.Values.{Value, Values, build}
use Rattle.syntax.specs.Problems.{Problem}
use Rattle.judging.specs.Held.{goal}
use Rattle.judging.specs.Judging.{is}
use Rattle.judging.specs.Paths.{Path, root, child, Decision, under}
use Rattle.judging.specs.Meaning.{Yields}
use Rattle.judging.specs.Explained.{Agrees}
use Rattle.judging.specs.Reached.{Reached, says, reached?, only_reached}
use Rattle.judging.specs.Assignments.{nth, argument, part, constructor_of, choice, ComesTrue}
use Rattle.judging.specs.Truth.{FalseForbids, TrueAllows, TrueMeans, ChoicesReached}
use Rattle.judging.proofs.Explained.{head_explained}
use Rattle.judging.proofs.Determined.{one_head, more_decided}
use Rattle.judging.proofs.Waiting.{head_true}
use Rattle.judging.proofs.Asked.{explained_decided, all_members, member}
use Rattle.judging.proofs.Reached.{restricted, goal_reached}

true_yields : (p : Problem) (α : Values) (g : ℕ) (t : ComesTrue p α g) → Yields p (under p (choice α)) (goal p g) 1 t.judging.args
true_yields p α g t =
    let j = t.judging in
    more_decided Path p (under p t.from) (choice α) t.among (goal p g) 1 j.args
    (head_true p (under p t.from) (goal p g) j.steps j.left (is 1 j.args t.because) j.judged)

pub true_means : TrueMeans
true_means p α g t = (t.judging.args, true_yields p α g t)

pub false_forbids : FalseForbids
false_forbids p δ g E j α chosen t =
    let decided = explained_decided Path p (under p δ) (goal p g) j.steps j.left 0 j.args E j.judged in
    let agrees : Agrees (under p δ) (choice α) E =
    all_members E (λ u m. let d = member m decided in chosen u d.0 m d.1 ∙ sym d.1) in
    let yields-false : Yields p (under p (choice α)) (goal p g) 0 j.args =
    head_explained Path p (under p δ) (goal p g) j.steps j.left 0 j.args E j.judged (choice α) agrees in
    suc-ne-zero 0 (one_head p (under p (choice α)) (true_yields p α g t) yields-false).0

-- what the test says
says_some : (o : Option ℕ) (c : ℕ) → says o c ≡ true → o ≡ some c
says_some none c e = absurd (both_ways false refl e)
says_some (some d) c e = ap some (eqb-true d c e)

and_left : (a b : Bool) → (a && b) ≡ true → a ≡ true
and_left true b e = refl
and_left false b e = e

and_right : (a b : Bool) → (a && b) ≡ true → b ≡ true
and_right true b e = e
and_right false b e = absurd (both_ways false refl e)

so_reached : (δ : Decision) (u : Path) → reached? δ u ≡ true → Reached δ u
so_reached δ (root k) e = tt
so_reached δ (child u c j) e =
    (says_some (δ u) c (and_left (says (δ u) c) (reached? δ u) e), so_reached δ u (and_right (says (δ u) c) (reached? δ u) e))

only_among : (δ : Decision) (u : Path) (c : ℕ) → only_reached δ u ≡ some c → Reached δ u × (δ u ≡ some c)
only_among δ u c e = go (reached? δ u) refl e
  where
    go : (b : Bool) → reached? δ u ≡ b → cond b (δ u) none ≡ some c → Reached δ u × (δ u ≡ some c)
    go true f e = (so_reached δ u f, e)
    go false f e = absurd (none-ne-some c e)

pub true_allows : TrueAllows
true_allows p δ g E j α chosen =
    record {
      from = only_reached δ;
      among = λ u c e. let r = only_among δ u c e in chosen u c r.0 r.1;
      because = E;
      judging = record {
        steps = j.steps;
        left = j.left;
        args = j.args;
        judged = restricted p δ (goal p g) (goal_reached p δ g) j.steps ∙ j.judged;
      };
    }

pub choices_reached : ChoicesReached
choices_reached α (root k) c e = tt
choices_reached α (child u d j) c e = (above (part α u) e, choices_reached α u d (above (part α u) e))
  where
    at : (b : Bool) (x : ℕ) (vs : Values) → eqb x d ≡ b → constructor_of (cond b (nth vs j) none) ≡ some c → some x ≡ some d
    at true x vs f e = ap some (eqb-true x d f)
    at false x vs f e = absurd (none-ne-some c e)

    above : (o : Option Value) → constructor_of (argument d j o) ≡ some c → constructor_of o ≡ some d
    above none e = absurd (none-ne-some c e)
    above (some (build x vs)) e = at (eqb x d) x vs refl e

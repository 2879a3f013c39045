-- The examples, by running the definition. Those that loop are out of steps at every depth. Assumes nothing.
use Rattle.std.proofs.Common.{◌≡◌, ℕ, zero, suc, [], ◌∷◌, refl, ap}
use mathlib.Core.Option.{none}
use Rattle.syntax.specs.Terms.{unknown, con, case, t[], ◌t∷◌}
use Rattle.judging.specs.Held.{Held, hold, Helds, h[], goal}
use Rattle.judging.specs.Judging.{go_on, give, join, and_right, judges}
use Rattle.judging.specs.Paths.{Path, root, Decision, under}
use Rattle.judging.specs.Examples.{NineSteps, RightAsked, loops, loop, AndRules, true_at_root, LeftForEver, CaseRules, PairRules, Examples}

nine_steps : NineSteps
unfolding judges
nine_steps = (refl, refl)

right_asked : RightAsked
unfolding judges
right_asked = (refl, refl)

and_rules : AndRules
unfolding judges
and_rules = (refl, refl, refl, refl, refl, refl, refl)

case_rules : CaseRules
unfolding judges
case_rules = (refl, refl, refl)

pair_rules : PairRules
unfolding judges
pair_rules = (refl, refl, refl, refl, refl, refl)

loops_at : (δ : Decision) (n s : ℕ) (ρ : Helds Path) → (judges loops (under loops δ) n).head (hold loop ρ) s ≡ none
unfolding judges
loops_at δ zero s ρ = refl
loops_at δ (suc n) zero ρ = refl
loops_at δ (suc n) (suc s) ρ = loops_at δ n s h[]

abbrev left : Held Path
left = hold (case 0 (unknown 0) (con 0 1 t[] t∷ loop t∷ t[])) h[]

left_at : (n s : ℕ) → (judges loops (under loops true_at_root) n).head left s ≡ none
unfolding judges
left_at zero s = refl
left_at (suc n) zero = refl
left_at (suc zero) (suc s) = refl
left_at (suc (suc n)) (suc zero) = refl
left_at (suc (suc n)) (suc (suc s)) = ap (go_on (λ r. give (join (root 0 ∷ []) r))) (loops_at true_at_root (suc n) s h[])

both_at : (n s : ℕ) → (judges loops (under loops true_at_root) n).head (goal loops 2) s ≡ none
unfolding judges
both_at zero s = refl
both_at (suc n) zero = refl
both_at (suc n) (suc s) = ap (go_on (and_right ((judges loops (under loops true_at_root) n).head (hold (con 0 0 t[]) h[])))) (left_at n s)

left_for_ever : LeftForEver
unfolding judges
left_for_ever = (refl, λ s. both_at s s)

pub examples : Examples
examples = (nine_steps, right_asked, λ δ s. loops_at δ s s h[], and_rules, left_for_ever, case_rules, pair_rules)

-- What a round asks of the chooser: the switches of the goals in force, and the denials to a depth. Assumes nothing.
use Rattle.std.specs.Prelude.{◌≡◌, ℕ, zero, suc, ◌+◌, Bool, true, false, cond, ◌&&◌, List, [], ◌∷◌, ◌++◌, length, nat_lt}
use Rattle.std.proofs.Math.Option.{Option, none, some}
use Rattle.chooser.specs.Ways.{lit, every}
use Rattle.chooser.specs.Meaning.{Meaning}
use Rattle.syntax.specs.Problems.{Problem}
use Rattle.judging.specs.Paths.{Path}
use Rattle.finder.specs.Levels.{Measures, reach, fits}
use Rattle.finder.specs.Tables.{Table, width}
use Rattle.finder.specs.Ways.{Way}
use Rattle.finder.specs.Clauses.{on, off}

-- the switches of those of the first m goals that are in force
abbrev pub switches_on : (ℕ → Bool) → ℕ → List ℕ
switches_on force zero = []
switches_on force (suc m) = cond (force m) (switches_on force m ++ (on m ∷ [])) (switches_on force m)

abbrev pub switches : Problem → (ℕ → Bool) → List ℕ
switches p force = switches_on force (length p.goals)

-- Denied are the cases that reach beyond n, of opened unknowns that fit n. To deny those of an unknown that does not fit
-- would leave it no case at all, and so rule out ways whose values never come to it.
abbrev pub deep_cases : Problem → Measures → ℕ → Path → ℕ → ℕ → List ℕ
deep_cases p d n u a zero = []
deep_cases p d n u a (suc m) = cond (nat_lt n (reach p d u m)) (deep_cases p d n u a m ++ (off (a + m) ∷ [])) (deep_cases p d n u a m)

abbrev pub denials_at : Problem → Measures → ℕ → Path → Option ℕ → List ℕ
denials_at p d n u none = []
denials_at p d n u (some a) = cond (fits p d n u) (deep_cases p d n u a (width p u)) []

abbrev pub denials : Problem → Measures → ℕ → Table → List ℕ
denials p d n [] = []
denials p d n (x ∷ T) = denials_at p d n x.path x.first ++ denials p d n T

abbrev pub asked : Problem → Measures → (ℕ → Bool) → ℕ → Table → List ℕ
asked p d force n T = switches p force ++ denials p d n T

-- the chooser allows w, and w meets the assumptions
pub record Picks (M : Meaning) (assumptions : List ℕ) (w : Way) : Type 0 where
  pub allowed : M.ways w ≡ true
  pub meets : every (lit w) assumptions ≡ true

-- it allows no way that does
abbrev pub Refuses : Meaning → List ℕ → Type 0
Refuses M assumptions = (w : Way) → (M.ways w && every (lit w) assumptions) ≡ false

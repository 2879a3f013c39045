-- What a trail of literals says. X tells which ways are allowed.
use Rattle.std.specs.Prelude.{◌≡◌, ℕ, ◌+◌, ◌/◌, ◌<◌, ◌≤◌, Bool, true, List, [], ◌∷◌, ◌++◌, length, Some, None, Option, Contains, ◌≢◌, slice_index, map}
use Rattle.chooser.specs.Ways.{lit, every, allotted, written}
use Rattle.rows.specs.Lits.{opposite}
use Rattle.backtrack.specs.Values.{Opened, opens}
use Rattle.backtrack.specs.declared.trail.Step.{Step}
use Rattle.backtrack.specs.declared.trail.Step.TheVariants.{Decided, Follows}

abbrev pub lit_of : Step → ℕ
lit_of (Decided l) = l
lit_of (Follows l) = l

abbrev pub lits : List Step → List ℕ
lits steps = map lit_of steps

-- the digit of a step in the trail's weight
abbrev pub digit_of : Step → ℕ
digit_of (Decided l) = 1
digit_of (Follows l) = 2

abbrev pub marks : List Step → List ℕ
marks steps = map digit_of steps

-- each allowed way that has these literals has this one too
abbrev pub Leads : ((ℕ → Bool) → Bool) → List ℕ → ℕ → Type 0
Leads X before l = (p : ℕ → Bool) → X p ≡ true → every (lit p) before ≡ true → lit p l ≡ true

-- no allowed way has these literals
abbrev pub Dead : ((ℕ → Bool) → Bool) → List ℕ → Type 0
Dead X ls = (p : ℕ → Bool) → X p ≡ true → every (lit p) ls ≡ true → ⊥

-- a literal that was decided needs no reason, and one that follows has one in those before it
abbrev pub Founded : ((ℕ → Bool) → Bool) → List ℕ → Step → Type 0
Founded X before (Decided l) = Unit {0}
Founded X before (Follows l) = Leads X before l

abbrev pub Sound : ((ℕ → Bool) → Bool) → List ℕ → List Step → Type 0
Sound X before [] = Unit {0}
Sound X before (s ∷ ss) = Founded X before s × Sound X (before ++ (lit_of s ∷ [])) ss

-- a literal of the trail that gave variable k its value
pub record Witness (values ls : List ℕ) (k : ℕ) : Type 0 where
  pub literal : ℕ
  pub on : Contains ls literal
  pub names : literal / 2 ≡ k
  pub true_there : lit (written values) literal ≡ true

pub record Trail (X : (ℕ → Bool) → Bool) (values : List ℕ) (steps : List Step) : Type 0 where
  pub small : (k : ℕ) → slice_index values k ≤ 2
  pub witness : (k : ℕ) → k < length values → (slice_index values k ≢ 2) → Witness values (lits steps) k
  pub named : allotted (length values) (lits steps) ≡ true
  pub counted : opens values + length steps ≤ length values
  pub sound : Sound X [] steps

-- the steps were taken back to a decision, and that too
pub record Undone (X : (ℕ → Bool) → Bool) (old : List Step) (values : List ℕ) (steps : List Step) (l : ℕ) : Type 0 where
  pub goes : Trail X values steps
  pub opened : Opened values l
  pub flips : Leads X (lits steps) (opposite l)
  pub behind : List Step
  pub was : old ≡ steps ++ (Decided l ∷ behind)

-- what is left where no allowed way has the trail's literals
abbrev pub TakenBack : ((ℕ → Bool) → Bool) → List Step → List ℕ → List Step → Option ℕ → Type 0
TakenBack X old values steps (Some l) = Undone X old values steps l
TakenBack X old values steps None = (p : ℕ → Bool) → X p ≡ true → ⊥

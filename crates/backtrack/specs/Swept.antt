-- What a pass over clauses comes to. X tells which ways are allowed.
use Rattle.std.specs.Prelude.{◌≡◌, ℕ, Bool, true, List, [], ◌∷◌, ◌++◌, Ok, Err, Result, Some, None, Option, map}
use Rattle.std.specs.List.{list_all}
use Rattle.chooser.specs.Ways.{lit, some, written}
use Rattle.backtrack.specs.Values.{Opened}
use Rattle.backtrack.specs.Trail.{Trail, Dead, lits}
use Rattle.backtrack.specs.declared.trail.Step.{Step}
use Rattle.backtrack.specs.declared.Clash.{Clash}
use Rattle.backtrack.specs.declared.Pass.{Pass}
use Rattle.backtrack.specs.declared.Pass.TheVariants.{Moved, Open, Met}

-- each clause has a literal that the way makes true
abbrev pub met : List (List ℕ) → (ℕ → Bool) → Bool
met clauses p = list_all (some (lit p)) clauses

-- each assumption as a clause of one literal
abbrev pub singles : List ℕ → List (List ℕ)
singles assumptions = map (λ l. l ∷ []) assumptions

-- while nothing was put on the trail: what is left decides whether the values are allowed, or a literal is open
abbrev pub Calm : ((ℕ → Bool) → Bool) → List (List ℕ) → List ℕ → Option ℕ → Type 0
Calm X left values None = X (written values) ≡ met left (written values)
Calm X left values (Some l) = Opened values l

-- what is known while clauses are left to be looked at
pub record Passing (X : (ℕ → Bool) → Bool) (left : List (List ℕ)) (start : List Step) (values : List ℕ) (steps : List Step) (open-literal : Option ℕ) : Type 0 where
  pub goes : Trail X values steps
  pub more : List Step
  pub grown : steps ≡ start ++ more
  pub owed : (p : ℕ → Bool) → X p ≡ true → met left p ≡ true
  pub calm : more ≡ [] → Calm X left values open-literal

-- a clause is false
pub record Clashed (X : (ℕ → Bool) → Bool) (start : List Step) (values : List ℕ) (steps : List Step) : Type 0 where
  pub goes : Trail X values steps
  pub more : List Step
  pub grown : steps ≡ start ++ more
  pub dead : Dead X (lits steps)

abbrev pub Visited : {U : Type 0} → ((ℕ → Bool) → Bool) → List (List ℕ) → List Step → List ℕ → List Step → Option ℕ → Result U Clash → Type 0
Visited X left start values steps open-literal (Ok u) = Passing X left start values steps open-literal
Visited X left start values steps open-literal (Err e) = Clashed X start values steps

abbrev pub Passed : ((ℕ → Bool) → Bool) → List Step → List ℕ → List Step → Pass → Type 0
Passed X more values steps Moved = (more ≡ [] → ⊥)
Passed X more values steps (Open l) = Opened values l
Passed X more values steps Met = X (written values) ≡ true

pub record Whole (X : (ℕ → Bool) → Bool) (start : List Step) (values : List ℕ) (steps : List Step) (pass : Pass) : Type 0 where
  pub goes : Trail X values steps
  pub more : List Step
  pub grown : steps ≡ start ++ more
  pub ends : Passed X more values steps pass

abbrev pub Swept : ((ℕ → Bool) → Bool) → List Step → List ℕ → List Step → Result Pass Clash → Type 0
Swept X start values steps (Ok pass) = Whole X start values steps pass
Swept X start values steps (Err e) = Clashed X start values steps

-- The computed least depths and needs of a lawful problem obey the laws of depth, so what the laws give holds of them.
-- Assumes nothing.
use Rattle.std.proofs.Common.{◌≡◌, ℕ, ◌<◌, Bool, true, false, ◌&&◌, List, subst, arith}
use Rattle.chooser.specs.Ways.{lit, every}
use Rattle.syntax.specs.Typing.{Declared, constructors}
use Rattle.syntax.specs.Values.{Values}
use Rattle.syntax.specs.Problems.{Problem, sig_of, Lawful}
use Rattle.depths.specs.Laws.{Depths}
use Rattle.depths.proofs.Lawfulness.{lawful_types}
use Rattle.depths.proofs.Obeying.{depths_stand_lem}
use Rattle.judging.specs.Assignments.{Assigns}
use Rattle.finder.specs.Levels.{measures, measured, too_shallow, Within}
use Rattle.finder.specs.Tables.{Table, Tabled}
use Rattle.finder.specs.Ways.{Way, decided}
use Rattle.finder.specs.Conflicts.{Conflict}
use Rattle.finder.specs.Asking.{switches, asked}
use Rattle.finder.specs.Models.{JudgesTrue, Solves}
use Rattle.finder.specs.Invariant.{Sound}
use Rattle.finder.specs.Claims.{ModelRight}
use Rattle.finder.proofs.Models.{models_stand_lem}
use Rattle.finder.proofs.Assigned.{none_stands_lem, never_stands_lem, shallow_stands_lem}

module _ (p : Problem) (L : Lawful p) where
  laws : Depths (sig_of p)
  laws = (depths_stand_lem (sig_of p) (lawful_types p L).0).0

  same : measured laws ≡ measures p
  unfolding laws
  same =
      let q = depths_stand_lem (sig_of p) (lawful_types p L).0 in
      λ i. record { cost = q.1 i; least = q.2 i; need = q.3 i }

  pub some_constructor : (t : ℕ) → Declared (sig_of p) t → 0 < constructors (sig_of p) t
  some_constructor t d = let l = laws.easiest_is t d in omega (arith, l)

  pub model_right : (T : Table) (count n : ℕ) (force : ℕ → Bool) (steps : ℕ) (w : Way) → Tabled p T count
      → too_shallow p (measures p) n ≡ false → every (lit w) (asked p (measures p) force n T) ≡ true
      → JudgesTrue p (decided p T w) force steps → ModelRight p (decided p T w) n force steps
  model_right T count n force steps w tab =
      subst
      (λ d. too_shallow p d n ≡ false → every (lit w) (asked p d force n T) ≡ true → JudgesTrue p (decided p T w) force steps
      → ModelRight p (decided p T w) n force steps)
      same (models_stand_lem p laws T count n force steps w L tab)

  pub none_right : (T : Table) (R : List Conflict) (count n : ℕ) (ways : Way → Bool) (force : ℕ → Bool) → Sound p T R count ways
      → ((w : Way) → (ways w && every (lit w) (asked p (measures p) force n T)) ≡ false)
      → (α : Values) → Assigns p α → Within p n α → Solves p force α → ⊥
  none_right T R count n ways force S =
      subst
      (λ d. ((w : Way) → (ways w && every (lit w) (asked p d force n T)) ≡ false) → (α : Values) → Assigns p α → Within p n α → Solves p force α → ⊥)
      same (none_stands_lem p laws T R count n ways force L S)

  pub never_right : (T : Table) (R : List Conflict) (count : ℕ) (ways : Way → Bool) (force : ℕ → Bool) → Sound p T R count ways
      → ((w : Way) → (ways w && every (lit w) (switches p force)) ≡ false) → (α : Values) → Assigns p α → Solves p force α → ⊥
  never_right T R count ways force S = never_stands_lem p laws T R count ways force L S

  pub shallow_right : (n : ℕ) → too_shallow p (measures p) n ≡ true → (α : Values) → Assigns p α → Within p n α → ⊥
  shallow_right n =
      subst (λ d. too_shallow p d n ≡ true → (α : Values) → Assigns p α → Within p n α → ⊥) same (shallow_stands_lem p laws n L)

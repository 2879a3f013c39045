-- Judging by one kind of unknowns as judging by another: by the numbers of a table or the places of a written model as by the
-- paths that they name. Assumes nothing.
use Rattle.std.specs.Prelude.{◌≡◌, ℕ, ◌<◌, map, length}
use Rattle.std.proofs.Math.Option.{Option, none, some}
use Rattle.syntax.specs.Problems.{Problem, sig_of, Lawful}
use Rattle.judging.specs.Held.{Held, hold, free, Helds, h[], ◌h∷◌, goal}
use Rattle.judging.specs.Judging.{Unknowns, Head, is, waits, Verdict, same, differ, wait, judge}
use Rattle.judging.specs.Paths.{Path, root, Decision, children, under}
use Rattle.judging.specs.Asked.{Asked}

module _ {U V : Type 0} (name : U → V) where
  abbrev mutual
    pub named : Held U → Held V
    named (hold t ρ) = hold t (nameds ρ)
    named (free u) = free (name u)

    pub nameds : Helds U → Helds V
    nameds h[] = h[]
    nameds (h h∷ ρ) = named h h∷ nameds ρ

  abbrev pub named_head : Head U → Head V
  named_head (is c xs E) = is c (nameds xs) (map name E)
  named_head (waits u) = waits (name u)

  abbrev pub named_verdict : Verdict U → Verdict V
  named_verdict (same E) = same (map name E)
  named_verdict (differ E) = differ (map name E)
  named_verdict (wait u) = wait (name u)

-- a judging's result, with the same steps left
abbrev pub result : {A B : Type 0} → (A → B) → Option (A × ℕ) → Option (B × ℕ)
result f none = none
result f (some r) = some (f r.0, r.1)

-- The paths of K's unknowns are right, as far as judging a goal asks: for the unknowns of the problem, for the children of
-- what is decided, and in what is decided.
pub record Names (p : Problem) (K : Unknowns ℕ) (path : ℕ → Path) (δ : Decision) : Type 0 where
  pub at_roots : (k : ℕ) → k < length p.unknowns → path (K.roots k) ≡ root k
  pub at_kids : (u c : ℕ) → Asked p K u → K.chosen u ≡ some c → map path (K.kids u c) ≡ children (sig_of p) (path u) c
  pub at_chosen : (u : ℕ) → Asked p K u → δ (path u) ≡ K.chosen u

-- then judging by numbers is judging by paths, step for step, with the explanation named
abbrev pub ByNames : Type 0
ByNames =
    (p : Problem) → Lawful p → (K : Unknowns ℕ) (path : ℕ → Path) (δ : Decision) → Names p K path δ
    → (g s : ℕ) → judge p (under p δ) (goal p g) s ≡ result (named_head path) (judge p K (goal p g) s)

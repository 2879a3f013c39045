-- What held terms mean: a relation, with no steps, no waiting and no explanations, in which either side's false makes an
-- `and` false. Assumes nothing.
use Rattle.std.specs.Prelude.{◌≡◌, ℕ, suc}
use Rattle.std.proofs.Math.Option.{some}
use Rattle.syntax.specs.Terms.{Term, var, unknown, con, call, case, both, not, equal, Terms}
use Rattle.syntax.specs.Problems.{Problem}
use Rattle.judging.specs.Held.{Held, hold, free, Helds, h[], ◌h∷◌, branch, body_of, bound, holds, frees, ◌h++◌}
use Rattle.judging.specs.Judging.{Unknowns}

mutual
  -- h yields the constructor c with these arguments
  pub data Yields {U : Type 0} (p : Problem) (K : Unknowns U) : Held U → ℕ → Helds U → Type 0 where
    y_free : {u : U} {c : ℕ} → K.chosen u ≡ some c → Yields p K (free u) c (frees (K.kids u c))
    y_unknown : {k c : ℕ} {ρ : Helds U} → K.chosen (K.roots k) ≡ some c
        → Yields p K (hold (unknown k) ρ) c (frees (K.kids (K.roots k) c))
    y_var : {v c : ℕ} {ρ xs : Helds U} → Yields p K (bound ρ v) c xs → Yields p K (hold (var v) ρ) c xs
    y_con : {t c : ℕ} {ts : Terms} {ρ : Helds U} → Yields p K (hold (con t c ts) ρ) c (holds ts ρ)
    y_call : {f c : ℕ} {ts : Terms} {ρ xs : Helds U}
        → Yields p K (hold (body_of p f) (holds ts ρ)) c xs → Yields p K (hold (call f ts) ρ) c xs
    y_case : {t c d : ℕ} {a : Term} {bs : Terms} {ρ xs ys : Helds U} → Yields p K (hold a ρ) c xs
        → Yields p K (hold (branch bs c) (ρ h++ xs)) d ys → Yields p K (hold (case t a bs) ρ) d ys
    y_not_false : {a : Term} {ρ xs : Helds U} → Yields p K (hold a ρ) 0 xs → Yields p K (hold (not a) ρ) 1 h[]
    y_not_true : {a : Term} {c : ℕ} {ρ xs : Helds U} → Yields p K (hold a ρ) (suc c) xs → Yields p K (hold (not a) ρ) 0 h[]
    y_left : {a b : Term} {ρ xs : Helds U} → Yields p K (hold a ρ) 0 xs → Yields p K (hold (both a b) ρ) 0 h[]
    y_right : {a b : Term} {ρ xs : Helds U} → Yields p K (hold b ρ) 0 xs → Yields p K (hold (both a b) ρ) 0 h[]
    y_both : {a b : Term} {c d : ℕ} {ρ xs ys : Helds U} → Yields p K (hold a ρ) (suc c) xs → Yields p K (hold b ρ) (suc d) ys
        → Yields p K (hold (both a b) ρ) 1 h[]
    y_same : {t : ℕ} {a b : Term} {ρ : Helds U} → Same p K (hold a ρ) (hold b ρ) → Yields p K (hold (equal t a b) ρ) 1 h[]
    y_differ : {t : ℕ} {a b : Term} {ρ : Helds U} → Differs p K (hold a ρ) (hold b ρ) → Yields p K (hold (equal t a b) ρ) 0 h[]

  -- l and r yield the same value
  pub data Same {U : Type 0} (p : Problem) (K : Unknowns U) : Held U → Held U → Type 0 where
    s_same : {l r : Held U} {c : ℕ} {xs ys : Helds U} → Yields p K l c xs → Yields p K r c ys → SameAll p K xs ys → Same p K l r

  -- pair by pair, as far as both go on
  pub data SameAll {U : Type 0} (p : Problem) (K : Unknowns U) : Helds U → Helds U → Type 0 where
    s_none : {ys : Helds U} → SameAll p K h[] ys
    s_end : {x : Held U} {xs : Helds U} → SameAll p K (x h∷ xs) h[]
    s_pair : {x y : Held U} {xs ys : Helds U} → Same p K x y → SameAll p K xs ys → SameAll p K (x h∷ xs) (y h∷ ys)

  -- somewhere l and r yield different constructors
  pub data Differs {U : Type 0} (p : Problem) (K : Unknowns U) : Held U → Held U → Type 0 where
    d_head : {l r : Held U} {c d : ℕ} {xs ys : Helds U} → Yields p K l c xs → Yields p K r d ys → ¬ (c ≡ d) → Differs p K l r
    d_pair : {l r : Held U} {c : ℕ} {xs ys : Helds U} → Yields p K l c xs → Yields p K r c ys → SomeDiffer p K xs ys
        → Differs p K l r

  pub data SomeDiffer {U : Type 0} (p : Problem) (K : Unknowns U) : Helds U → Helds U → Type 0 where
    d_here : {x y : Held U} {xs ys : Helds U} → Differs p K x y → SomeDiffer p K (x h∷ xs) (y h∷ ys)
    d_later : {x y : Held U} {xs ys : Helds U} → SomeDiffer p K xs ys → SomeDiffer p K (x h∷ xs) (y h∷ ys)

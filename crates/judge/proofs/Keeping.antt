-- What stands at the start of a call stands at its end.
use Rattle.std.proofs.Common.{ℕ, None, Option}
use Rattle.syntax.specs.Terms.{Term}
use Rattle.judging.specs.Held.{Held, Helds}
use Rattle.held.specs.Standing.{Stands, Env, Row}
use Rattle.held.specs.declared.places.Held.{Held as Code}
use Rattle.held.proofs.Standing.{stands_grows, binds_grows, row_grows}
use Rattle.judge.specs.declared.left.Budget.{Budget}
use Rattle.judge.specs.Means.{Kept}

module _ (R : ℕ → Term → Type 0) {spare : ℕ} {a b : Budget} (k : Kept spare a b) where
  pub stands_kept : (x : Code) (h : Held ℕ) → Stands R a.memory.places.now a.memory.top x h → Stands R b.memory.places.now b.memory.top x h
  stands_kept = stands_grows R a.memory.places.now b.memory.places.now a.memory.top b.memory.top k.top k.same

  pub env_kept : (e : Option ℕ) (ρ : Helds ℕ) → Env R a.memory.places.now a.memory.top e ρ → Env R b.memory.places.now b.memory.top e ρ
  env_kept = binds_grows R a.memory.places.now b.memory.places.now a.memory.top b.memory.top k.top k.same 0 None

  pub row_kept : (i : ℕ) (hs : Helds ℕ) → Row R a.memory.places.now a.memory.top i hs → Row R b.memory.places.now b.memory.top i hs
  row_kept = row_grows R a.memory.places.now b.memory.places.now a.memory.top b.memory.top k.top k.same

use Rattle.std.proofs.Common.{◌≡◌, ℕ, ◌+◌, ◌-◌, ◌≤◌, Option, length}
use Rattle.judging.specs.Held.{Helds}
use Rattle.held.specs.declared.memory.Memory.{Memory}
use Rattle.held.specs.Reading.{Text, Reads}
use Rattle.held.specs.Standing.{hlength, Env, Row, Same}
use Rattle.held.proofs.Standing.{Bound}
use Rattle.held.proofs.memory.Memory.bind.Given as goal

pub record Bindings (a b : Memory) (start count at : ℕ) (env link : Option ℕ) : Type 0 where
  pub long : length b.places.now ≡ length a.places.now
  pub top : b.top + start ≡ a.top + at
  pub few : at ≤ start + count
  pub same : Same a.places.now b.places.now a.top
  pub bound : (x : Text) (xs ρ : Helds ℕ) → count ≡ hlength xs → Row (Reads x) a.places.now a.top start xs
      → Env (Reads x) a.places.now a.top env ρ → Bound (Reads x) b.places.now b.top link ρ xs at (start + count - at)

abbrev pub invariant-loop-argument : goal.invariant-loop-argument
invariant-loop-argument l = Bindings l.fn.self l.self l.start l.count l.argument l.fn.env l.bound

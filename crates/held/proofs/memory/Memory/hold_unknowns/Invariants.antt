use Rattle.std.proofs.Common.{◌≡◌, ℕ, ◌+◌, ◌<◌, List, length, get_or}
use Rattle.held.specs.declared.places.Held.TheVariants.{Unknown}
use Rattle.held.specs.declared.memory.Memory.{Memory}
use Rattle.held.specs.Standing.{no_place, Same}
use Rattle.held.proofs.memory.Memory.hold_unknowns.Given as goal

pub record Written (a b : Memory) (unknowns : List ℕ) (index : ℕ) : Type 0 where
  pub long : length b.places.now ≡ length a.places.now
  pub top : b.top ≡ a.top + index
  pub same : Same a.places.now b.places.now a.top
  pub held : (k : ℕ) → k < index → (get_or b.places.now (a.top + k) no_place).held ≡ Unknown (get_or unknowns k 0)

abbrev pub invariant-loop-unknown : goal.invariant-loop-unknown
invariant-loop-unknown l = Written l.initial.self l.self l.unknowns l.unknown-index

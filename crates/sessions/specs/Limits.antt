-- The first tests of a search. Assumes nothing.
use Rattle.std.specs.Prelude.{ℕ, ◌*◌, Bool, cond, ◌&&◌, nat_le}
use Rattle.std.proofs.Math.Option.{Option, none, some}
use Rattle.histories.specs.Calls.{Refusal, plain, between}

-- its depth, and then its rounds and steps
abbrev pub limits_refusal : (n rounds steps : ℕ) → Option Refusal
limits_refusal n rounds steps =
    cond (between 1 64 n) (cond (between 1 65535 rounds && between 1 4096 steps) none (some (plain 41))) (some (plain 40))

-- six places for each step, and a byte and a literal for each of so many variables
abbrev pub suffice : (most steps places bytes literals : ℕ) → Bool
suffice most steps places bytes literals = nat_le (6 * steps) places && (nat_le most bytes && nat_le most literals)

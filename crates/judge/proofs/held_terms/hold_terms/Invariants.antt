use Rattle.std.proofs.Common.{◌≡◌, ℕ, ◌+◌, ◌-◌, Option, length}
use Rattle.syntax.specs.Terms.{Terms}
use Rattle.judging.specs.Held.{Helds}
use Rattle.held.specs.declared.memory.Memory.{Memory}
use Rattle.held.specs.Reading.{Text, Reads}
use Rattle.held.specs.Standing.{Env, Same}
use Rattle.judge.specs.Texts.{text_of, ReadsAll, tlength}
use Rattle.judge.proofs.Holding.{Holding}
use Rattle.judge.proofs.held_terms.hold_terms.Given as goal

pub record Held (x : Text) (a b : Memory) (place at count counter : ℕ) (env onto link : Option ℕ) : Type 0 where
  pub long : length b.places.now ≡ length a.places.now
  pub top : b.top ≡ a.top + counter
  pub same : Same a.places.now b.places.now a.top
  pub held : (ts : Terms) (ρ : Helds ℕ) → count ≡ tlength ts → ReadsAll x place ts → Env (Reads x) a.places.now a.top env ρ
      → Holding x a.places.now b.places.now a.top b.top at (count - counter) env onto link ts ρ

abbrev pub invariant-loop : goal.invariant-loop
invariant-loop l =
    Held (text_of l.problem) l.fn.memory l.memory l.fn.place l.place l.count l.counter l.env l.fn.onto l.bound

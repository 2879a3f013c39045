use Rattle.std.proofs.Common.{ℕ, ◌-◌, None, sym, refl, ap, subst, arith}
use Rattle.judging.specs.Held.{Held, bound}
use Rattle.held.specs.declared.places.Held.{Held as Code}
use Rattle.held.specs.declared.places.Held.TheVariants.{Missing}
use Rattle.held.specs.declared.places.Place.{Place}
use Rattle.held.specs.Reading.{Reads}
use Rattle.held.specs.Standing.{Stands}
use Rattle.held.proofs.Standing.{env_size, found, unbound}
use Rattle.held.proofs.memory.Memory.lookup.Goals as goal

pub returns-then-variable-size : goal.returns-then-variable-size
returns-then-variable-size c x top ρ b =
    let m = c.args.self.now.places.now in
    let size = ap (λ (p : Place). p.size) c.linked-size.ensures in
    let low = env_size (Reads x) m top c.args.env ρ b in
    subst (λ (y : Code). Stands (Reads x) m top y (bound ρ c.args.variable)) (sym c.walk.ensures)
    (found (Reads x) m top 0 None c.args.env (c.linked-size.result.size - 1 - c.from-variable.result) c.args.variable ρ (omega (arith, c.from-variable.ensures)) b)

pub returns-else-variable-size : goal.returns-else-variable-size
returns-else-variable-size c x top ρ b =
    let m = c.args.self.now.places.now in
    let size = ap (λ (p : Place). p.size) c.linked-size.ensures in
    let low = env_size (Reads x) m top c.args.env ρ b in
    subst (λ (h : Held ℕ). Stands (Reads x) m top Missing h) (sym (unbound ρ c.args.variable (omega (arith, c.from-variable.ensures)))) refl

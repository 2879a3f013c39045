use Rattle.std.proofs.Common.{◌+◌, ap, arith}
use Rattle.held.specs.declared.places.Place.{Place}
use Rattle.held.specs.Reading.{Reads}
use Rattle.held.proofs.Standing.{env_push, env_size}
use Rattle.held.proofs.memory.Memory.push.Goals as goal

pub returns-clause-bound : goal.returns-clause-bound
returns-clause-bound c x ρ h b s =
    let m = c.args.self.now.places.now in
    let top = c.args.self.now.top in
    let low = env_size (Reads x) m top c.args.env ρ b in
    let size = ap (λ (p : Place). p.size) c.linked.ensures in
    rw (c.put.ensures.places, c.put.ensures.top, c.to.ensures)
    (env_push (Reads x) m top c.args.env (c.min-size.result + 1) c.args.held ρ h c.requires (omega (arith, c.min-size.ensures)) b s)

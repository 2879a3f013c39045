use Rattle.std.proofs.Common.{sym, refl, arith}
use Rattle.records.proofs.Nexts.{starts_long, entered}
use Rattle.records.proofs.reader.Reader.enter.Goals as goal

pub invariant_of-self : goal.invariant_of-self
invariant_of-self c =
    let s = c.args.self.now in
    record { within = starts_long s.bytes.now s.at c.args.mark.high c.args.mark.low (sym c.if-not-starts.ensures) }

pub returns : goal.returns
returns c =
    let s = c.args.self.now in
    let there = sym c.if-not-starts.ensures in
    (refl, refl, omega arith, there, entered s.bytes.now s.at c.args.mark.high c.args.mark.low there)

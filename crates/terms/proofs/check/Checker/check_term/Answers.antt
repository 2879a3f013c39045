use Rattle.std.proofs.Common.{sym, subst}
use Rattle.reading.specs.Verdicts.{Says}
use Rattle.reading.proofs.Verdicts.{says}
use Rattle.terms.proofs.check.Checker.check_term.Goals as goal

pub returns-clause-says : goal.returns-clause-says
returns-clause-says c =
    let sig = c.args.self.now in
    let s = c.args.variables.now in
    let bytes = c.args.bytes.now in
    subst (Says sig s c.args.wanted c.args.base bytes) (sym c.run.ensures.exact) (says sig s c.args.wanted c.args.base bytes)

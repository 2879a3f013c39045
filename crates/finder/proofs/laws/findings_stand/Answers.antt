use Rattle.finder.proofs.Findings.{findings_stand_lem}
use Rattle.finder.proofs.laws.findings_stand.Goals as goal

pub returns : goal.returns
returns c = findings_stand_lem

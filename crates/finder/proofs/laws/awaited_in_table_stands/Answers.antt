use Rattle.finder.proofs.Findings.{awaited_in_table}
use Rattle.finder.proofs.laws.awaited_in_table_stands.Goals as goal

pub returns : goal.returns
returns c = awaited_in_table

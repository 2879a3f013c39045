use Rattle.depths.proofs.Obeying.{depths_stand_lem}
use Rattle.depths.proofs.Lawfulness.{lawful_types}
use Rattle.depths.proofs.laws.depths_stand.Goals as goal

pub returns : goal.returns
returns c = record { laws = depths_stand_lem; lawful = lawful_types }

use Rattle.models.proofs.Replays.{written_replays_lem}
use Rattle.models.proofs.laws.written_replays.Goals as goal

pub returns : goal.returns
returns c = written_replays_lem

use Rattle.models.proofs.Replays.{replay_answers_lem}
use Rattle.models.proofs.laws.replay_answers.Goals as goal

pub returns : goal.returns
returns c = replay_answers_lem

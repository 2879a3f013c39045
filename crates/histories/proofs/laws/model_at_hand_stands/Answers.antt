use Rattle.histories.proofs.Theorem.{model_at_hand}
use Rattle.histories.proofs.laws.model_at_hand_stands.Goals as goal

pub returns : goal.returns
returns c = model_at_hand

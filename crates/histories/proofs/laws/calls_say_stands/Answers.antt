use Rattle.histories.proofs.Said.{calls_say}
use Rattle.histories.proofs.laws.calls_say_stands.Goals as goal

pub returns : goal.returns
returns c = calls_say

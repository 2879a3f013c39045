use Rattle.finder.proofs.Invariant.{recording_keeps}
use Rattle.finder.proofs.laws.recording_keeps_stands.Goals as goal

pub returns : goal.returns
returns c = recording_keeps

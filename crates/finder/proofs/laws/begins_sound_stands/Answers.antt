use Rattle.finder.proofs.Invariant.{begins_sound}
use Rattle.finder.proofs.laws.begins_sound_stands.Goals as goal

pub returns : goal.returns
returns c = begins_sound

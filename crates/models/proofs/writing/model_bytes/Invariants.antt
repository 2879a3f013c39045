use Rattle.problem.specs.Meant.{meant}
use Rattle.models.proofs.Recording.{Recorded}
use Rattle.models.proofs.writing.model_bytes.Given as goal

abbrev pub invariant-loop-unknown : goal.invariant-loop-unknown
invariant-loop-unknown l = Recorded (meant l.problem) l.table l.cases l.bytes.items l.unknown

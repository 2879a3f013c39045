-- The numbers of a fault: its own, that of the fault that is inside, and the place of the byte at fault. Assumes nothing.
use Rattle.std.specs.Prelude.{ℕ}
use Rattle.std.proofs.Math.Option.{get_or}
use Rattle.syntax.specs.Faults.{number_of as number_of_reason}
use Rattle.sessions.specs.Faults.{number_of as number_of_refused, inside_of as inside_of_refused}
use Rattle.replay.specs.Numbers.{number_of as number_of_replay}
use Rattle.replay.specs.declared.faults.ReplayFault.{ReplayFault}
use Rattle.replay.specs.declared.faults.ReplayFault.TheVariants.{Steps, Places, AnswerLength, BadModel}
use Rattle.telling.specs.Refusals.{number_of as number_of_text}
use Rattle.telling.specs.declared.faults.TellFault.{TellFault}
use Rattle.telling.specs.declared.faults.TellFault.TheVariants.{BadModel as NoModelToTell, SmallOutput as NoRoom}
use Rattle.boundary.specs.declared.faults.LoadFault.{LoadFault}
use Rattle.boundary.specs.declared.faults.LoadFault.TheVariants.{BadProblem, NotSearched, NotReplayed, NotTold, NoAnswer, NoMemory}

abbrev pub number_of : LoadFault → ℕ
number_of (BadProblem f) = number_of_reason f.reason
number_of (NotSearched f) = number_of_refused f
number_of (NotReplayed f) = number_of_replay f
number_of (NotTold f) = number_of_text f
number_of NoAnswer = 70
number_of NoMemory = 71

abbrev pub inside_replay : ReplayFault → ℕ
inside_replay Steps = 0
inside_replay Places = 0
inside_replay AnswerLength = 0
inside_replay (BadModel f) = number_of_reason f.reason

abbrev pub inside_text : TellFault → ℕ
inside_text (NoModelToTell f) = number_of_reason f.reason
inside_text NoRoom = 0

-- 0 where nothing is inside
abbrev pub inside_of : LoadFault → ℕ
inside_of (BadProblem f) = 0
inside_of (NotSearched f) = get_or (inside_of_refused f) 0
inside_of (NotReplayed f) = inside_replay f
inside_of (NotTold f) = inside_text f
inside_of NoAnswer = 0
inside_of NoMemory = 0

abbrev pub place_replay : ReplayFault → ℕ
place_replay Steps = 0
place_replay Places = 0
place_replay AnswerLength = 0
place_replay (BadModel f) = f.place

abbrev pub place_text : TellFault → ℕ
place_text (NoModelToTell f) = f.place
place_text NoRoom = 0

-- 0 where no byte is at fault
abbrev pub place_of : LoadFault → ℕ
place_of (BadProblem f) = f.place
place_of (NotSearched f) = 0
place_of (NotReplayed f) = place_replay f
place_of (NotTold f) = place_text f
place_of NoAnswer = 0
place_of NoMemory = 0

use Rattle.std.proofs.Common.{◌%◌, arith}
use Rattle.std.proofs.lemmas.Nat.{one_shl, mod_below}
use Rattle.held.proofs.Explanations.{adds_one}
use Rattle.held.proofs.explanation.Explanation.add.Goals as goal

pub returns-then-word-lt8 : goal.returns-then-word-lt8
returns-then-word-lt8 c =
    adds_one c.args.self.now.words c.args.unknown _ c.args.self.now.long c.if-word-lt8.true
    (one_shl (c.args.unknown % 64) 64 (mod_below c.args.unknown 64 (omega arith)))

-- What a judgement says of a goal, with its byte and its explanation. Assumes nothing.
use Rattle.std.specs.Prelude.{ℕ, zero, suc, List, codes}
use Rattle.std.proofs.Math.Option.{Option, none, some}
use Rattle.judging.specs.Judging.{Head, is, waits}
use Rattle.held.specs.Explanations.{Adds}
use Rattle.judge.specs.declared.verdicts.Judgement.{Judgement}
use Rattle.judge.specs.declared.verdicts.Judgement.TheVariants.{False, True, Out, Waiting}

abbrev pub said : Head ℕ → Judgement
said (is zero xs E) = False
said (is (suc c) xs E) = True
said (waits u) = Waiting u

abbrev pub outcome : Option (Head ℕ × ℕ) → Judgement
outcome none = Out
outcome (some r) = said r.0

abbrev pub byte_of : Judgement → ℕ
byte_of False = 0
byte_of True = 1
byte_of Out = 2
byte_of (Waiting u) = 3

-- the word that is printed of a judgement
abbrev pub word : Judgement → List ℕ
word False = codes "false"
word True = codes "true"
word Out = codes "out"
word (Waiting u) = codes "waiting"

-- the explanation of a head was put into the set a, which is then b
abbrev pub ExplainsHead : List ℕ → List ℕ → Head ℕ → Type 0
ExplainsHead a b (is c xs E) = Adds a b E
ExplainsHead a b (waits u) = Unit {0}

abbrev pub Explained : List ℕ → List ℕ → Option (Head ℕ × ℕ) → Type 0
Explained a b none = Unit {0}
Explained a b (some r) = ExplainsHead a b r.0

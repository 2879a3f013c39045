-- One table of worked examples of the rules, computed from the definitions that the contracts cite. Assumes nothing.
use Rattle.std.specs.Prelude.{◌≡◌, ℕ, List, [], ◌∷◌, Ok}
use Rattle.syntax.specs.Problems.{Problem, encode_problem}
use Rattle.verdict.specs.Verdict.{verdict}
use Rattle.verdict.specs.Exact.{Encodes}
use Rattle.judging.specs.Examples.{is_two, NineSteps, Examples}
use Rattle.examples.specs.Sessions.{TwoFound, pairs, PairFound, contradiction, NeverTrue, looping, StepsSpent, ComesToHand}

-- the bytes of the shipped problem examples/two-equal-naturals.bin
abbrev pub two_equal_naturals : List ℕ
two_equal_naturals =
    0x44 ∷ 0x54 ∷ 2 ∷ 0 ∷ 1 ∷ 1
    ∷ 0x55 ∷ 0x4B ∷ 1
    ∷ 0x47 ∷ 0x4C ∷ 0 ∷ 13 ∷ 7 ∷ 1 ∷ 1 ∷ 0 ∷ 2 ∷ 1 ∷ 1 ∷ 2 ∷ 1 ∷ 1 ∷ 2 ∷ 1 ∷ 0
    ∷ 0x45 ∷ 0x4E ∷ []

-- These bytes are the problem `is_two`: so the check's verdict says, they are its encoding, and of no other lawful problem.
pub record Shipped : Type 0 where
  pub accepted : verdict two_equal_naturals ≡ Ok is_two
  pub encoded : Encodes is_two two_equal_naturals
  pub only : (q : Problem) → Encodes q two_equal_naturals → q ≡ is_two

-- the check accepts what encodes p, and as p
abbrev pub Accepted : Problem → Type 0
Accepted p = verdict (encode_problem p) ≡ Ok p

-- the other problems of the table may be searched too
pub record OthersAccepted : Type 0 where
  pub a_pair : Accepted pairs
  pub a_contradiction : Accepted contradiction
  pub a_loop : Accepted looping

-- The rows about sessions hold of every chooser, whichever ways it picks.
pub record WorkedExamples : Type 0 where
  -- the shipped problem, and the others
  pub shipped : Shipped
  pub others : OthersAccepted
  -- its goal, where unknown 0 is 1(1(0)): true with 9 steps, OUT with 8
  pub nine_steps : NineSteps
  -- the other examples of judging: how it waits, loops, and explains its answers
  pub judged : Examples
  -- its searches to depths 1, 2 and 3, and to depth 1 again: NONE in 3 rounds, NONE in 3, MODEL in 2, which is 1(1(0)), and NONE in 1
  pub two_found : TwoFound
  -- a pair of naturals and no goal: NONE in no round at depth 1, MODEL in 1 at depth 2
  pub pair_found : PairFound
  -- "unknown 0, and false": NEVER in 2 rounds with 1 recorded; given back, MODEL in 1
  pub never_true : NeverTrue
  -- a call of a function that only calls itself: SPENT STEPS in 1 round
  pub steps_spent : StepsSpent
  -- the shipped problem's searches to depths 1, 2 and 3 do come about, and a model is at hand then
  pub comes_to_hand : ComesToHand

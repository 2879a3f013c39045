-- The rows of the table together. Assumes nothing.
use Rattle.std.proofs.Common.{◌≡◌, Ok, refl}
use Rattle.syntax.specs.Problems.{Problem}
use Rattle.judging.specs.Judging.{judges}
use Rattle.judging.specs.Examples.{is_two, NineSteps}
use Rattle.judging.proofs.Examples.{examples}
use Rattle.verdict.specs.Verdict.{verdict}
use Rattle.verdict.specs.Exact.{Encodes}
use Rattle.verdict.proofs.Exact.{verdict_is_exact}
use Rattle.examples.specs.Worked.{two_equal_naturals, Shipped, WorkedExamples}
use Rattle.examples.proofs.Two.{two_found}
use Rattle.examples.proofs.Others.{pair_found, never_true, steps_spent}
use Rattle.examples.proofs.Possible.{lawful, comes_to_hand}

accepted : verdict two_equal_naturals ≡ Ok is_two
accepted = refl

only : (q : Problem) → Encodes q two_equal_naturals → q ≡ is_two
only q e =
    let w = (verdict_is_exact two_equal_naturals q).complete e in
    let same : q ≡ is_two = cc (accepted, w) in
    same

shipped : Shipped
shipped = record { accepted = accepted; encoded = record { lawful = lawful; is = refl }; only = only }

nine_steps : NineSteps
unfolding judges
nine_steps = (refl, refl)

pub worked_examples : WorkedExamples
worked_examples =
    record {
      shipped = shipped;
      others = record { a_pair = refl; a_contradiction = refl; a_loop = refl };
      nine_steps = nine_steps;
      judged = examples;
      two_found = two_found;
      pair_found = pair_found;
      never_true = never_true;
      steps_spent = steps_spent;
      comes_to_hand = comes_to_hand;
    }

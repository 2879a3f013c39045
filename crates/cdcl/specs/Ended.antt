-- What a search comes to.
use Rattle.std.specs.Prelude.{List, ℕ}
use Rattle.outcome.specs.Outcome.{Hit}
use Rattle.decisions.specs.Plans.{Barred}
use Rattle.cdcl_steps.specs.Search.{Empty}
use Rattle.cdcl.specs.declared.Outcome.{Outcome}
use Rattle.cdcl.specs.declared.Outcome.TheVariants.{Yes, No, Never}

abbrev pub Ended : List ℕ → List ℕ → List ℕ → Outcome → Type 0
Ended row given out Yes = Hit row given out
Ended row given out No = Barred row given
Ended row given out Never = Empty row

-- The way that the chooser picked gives each opened unknown exactly one case, and then the goals are judged by these; or it is foreign.
-- Assumes nothing.
use Rattle.std.proofs.Common.{◌≡◌, ℕ, Bool, true, false, List, Option, sym, ◌∙◌}
use Rattle.chooser.specs.Ways.{written}
use Rattle.chooser.specs.Meaning.{Meaning}
use Rattle.problem.specs.Meant.{meant}
use Rattle.cases.specs.Decided.{DecidedBy}
use Rattle.answers.specs.declared.answer.Outcome.TheVariants.{Foreign}
use Rattle.unknowns.specs.declared.table.Table.{Table as Code}
use Rattle.unknowns.specs.declared.table.Case.{Case}
use Rattle.rounds.specs.declared.search.Search.{Search}
use Rattle.rounds.specs.declared.turn.Turn.{Turn}
use Rattle.rounds.specs.declared.turn.Turn.TheVariants.{Closed}
use Rattle.rounds.specs.Steps.{Judging, Settling}
use Rattle.rounds.proofs.Turning.{foreign_turn}

pub settled_foreign : (s : Search) (t : Code) (way : List ℕ) (room : ℕ) (M : Meaning) (cases : List (Option Case)) (r : Bool)
    → DecidedBy (meant s.problem.now) t way cases r → r ≡ false → Settling s t way room M t M cases (Closed Foreign)
settled_foreign s t way room M cases r d is =
    record { turns = λ T R M₀ same h enough k. foreign_turn (written way) k (sym (d.answers T M₀.count h) ∙ is) same h }

pub settled_own : (s : Search) (t : Code) (way : List ℕ) (room : ℕ) (M : Meaning) (t' : Code) (M' : Meaning) (cases : List (Option Case))
    (turn : Turn) (r : Bool) → DecidedBy (meant s.problem.now) t way cases r → r ≡ true → Judging s t cases room M t' M' turn
    → Settling s t way room M t' M' cases turn
settled_own s t way room M t' M' cases turn r d is j =
    record {
      turns =
          λ T R M₀ same h enough k.
          j.turns T R M₀ (written way)
          (record {
            same = same;
            stands = h;
            goes_by = record { picked = k; decides = sym (d.answers T M₀.count h) ∙ is };
          })
          enough (d.cases_are T M₀.count h is);
    }

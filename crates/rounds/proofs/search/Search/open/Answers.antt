-- The room for unknowns is tested first; the rest is as `allot` answers.
use Rattle.std.proofs.Common.{arith}
use Rattle.rounds.proofs.Turning.{unknowns_turn, opened_turn, chooser_turn}
use Rattle.rounds.proofs.search.Search.open.Goals as goal

pub returns-then-table-births-gt-MOST : goal.returns-then-table-births-gt-MOST
returns-then-table-births-gt-MOST g c =
    let births = c.births.ensures.is in
    record { turns = λ T R M₀ w cases h pk e inside un. unknowns_turn c.args.self.now.limits.steps pk e inside un (omega (arith, births)) }

pub returns-in-Ok : goal.returns-in-Ok
returns-in-Ok g c =
    let births = c.births.ensures.is in
    record {
      turns =
          λ T R M₀ w cases h pk e inside un.
          opened_turn c.args.self.now.limits.steps pk e inside un c.constructors.ensures (omega (arith, births)) c.in-Ok.ensures c.open.ensures;
    }

pub returns-in-Err : goal.returns-in-Err
returns-in-Err g c =
    let births = c.births.ensures.is in
    record {
      turns =
          λ T R M₀ w cases h pk e inside un.
          chooser_turn c.args.self.now.limits.steps pk e inside un c.constructors.ensures (omega (arith, births)) c.in-Err.field-0
          c.in-Err.ensures.0 c.in-Err.ensures.1;
    }

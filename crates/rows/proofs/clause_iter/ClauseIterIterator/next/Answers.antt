-- The first clause of what is left, and what is left behind it.
use Rattle.std.proofs.Common.{◌≡◌, ◌∷◌, take, drop, ap, ◌∙◌, sym}
use Rattle.rows.specs.Rows.{clauses_of}
use Rattle.rows.proofs.Clauses.{clauses_first, clauses_fewer}
use Rattle.rows.proofs.clause_iter.ClauseIterIterator.next.Goals as goal

pub returns-clause-steps : goal.returns-clause-steps
returns-clause-steps c =
    let xs = c.in_ok-length.behind.now in
    let cut = c.split_at.ensures in
    let first = c.in_ok-length.ensures.cases in
    let step = clauses_first c.in_ok-length.length.now c.min.result xs c.min.ensures in
    let front : c.split_at.result.0.now ≡ take c.min.result xs = cut.front in
    let back : c.split_at.result.1.now ≡ drop c.min.result xs = cut.back in
    ap clauses_of first.0 ∙ step ∙ ap (λ l. l ∷ clauses_of (drop c.min.result xs)) (sym front) ∙ ap (λ l. c.split_at.result.0.now ∷ clauses_of l) (sym back)

pub returns-clause-goes : goal.returns-clause-goes
returns-clause-goes c =
    let less = clauses_fewer c.args.self.now.rest.now c.split_at.result.0.now c.split_at.result.1.now (returns-clause-steps c) in
    record { on = λ f. (tt, tt, less); keeps = tt; rests = λ f. tt }

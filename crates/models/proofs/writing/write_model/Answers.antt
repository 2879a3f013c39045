use Rattle.std.proofs.Common.{◌++◌, length, drop, refl, ap, ◌∙◌, arith}
use Rattle.problem.specs.Meant.{meant}
use Rattle.problem.proofs.Lawfulness.{lawful}
use Rattle.models.proofs.Recording.{writes_model}
use Rattle.models.proofs.writing.write_model.Goals as goal

pub returns-in_default-clause-writes : goal.returns-in_default-clause-writes
returns-in_default-clause-writes c =
    writes_model (meant c.args.problem.now) (lawful c.args.problem.now) c.args.table.now c.args.cases.now _ _ _ (λ m. absurd (c.in_default.ensures.holds m))

pub returns-then-output-bytes-clause-writes : goal.returns-then-output-bytes-clause-writes
returns-then-output-bytes-clause-writes c =
    writes_model (meant c.args.problem.now) (lawful c.args.problem.now) c.args.table.now c.args.cases.now _ _ _
    (λ m.
    let size = ap length (c.as_slice-bytes.ensures.value ∙ c.in-Ok.ensures.holds m) in
    (omega (arith, size), refl))

pub returns-clause-writes : goal.returns-clause-writes
returns-clause-writes c =
    writes_model (meant c.args.problem.now) (lawful c.args.problem.now) c.args.table.now c.args.cases.now _ _ _
    (λ m.
    let is = c.as_slice-bytes.ensures.value ∙ c.in-Ok.ensures.holds m in
    (ap length is, ap (λ bytes. bytes ++ drop (length c.as_slice-bytes.result.now) c.args.output.now) (c.copy_from_slice.ensures.after ∙ is)))

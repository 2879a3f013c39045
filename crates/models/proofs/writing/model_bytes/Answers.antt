use Rattle.std.proofs.Common.{length, ap, arith}
use Rattle.std.proofs.lemmas.Bool.{false≢true}
use Rattle.problem.proofs.Lawfulness.{lawful}
use Rattle.models.proofs.Recording.{mark_fits, value_refused, record_written, all_recorded}
use Rattle.models.proofs.writing.model_bytes.Goals as goal

pub overflow_cast-unknown : goal.overflow_cast-unknown
overflow_cast-unknown c =
    let few = (lawful c.args.problem.now).few_unknowns in
    let same = ap length c.unknowns-unknown-end.ensures.is in
    omega (arith, few, same)

pub returns-in_err-try_extend_from_slice : goal.returns-in_err-try_extend_from_slice
returns-in_err-try_extend_from_slice c =
    let same = ap length c.unknowns-unknown-end.ensures.is in
    record {
      holds = λ m.
          absurd (false≢true (c.in_err-try_extend_from_slice.ensures.variant.1
          (mark_fits (lawful c.args.problem.now) c.loop-unknown.bytes.items c.loop-unknown.unknown c.loop-unknown.invariant (omega (arith, same)) m)));
    }

pub returns-in_err-write_value : goal.returns-in_err-write_value
returns-in_err-write_value c =
    let same = ap length c.unknowns-unknown-end.ensures.is in
    record {
      holds = λ m.
          absurd (value_refused (lawful c.args.problem.now) c.loop-unknown.bytes.items c.loop-unknown.unknown c.loop-unknown.invariant (omega (arith, same)) _
          c.in_ok-try_extend_from_slice.ensures.ok _ _ c.in_err-write_value.ensures m);
    }

pub loop-unknown-preserved : goal.loop-unknown-preserved
loop-unknown-preserved c =
    let same = ap length c.unknowns-unknown-end.ensures.is in
    record_written (lawful c.args.problem.now) c.loop-unknown.bytes.items c.loop-unknown.unknown c.loop-unknown.invariant (omega (arith, same)) _
    c.in_ok-try_extend_from_slice.ensures.ok _ _ c.in_ok-write_value.ensures

pub returns : goal.returns
returns c =
    let same = ap length c.unknowns-unknown-end.ensures.is in
    record { holds = λ m. all_recorded c.loop-unknown.bytes.items c.loop-unknown.unknown c.loop-unknown.invariant (omega (arith, same)) m }

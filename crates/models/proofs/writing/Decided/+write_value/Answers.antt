use Rattle.std.proofs.Common.{arith}
use Rattle.std.proofs.lemmas.Bool.{false≢true}
use Rattle.models.proofs.Walking.{open_written, no_lead, begun, child_refused, child_written, all_written}
use Rattle.models.proofs.writing.Decided.+write_value.Goals as goal

pub returns-in_default : goal.returns-in_default
returns-in_default t c =
    open_written _ _ c.try_extend_from_slice.result c.in_default.ensures c.try_extend_from_slice.ensures.variant c.try_extend_from_slice.ensures.ok

pub returns-in_err-try_extend_from_slice : goal.returns-in_err-try_extend_from_slice
returns-in_err-try_extend_from_slice t c =
    no_lead _ c.in-Some.case c.in-Some.ensures.1 _ c.from_residual.result (λ room. false≢true (c.in_err-try_extend_from_slice.ensures.variant.1 room))

pub loop-child-init : goal.loop-child-init
loop-child-init t c =
    begun _ c.in-Some.case c.in-Some.ensures.1 c.in-Some.ty _ _ c.in-Some.ensures.0 c.in_ok-try_extend_from_slice.ensures.ok c.from-kids.ensures

pub returns-in_err-write_value : goal.returns-in_err-write_value
returns-in_err-write_value t c =
    child_refused _ c.in-Some.case c.in-Some.ensures.1 c.loop-child.bytes.items c.loop-child.child c.loop-child.invariant _ _ c.from_residual-in_err-write_value.result
    (omega arith) (omega arith) c.in_err-write_value.ensures

pub loop-child-preserved : goal.loop-child-preserved
loop-child-preserved t c =
    child_written _ c.in-Some.case c.in-Some.ensures.1 c.loop-child.bytes.items c.loop-child.child c.loop-child.invariant _ _ (omega arith) (omega arith)
    c.in_ok-write_value.ensures

pub returns : goal.returns
returns t c =
    all_written _ c.in-Some.case c.in-Some.ensures.1 c.loop-child.bytes.items c.loop-child.child c.loop-child.invariant _ (omega arith)

use Rattle.std.proofs.Common.{ℕ, List, length, Err, Result, sym, ap, ◌∙◌, subst, arith}
use Rattle.std.proofs.lemmas.Result.{err_from_is_err_and}
use Rattle.arrayvec.specs.ArrayVec.{ArrayVec}
use Rattle.syntax.specs.declared.faults.Fault.{Fault}
use Rattle.syntax.specs.Problems.{sig_of}
use Rattle.syntax.specs.Typing.{Sig}
use Rattle.model.specs.Models.{Placed}
use Rattle.model.specs.Reading.{places_from}
use Rattle.model.proofs.Roots.{rooted_after, rooted_all, rooted_no_start, rooted_no_value, rooted_more}
use Rattle.model.proofs.deciding.read_roots.Goals as goal

pub returns-in_err-value : goal.returns-in_err-value
returns-in_err-value g c =
    let sig : Sig = sig_of (g.P.Declares.declares c.args.problem.now) in
    let p = err_from_is_err_and c.from_residual.result c.from_residual.ensures.1 in
    let types = c.unknown_types-types.ensures.is in
    subst (λ (r : Result (ArrayVec ℕ) Fault). Placed (places_from sig c.args.bytes.now 0 (g.P.Declares.declares c.args.problem.now).unknowns 0) r)
    (sym (p.1 ∙ ap (λ (e : Fault). Err e) p.2))
    (ap (λ (ts : List ℕ). places_from sig c.args.bytes.now 0 ts 0) (sym types)
    ∙ rooted_no_start c.loop-number.invariant _ (omega arith) c.in_err-value.ensures.exact)

pub returns-in_err-mark : goal.returns-in_err-mark
returns-in_err-mark g c =
    let sig : Sig = sig_of (g.P.Declares.declares c.args.problem.now) in
    let p = err_from_is_err_and c.from_residual-in_err-mark.result c.from_residual-in_err-mark.ensures.1 in
    let types = c.unknown_types-types.ensures.is in
    subst (λ (r : Result (ArrayVec ℕ) Fault). Placed (places_from sig c.args.bytes.now 0 (g.P.Declares.declares c.args.problem.now).unknowns 0) r)
    (sym (p.1 ∙ ap (λ (e : Fault). Err e) p.2))
    (ap (λ (ts : List ℕ). places_from sig c.args.bytes.now 0 ts 0) (sym types)
    ∙ rooted_no_value c.loop-number.invariant c.in_ok-value.value _ (omega arith) c.in_ok-value.ensures.exact
    (c.in_err-mark.ensures.exact (length c.args.bytes.now) (omega arith)))

pub loop-number-preserved : goal.loop-number-preserved
loop-number-preserved g c =
    rooted_more c.loop-number.invariant c.in_ok-value.value c.in_ok-mark.mark c.push.new.self.items (omega arith) c.in_ok-value.ensures.exact
    (c.in_ok-mark.ensures.exact (length c.args.bytes.now) (omega arith)) c.in_ok-mark.ensures.within.1 c.push.ensures.items c.push.ensures.len

pub returns-then-mark-bytes : goal.returns-then-mark-bytes
returns-then-mark-bytes g c =
    let sig : Sig = sig_of (g.P.Declares.declares c.args.problem.now) in
    ap (λ (ts : List ℕ). places_from sig c.args.bytes.now 0 ts 0) (sym c.unknown_types-types.ensures.is)
    ∙ rooted_after c.loop-number.invariant (omega arith) (omega arith) ∙ ap (λ (e : Fault). Err e) (sym c.at.ensures)

pub returns : goal.returns
returns g c =
    let sig : Sig = sig_of (g.P.Declares.declares c.args.problem.now) in
    ap (λ (ts : List ℕ). places_from sig c.args.bytes.now 0 ts 0) (sym c.unknown_types-types.ensures.is)
    ∙ rooted_all c.loop-number.invariant (omega arith) (omega arith)

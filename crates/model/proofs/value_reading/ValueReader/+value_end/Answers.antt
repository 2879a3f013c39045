use Rattle.std.proofs.Common.{ℕ, Ok, Err, Option, sym, ap, ◌∙◌, arith}
use Rattle.std.proofs.lemmas.Result.{err_from_is_err_and}
use Rattle.syntax.specs.Problems.{sig_of}
use Rattle.syntax.specs.Typing.{Sig}
use Rattle.syntax.specs.declared.faults.Fault.{Fault}
use Rattle.model.specs.Reading.{value_end}
use Rattle.model.proofs.Ends.{value_fails, value_open, value_built, ends_none, ends_fails}
use Rattle.model.proofs.value_reading.ValueReader.+value_end.Goals as goal

pub returns-in_err-top-clause-exact : goal.returns-in_err-top-clause-exact
returns-in_err-top-clause-exact g t c n deep =
    let sig : Sig = sig_of (g.P.Declares.declares c.args.self.now.problem.now) in
    let p = err_from_is_err_and c.from_residual.result c.from_residual.ensures.1 in
    p.1 ∙ ap (λ (e : Fault). Err e) p.2
    ∙ value_fails n sig c.args.self.now.bytes.now c.args.self.now.mark c.args.ty c.args.place deep _ c.in_err-top.ensures.exact

pub returns-in_err-end-in-Some-clause-exact : goal.returns-in_err-end-in-Some-clause-exact
returns-in_err-end-in-Some-clause-exact g t c n deep =
    let sig : Sig = sig_of (g.P.Declares.declares c.args.self.now.problem.now) in
    let bs = c.args.self.now.bytes.now in
    let mark = c.args.self.now.mark in
    let inv = c.loop-argument.invariant in
    let p = err_from_is_err_and c.from_residual-in_err-end-in-Some.result c.from_residual-in_err-end-in-Some.ensures.1 in
    let types = c.argument_types-argument-items in
    value_built n sig bs mark c.args.ty c.args.place deep c.in-Some.constructor types.result.now c.from_residual-in_err-end-in-Some.result
    (ap (λ (o : Option ℕ). Ok o) (sym c.in-Some.is) ∙ c.in_ok-top.ensures.exact) types.ensures.is (omega (arith, inv.after, inv.low))
    (λ k low.
    p.1 ∙ ap (λ (e : Fault). Err e) p.2
    ∙ ends_fails (value_end k sig bs mark) types.result.now c.loop-argument.argument-index c.loop-argument.end _ (omega arith)
    (c.in_err-end-in-Some.ensures.exact k (omega (arith, inv.after)))
    ∙ sym (inv.rest k low))

pub returns-in-None-clause-exact : goal.returns-in-None-clause-exact
returns-in-None-clause-exact g t c n deep =
    let sig : Sig = sig_of (g.P.Declares.declares c.args.self.now.problem.now) in
    value_open n sig c.args.self.now.bytes.now c.args.self.now.mark c.args.ty c.args.place deep
    (ap (λ (o : Option ℕ). Ok o) (sym c.in-None.is) ∙ c.in_ok-top.ensures.exact)

pub returns-after-loop-argument-clause-exact : goal.returns-after-loop-argument-clause-exact
returns-after-loop-argument-clause-exact g t c n deep =
    let sig : Sig = sig_of (g.P.Declares.declares c.args.self.now.problem.now) in
    let bs = c.args.self.now.bytes.now in
    let mark = c.args.self.now.mark in
    let inv = c.loop-argument.invariant in
    let types = c.argument_types-argument-items in
    value_built n sig bs mark c.args.ty c.args.place deep c.in-Some.constructor types.result.now (Ok c.loop-argument.end)
    (ap (λ (o : Option ℕ). Ok o) (sym c.in-Some.is) ∙ c.in_ok-top.ensures.exact) types.ensures.is (omega (arith, inv.after, inv.low))
    (λ k low.
    ends_none (value_end k sig bs mark) types.result.now c.loop-argument.argument-index c.loop-argument.end (omega arith) ∙ sym (inv.rest k low))

-- One assumption and one clause more, and the ends of the pass.
use Rattle.std.proofs.Common.{◌≡◌, ◌++◌, ◌+◌, length, drop, sym, ap, ◌∙◌, subst}
use Rattle.std.proofs.lemmas.Bool.{and_parts}
use Rattle.std.specs.List.{list_all}
use Rattle.chooser.specs.Ways.{allotted}
use Rattle.std.proofs.lemmas.List.{drop_more, drop_all}
use Rattle.rows.specs.Rows.{inside, clauses_of}
use Rattle.rows.specs.Clauses.{clauses_left}
use Rattle.rows.proofs.Clauses.{clauses_named}
use Rattle.backtrack.specs.Solved.{allowed}
use Rattle.backtrack.specs.Swept.{Passing, singles}
use Rattle.backtrack.proofs.Passes.{pass_start, allowed_clauses, swept_err}
use Rattle.backtrack.proofs.sweep.Goals as goal

pub loop-l-init : goal.loop-l-init
loop-l-init g c =
    let row = c.args.row.now in
    let assumptions = c.args.assumptions.now in
    pass_start (allowed row assumptions) (singles assumptions ++ clauses_of row) c.args.values.now c.args.trail.now.list.items (allowed_clauses row assumptions) c.requires.trail

pub returns-in_err-visit : goal.returns-in_err-visit
returns-in_err-visit g c =
    let X = allowed c.args.row.now c.args.assumptions.now in
    let assumptions = c.args.assumptions.now in
    let i = c.loop-l.l-index in
    let start = c.args.trail.now.list.items in
    let left = singles (drop (i + 1) assumptions) ++ clauses_of c.args.row.now in
    let now = subst (λ ls. Passing X (singles ls ++ clauses_of c.args.row.now) start c.loop-l.values c.loop-l.trail.list.items c.loop-l.«open») (drop_more assumptions i 0 c.loop-l-test.true) c.loop-l.invariant in
    swept_err X start c.visit.new.values c.visit.new.trail.list.items c.from_residual.result c.from_residual.ensures.0 (c.in_err-visit.ensures X left start now)

pub loop-clause-init : goal.loop-clause-init
loop-clause-init g c =
    let X = allowed c.args.row.now c.args.assumptions.now in
    let row = c.args.row.now in
    let start = c.args.trail.now.list.items in
    let new : clauses_left c.into_iter-clause-iterator.result ≡ clauses_of row = ap clauses_left c.into_iter-clause-iterator.ensures.into_iter_gives ∙ c.new-clause-items.ensures in
    let none = drop_all c.loop-l.l-index c.args.assumptions.now c.loop-l-test.false in
    let size = c.loop-l.auto.values in (
      tt,
      tt,
      subst (λ left. Passing X left start c.loop-l.values c.loop-l.trail.list.items c.loop-l.«open») (sym new)
          (subst (λ ls. Passing X (singles ls ++ clauses_of row) start c.loop-l.values c.loop-l.trail.list.items c.loop-l.«open») none c.loop-l.invariant),
      ap (list_all (allotted (length c.loop-l.values))) new ∙ clauses_named (length c.loop-l.values) 0 row (ap (λ n. inside n 0 row) size ∙ c.requires.row),
    )

pub returns-in_err-visit-2 : goal.returns-in_err-visit-2
returns-in_err-visit-2 g c =
    let X = allowed c.args.row.now c.args.assumptions.now in
    let start = c.args.trail.now.list.items in
    let left = clauses_left c.next.new.self in
    let now = subst (λ ls. Passing X ls start c.loop-clause.values c.loop-clause.trail.list.items c.loop-clause.«open») c.in-Some.ensures.steps c.loop-clause.invariant.2 in
    swept_err X start c.visit-in-loop-clause.new.values c.visit-in-loop-clause.new.trail.list.items c.from_residual-in_err-visit-2.result c.from_residual-in_err-visit-2.ensures.0 (c.in_err-visit-2.ensures X left start now)

pub loop-clause-preserved : goal.loop-clause-preserved
loop-clause-preserved g c =
    let X = allowed c.args.row.now c.args.assumptions.now in
    let start = c.args.trail.now.list.items in
    let left = clauses_left c.next.new.self in
    let clause = c.in-Some.clause.now in
    let values = c.loop-clause.values in
    let size = c.visit-in-loop-clause.auto.values in
    let now = subst (λ ls. Passing X ls start values c.loop-clause.trail.list.items c.loop-clause.«open») c.in-Some.ensures.steps c.loop-clause.invariant.2 in
    let named = and_parts (allotted (length values) clause) (list_all (allotted (length values)) left) (ap (list_all (allotted (length values))) (sym c.in-Some.ensures.steps) ∙ c.loop-clause.invariant.3) in (
      tt,
      tt,
      c.in_ok-visit-2.ensures X left start now,
      ap (λ n. list_all (allotted n) left) size ∙ named.1,
    )

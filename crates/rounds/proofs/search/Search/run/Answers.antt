-- Each round adds one, or closes the search.
use Rattle.std.proofs.Common.{ℕ, ◌+◌, refl, sym, subst, ◌∙◌, arith}
use Rattle.rounds.specs.Lent.{Kept}
use Rattle.rounds.specs.Going.{Going}
use Rattle.rounds.proofs.Going.{going_none, going_opened, going_recorded, ended, all_spent}
use Rattle.rounds.proofs.search.Search.run.Goals as goal
use Rattle.rounds.proofs.search.Search.run.Goals.{in-Opened, in-Recorded}

pub loop-made-init : goal.loop-made-init
loop-made-init g c =
    (record { places = refl; literals = refl }, going_none c.args.self.now c.args.table.now (g.C.Chooser.meaning c.args.chooser.now))

pub returns-in-Closed-clause-ran : goal.returns-in-Closed-clause-ran
returns-in-Closed-clause-ran g c = ended c.loop-made.invariant.1 c.in-Closed.outcome (omega arith) c.in-Closed.ensures.turned

pub loop-made-preserved : goal.loop-made-preserved
loop-made-preserved g c =
    let before = c.loop-made.invariant.0 in
    let after = c.round.ensures.kept in
    let kept : Kept c.args.lent.now c.round.new.lent =
    record { places = after.places ∙ before.places; literals = after.literals ∙ before.literals } in
    let P : ℕ → ℕ → Type 0 =
    λ o r. Going c.args.self.now (c.loop-made.made + 1) o r (g.C.Chooser.meaning c.args.chooser.now) c.args.table.now c.round.new.table
    (g.C.Chooser.meaning c.round.new.chooser) in
    elim c.match-round.branch [
      | in-Opened w ↦ (
        kept,
        subst (λ o. P o c.match-round.recorded) (sym w.opened-is) (subst (P (c.loop-made.opened + 1)) (sym w.recorded-is)
            (going_opened c.loop-made.invariant.1 w.in-Opened.ensures.turned)),
      )
      | in-Recorded w ↦ (
        kept,
        subst (λ o. P o c.match-round.recorded) (sym w.opened-is) (subst (P c.loop-made.opened) (sym w.recorded-is)
            (going_recorded c.loop-made.invariant.1 w.in-Recorded.ensures.turned)),
      )
    ]

pub returns-clause-ran : goal.returns-clause-ran
returns-clause-ran g c = all_spent c.loop-made.invariant.1 (omega arith)

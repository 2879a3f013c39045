-- From a table that stands, the chooser's own literals are asked, so it answers; and what it answers decides how the round ends.
use Rattle.std.proofs.Common.{◌≡◌, ◌-◌, true, take, length-take, sym, subst, arith}
use Rattle.chooser.specs.Ways.{allotted}
use Rattle.chooser.specs.Meaning.{Meaning}
use Rattle.problem.specs.Meant.{meant}
use Rattle.finder.specs.Levels.{measures}
use Rattle.finder.specs.Asking.{switches, asked}
use Rattle.unknowns.specs.Force.{forced}
use Rattle.answers.specs.declared.answer.Outcome.TheVariants.{Foreign}
use Rattle.rounds.specs.Steps.{LeftUnder}
use Rattle.rounds.specs.Turns.{known, Closes}
use Rattle.rounds.proofs.Answering.{picked, refused, answered}
use Rattle.rounds.proofs.Turning.{left_turn}
use Rattle.rounds.proofs.search.Search.round.Goals as goal

pub overflow_sub-variables : goal.overflow_sub-variables
overflow_sub-variables g c =
    let whole = g.C.Chooser.laws.whole c.args.chooser.now in
    omega (arith, whole)

pub returns-in-Ok-Yes-clause-turned : goal.returns-in-Ok-Yes-clause-turned
returns-in-Ok-Yes-clause-turned g c =
    let M : Meaning = g.C.Chooser.meaning c.args.chooser.now in
    let whole = g.C.Chooser.laws.whole c.args.chooser.now in
    let most = g.C.Chooser.laws.small in
    let long = c.assume-assumed.ensures.fits.1.1 in
    let q = c.in-Ok-Yes.ensures.answered in
    let literals = take c.assume-assumed.result.all c.assume-assumed.new.literals in
    let p = meant c.args.self.now.problem.now in
    let force = forced c.args.self.now.force.now in
    record {
      goes =
          λ T R h.
          let a = c.assume-assumed.ensures.says.says T M.count h (omega (arith, whole, most)) (omega (arith, whole)) in
          c.settle.ensures.settled.turns T R M c.ask.ensures.same h (omega (arith, whole, long))
          (picked M literals (asked p (measures p) force c.args.self.now.limits.depth T) c.ask.new.answer c.in-Ok-Yes.field-0 a.assumed
          c.in-Ok-Yes.field-0-is q.answers);
    }

pub returns-in-Ok-No-clause-turned : goal.returns-in-Ok-No-clause-turned
returns-in-Ok-No-clause-turned g c =
    let M : Meaning = g.C.Chooser.meaning c.args.chooser.now in
    let M₁ : Meaning = g.C.Chooser.meaning c.ask.new.self in
    let p = meant c.args.self.now.problem.now in
    let force = forced c.args.self.now.force.now in
    let whole = g.C.Chooser.laws.whole c.args.chooser.now in
    let most = g.C.Chooser.laws.small in
    let q = c.in-Ok-No.ensures.answered in
    let literals = take c.assume-assumed.result.all c.assume-assumed.new.literals in
    let same = c.ask.ensures.same in
    let counts = same.counts in
    record {
      goes =
          λ T R h.
          let a = c.assume-assumed.ensures.says.says T M.count h (omega (arith, whole, most)) (omega (arith, whole)) in
          let named = subst (λ v. allotted v (switches p force) ≡ true) (sym same.counts) a.switches_allotted in
          let named' = subst (λ ls. allotted M₁.count ls ≡ true) (sym a.switched) named in
          let fits = q.fits in
          let left = c.none_or_never.ensures.left named' (omega (arith, fits, counts)) in
          let refuses =
          refused M literals (asked p (measures p) force c.args.self.now.limits.depth T) c.ask.new.answer c.in-Ok-No.field-0 a.assumed
          c.in-Ok-No.field-0-is q.answers in
          left_turn c.none_or_never.result refuses same c.none_or_never.ensures.same h
          (subst (λ ls. LeftUnder M₁ ls c.none_or_never.result) a.switched left);
    }

pub returns-in-Err-clause-turned : goal.returns-in-Err-clause-turned
returns-in-Err-clause-turned g c =
    let M : Meaning = g.C.Chooser.meaning c.args.chooser.now in
    let whole = g.C.Chooser.laws.whole c.args.chooser.now in
    let most = g.C.Chooser.laws.small in
    let p = meant c.args.self.now.problem.now in
    let force = forced c.args.self.now.force.now in
    let limits = c.args.self.now.limits in
    let M' : Meaning = g.C.Chooser.meaning c.ask.new.self in
    let taken = length-take (c.MAX_VARIABLES.result - c.variables_left.result) c.args.way.now in
    record {
      goes =
          λ T R h.
          let a = c.assume-assumed.ensures.says.says T M.count h (omega (arith, whole, most)) (omega (arith, whole)) in
          absurd {A = Closes p force limits.depth limits.steps (known T R) M c.args.table.now M' c.args.cases.now Foreign}
          (answered M _ _ _ c.in-Err.field-0 a.assumed a.all_allotted (omega (arith, whole, taken)) c.in-Err.ensures.answered.1);
    }

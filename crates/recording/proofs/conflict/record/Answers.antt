-- In a table that stands the clause has room, and its literals are allotted and so have 16 bits.
use Rattle.std.proofs.Common.{◌≤◌, ◌∷◌, ◌∙◌, subst, arith}
use Rattle.chooser.specs.Meaning.{Meaning}
use Rattle.chooser.specs.Steps.{Add}
use Rattle.held.specs.Explanations.{contains}
use Rattle.finder.specs.Clauses.{off}
use Rattle.places.specs.Places.{marked_literals}
use Rattle.recording.proofs.Conflicts.{fits, clause_is, named, recorded}
use Rattle.recording.proofs.conflict.record.Goals as goal

pub returns-in_default-clause-records : goal.returns-in_default-clause-records
returns-in_default-clause-records g c =
    let M : Meaning = g.C.Chooser.meaning c.args.chooser.now in
    let whole = g.C.Chooser.laws.whole c.args.chooser.now in
    let most = g.C.Chooser.laws.small in
    let small : M.count ≤ 32768 = omega (arith, whole, most) in
    record {
      says =
          λ p T w s d l room.
          let q = fits p c.args.table.now T M.count w c.args.cases.now (contains c.args.because.now.words) s d c.args.goal _ l small room in
          absurd (c.in_default.ensures q.0 q.1);
    }

pub returns-clause-records : goal.returns-clause-records
returns-clause-records g c =
    let M : Meaning = g.C.Chooser.meaning c.args.chooser.now in
    let M' : Meaning = g.C.Chooser.meaning c.add.new.self in
    record {
      says =
          λ p T w s d l room.
          let marks = contains c.args.because.now.words in
          let is = c.in-Some.ensures.1 ∙ clause_is p c.args.table.now T M.count w c.args.cases.now marks s d c.args.goal in
          recorded M M' (off c.args.goal ∷ marked_literals p w marks 0 T) c.add.result (named p w marks c.args.table.now T M.count c.args.goal s l)
          (subst (λ ls. Add M M' ls c.add.result) is c.add.ensures);
    }

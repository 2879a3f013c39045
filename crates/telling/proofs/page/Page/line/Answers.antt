use Rattle.std.proofs.Common.{subst}
use Rattle.std.specs.Prelude.{codes}
use Rattle.answers.specs.Words.{word}
use Rattle.telling.specs.Lines.{labelled, line_text}
use Rattle.telling.specs.Pages.{Adds}
use Rattle.telling.proofs.Pages.{adds_then}
use Rattle.telling.proofs.page.Page.line.Goals as goal

pub returns-clause-adds : goal.returns-clause-adds
unfolding line_text
returns-clause-adds c =
    let a = c.args.answer.now in
    let depth = adds_then (labelled (codes "depth ") c.args.depth) (codes " ") c.labelled.ensures.adds c.text.ensures.adds in
    let outcome = adds_then _ (word a.outcome) depth (subst (λ w. Adds c.text.new.self w c.text-2.new.self) c.word.ensures c.text-2.ensures.adds) in
    let rounds = adds_then _ (labelled (codes " rounds ") a.rounds) outcome c.labelled-2.ensures.adds in
    let opened = adds_then _ (labelled (codes " opened ") a.opened) rounds c.labelled-3.ensures.adds in
    let recorded = adds_then _ (labelled (codes " recorded ") a.recorded) opened c.labelled-4.ensures.adds in
    adds_then _ (codes "\n") recorded c.text-3.ensures.adds

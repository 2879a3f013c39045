use Rattle.std.proofs.Common.{rules, [], refl, arith}
use Rattle.telling.specs.Lines.{line_text}
use Rattle.telling.proofs.Pages.{measured, in_full}
use Rattle.telling.proofs.line.line.Goals as goal

pub returns-then-measured-output : goal.returns-then-measured-output
returns-then-measured-output c =
    let long = measured (line_text c.args.depth c.args.answer.now) [] c.new-measured.ensures.holds c.line.ensures.adds in
    (refl, omega (arith, long), refl)

pub returns : goal.returns
returns c =
    let text = line_text c.args.depth c.args.answer.now in
    let long = measured text [] c.new-measured.ensures.holds c.line.ensures.adds in
    let count = measured text c.args.output.now c.new-page.ensures.holds c.line-2.ensures.adds in
    let held = in_full text c.args.output.now c.new-page.ensures.holds c.line-2.ensures.adds (omega (arith, long)) in
    (count, search (rules, held, count))

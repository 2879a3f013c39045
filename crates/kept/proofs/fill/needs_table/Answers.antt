use Rattle.std.proofs.Common.{◌≡◌, length, drop, sym, subst, arith}
use Rattle.std.proofs.lemmas.List.{take_at, length-map}
use Rattle.syntax.specs.Tables.{cases_in, declared_in}
use Rattle.kept.specs.Filled.{NeedsHeld}
use Rattle.kept.proofs.fill.needs_table.Goals as goal

pub returns : goal.returns
returns c =
    let rows = c.fill_needs.new.needs in
    let made = c.in_ok-needs.ensures.len in
    let long : length rows ≡ c.in_ok-needs.needs.len = omega arith in
    let all = length-map c.args.sig.types.now cases_in in
    subst (NeedsHeld (declared_in c.args.sig) c.args.least.now)
    (sym (take_at rows (drop (length rows) c.in_ok-needs.needs.items) c.in_ok-needs.needs.len long))
    (record { long = omega arith; by = c.fill_needs.ensures.by; each = λ h t k lt. c.fill_needs.ensures.is h t k lt.0 lt.1 })

use Rattle.std.proofs.Common.{◌≡◌, length, vec_items, sym, ap, ◌∙◌, subst}
use Rattle.std.proofs.lemmas.List.{length-map}
use Rattle.syntax.specs.Tables.{cases_in, declared_in}
use Rattle.depths.specs.Least.{Leasts}
use Rattle.ends.specs.Ends.{ends_of}
use Rattle.kept.specs.Layout.{sig_from}
use Rattle.kept.specs.Filled.{Filled, NeedsHeld}
use Rattle.kept.proofs.Filling.{declared_same}
use Rattle.problem.proofs.take.worked_out.Goals as goal

-- Each table holds what it should: those that were given by what is required, the other two by how they were made.
pub invariant_of-result : goal.invariant_of-result
invariant_of-result c =
    let t = c.args.tables in
    let own = vec_items c.in_ok-bytes.bytes in
    let same : own ≡ c.args.bytes.now = c.in_ok-bytes.ensures.items in
    let h = subst (λ b. Filled b (vec_items t.types) (vec_items t.functions) (vec_items t.unknowns) (vec_items t.goals) (vec_items t.least)) (sym same) c.requires in
    let s = c.signature-sig.result in
    let e = c.signature-sig.ensures in
    let sigs : declared_in s ≡ sig_from own =
    declared_same s own (vec_items t.types) (vec_items t.functions) (vec_items t.unknowns) (vec_items t.goals) (vec_items t.least) h e.types e.functions e.unknowns in
    let least = sym c.as_slice.ensures.value in
    let rows = subst (λ g. NeedsHeld g c.as_slice.result.now (vec_items c.in_ok-needs.needs)) sigs c.in_ok-needs.ensures in
    let all = sym (length-map (vec_items t.types) cases_in) ∙ ap length h.of_types in
    record {
      holds = h;
      needs_long = rows.long ∙ sym all;
      needs_held = rows.each (subst (Leasts (sig_from own)) least h.of_least);
      next_held = c.in_ok-next.ensures ∙ ap (λ b. ends_of (declared_in s) b) (sym same) ∙ ap (λ g. ends_of g own) sigs;
    }

use Rattle.std.proofs.Common.{◌≡◌, true, false, ◌+◌, ◌/◌, ◌≤◌, length, get_or, subst, sym, ap, ◌∙◌}
use Rattle.std.proofs.lemmas.Bool.{both_ways}
use Rattle.std.proofs.lemmas.List.{get_or_default, get_or_past}
use Rattle.trail.specs.Trails.{step_at}
use Rattle.trail.specs.declared.step.Reason.TheVariants.{Decision, Known}
use Rattle.trail.specs.declared.step.Step.{Step}
use Rattle.propagate.specs.Uses.{Noted}
use Rattle.propagate.proofs.Uses.{noted_skip, noted_stamp}
use Rattle.propagate.proofs.watches.Watches.note_use.Goals as goal
use Rattle.propagate.proofs.watches.Watches.note_use.Goals.{then-v-seen+then-seen-v+in-Clause, then-v-seen+then-seen-v+in_default, else-v-seen, else-v-seen-via-then-v-seen+else-seen-v, else-v-seen-via-else-v-seen}

pub loop-step-preserved : goal.loop-step-preserved
loop-step-preserved c =
    let w = c.args.self.now in
    let u = c.loop-step.self in
    let steps = c.args.trail.now.steps.items in
    let seen = c.args.seen.now in
    let n = c.loop-step.step-index in
    let now = c.args.now in
    let items = c.deref-step-items.result.now in
    let x : Step = get_or items n (record { literal = 0; level = 0; reason = Decision }) in
    let is : step_at steps n ≡ x = ap (λ xs. step_at xs n) (sym c.deref-step-items.ensures.value) ∙ get_or_default items n (record { literal = 0; level = 0; reason = Known }) (record { literal = 0; level = 0; reason = Decision }) c.loop-step-test.true in
    let h = c.loop-step.invariant in
    let skip = noted_skip w u u steps seen n now x is h in
    elim c.if-v-seen.branch [
      | then-v-seen+then-seen-v+in-Clause b ↦
          let v = b.stamp.new.self in
          let put = b.stamp.ensures in
          subst (λ z. Noted w z steps seen (n + 1) now) (sym b.self-is) (noted_stamp w u v steps seen n now x is h b.in-Clause.c (b.in-Clause.is, subst (λ i. get_or seen i false ≡ true) c.variable-v.ensures b.if-seen-v.true) put.lists put.clauses)
      | then-v-seen+then-seen-v+in_default b ↦ subst (λ z. Noted w z steps seen (n + 1) now) (sym b.self-is) (skip (λ k s. b.in_default.not-Clause k s.0))
      | else-v-seen b ↦
          subst (λ z. Noted w z steps seen (n + 1) now) (sym b.self-is) (skip (λ k s. elim b.else-v-seen.branch [
            | else-v-seen-via-then-v-seen+else-seen-v d ↦ both_ways (get_or seen (x.literal / 2) false) (subst (λ i. get_or seen i false ≡ false) c.variable-v.ensures d.if-seen-v.false) s.1
            | else-v-seen-via-else-v-seen d ↦ both_ways (get_or seen (x.literal / 2) false) (get_or_past seen (x.literal / 2) false (subst (λ i. length seen ≤ i) c.variable-v.ensures d.if-v-seen.false)) s.1
          ]))
    ]

-- The step that was popped was a decision, or it followed.
use Rattle.std.proofs.Common.{◌≡◌, set, length-set, length, [], ◌∷◌, ◌++◌, sym, ap, ◌∙◌, subst, append_assoc}
use Rattle.chooser.specs.Ways.{allotted}
use Rattle.backtrack.specs.Trail.{lits, Trail, Undone}
use Rattle.backtrack.proofs.Backs.{popped_goes, popped_dead, popped_undone, named_popped}
use Rattle.backtrack.proofs.steps.Steps.take_back.Goals as goal

pub returns-in-Decided : goal.returns-in-Decided
returns-in-Decided g c X t dead =
    let now = c.loop-step.invariant.1 X t dead in
    let behind = c.loop-step.invariant.2 in
    subst (λ v. Undone X c.args.self.now.list.items (set c.loop-step.values v 2) c.pop.new.self.items c.literal-l.result) (sym c.variable.ensures)
    (popped_undone X c.loop-step.values c.loop-step.self.list.items c.pop.new.self.items c.in-Some.step c.literal-l.result c.in-Some.ensures.items c.literal-l.ensures now.0 now.1 c.in-Decided.field-0 c.in-Decided.is c.args.self.now.list.items behind.0 behind.1)

pub loop-step-preserved : goal.loop-step-preserved
loop-step-preserved g c =
    let behind = c.loop-step.invariant.2 in
    let was = c.loop-step.self.list.items in
    let steps = c.pop.new.self.items in
    let s = c.in-Some.step in
    let items : was ≡ steps ++ (s ∷ []) = c.in-Some.ensures.items in (
      named_popped (length (set c.loop-step.values c.variable.result 2)) was steps s items (ap (λ n. allotted n (lits was)) (length-set c.loop-step.values c.variable.result 2) ∙ c.loop-step.invariant.0),
      λ X t dead.
          let now = c.loop-step.invariant.1 X t dead in
          (subst (λ v. Trail X (set c.loop-step.values v 2) steps) (sym c.variable.ensures) (popped_goes X c.loop-step.values was steps s c.literal-l.result items c.literal-l.ensures now.0 now.1), popped_dead X c.loop-step.values was steps s c.literal-l.result items c.literal-l.ensures now.0 now.1 c.in_default-step.not-Decided),
      (s ∷ behind.0, behind.1 ∙ ap (λ z. z ++ behind.0) items ∙ append_assoc steps (s ∷ []) behind.0),
    )

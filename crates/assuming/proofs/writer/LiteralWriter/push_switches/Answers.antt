-- A goal in force has its switch written; goals past the end of the list are not in force.
use Rattle.std.proofs.Common.{◌≡◌, ℕ, ◌+◌, ◌<◌, ◌≤◌, Bool, true, false, List, [], ◌∷◌, ◌++◌, length, get_or, take, min, ◌⊎◌, sym, ap, ◌∙◌, subst, inl, inr, arith, add-one}
use Rattle.std.proofs.lemmas.Bool.{cond-true, cond-false, cases_lt}
use Rattle.std.proofs.lemmas.List.{get_or-take, get_or_default, length-take}
use Rattle.finder.specs.Clauses.{on}
use Rattle.finder.specs.Asking.{switches_on}
use Rattle.unknowns.specs.Force.{forced}
use Rattle.assuming.specs.Written.{Pushed}
use Rattle.assuming.proofs.Written.{pushed_both}
use Rattle.assuming.proofs.Asked.{switches_past}
use Rattle.assuming.proofs.writer.LiteralWriter.push_switches.Goals as goal
use Rattle.assuming.proofs.writer.LiteralWriter.push_switches.Goals.{then-forced, else-forced}

-- what the loop reads of the list's front is what is in force
front : (n : ℕ) (force : List Bool) (g : ℕ) (d : Bool) → g < length (take n force) → (b : Bool) → get_or (take n force) g d ≡ b → forced force g ≡ b
front n force g d h b e =
    get_or_default force g false d (omega (arith, h, length-take n force))
    ∙ sym (get_or-take n force g d (omega (arith, h, length-take n force)))
    ∙ e

one_more : (force : ℕ → Bool) (g : ℕ) → force g ≡ true → switches_on force g ++ (on g ∷ []) ≡ switches_on force (g + 1)
one_more force g e = sym (ap (switches_on force) (add-one g) ∙ cond-true (force g) _ _ e)

no_more : (force : ℕ → Bool) (g : ℕ) → force g ≡ false → switches_on force g ≡ switches_on force (g + 1)
no_more force g e = sym (ap (switches_on force) (add-one g) ∙ cond-false (force g) _ _ e)

all_goals : (force : List Bool) (g m : ℕ) → g ≡ min m (length force) → switches_on (forced force) g ≡ switches_on (forced force) m
all_goals force g m e = go (cases_lt m (length force))
  where
    go : (m < length force) ⊎ (length force ≤ m) → switches_on (forced force) g ≡ switches_on (forced force) m
    go (inl h) = let same : g ≡ m = omega (arith, e, h) in ap (switches_on (forced force)) same
    go (inr h) =
        let same : g ≡ length force = omega (arith, e, h) in
        ap (switches_on (forced force)) same ∙ sym (switches_past force m h)

pub loop-goal-preserved : goal.loop-goal-preserved
loop-goal-preserved c =
    let inv = c.loop-goal.invariant in
    let force = c.args.force.now in
    let g = c.loop-goal.goal in
    let read : (b : Bool) → get_or (take c.min-goals.result force) g false ≡ b → forced force g ≡ b =
    front c.min-goals.result force g false c.loop-goal-test.true in
    elim c.if-forced.branch [
      | then-forced w ↦
          rw w.self-is
          record {
            same_reference = w.push.ensures.same_reference ∙ inv.same_reference;
            pushed =
                subst (Pushed c.args.self.now w.push.new.self) (one_more (forced force) g (read true w.if-forced.true))
                (pushed_both c.args.self.now c.loop-goal.self w.push.new.self _ _ inv.pushed w.push.ensures.pushed);
          }
      | else-forced w ↦
          rw w.self-is
          record {
            same_reference = inv.same_reference;
            pushed = subst (Pushed c.args.self.now c.loop-goal.self) (no_more (forced force) g (read false w.if-forced.false)) inv.pushed;
          }
    ]

pub returns-clause-pushed : goal.returns-clause-pushed
returns-clause-pushed c =
    let inv = c.loop-goal.invariant in
    let all = all_goals c.args.force.now c.loop-goal.goal c.goals.result (omega (arith, length-take c.min-goals.result c.args.force.now)) in
    subst (Pushed c.args.self.now c.loop-goal.self) (all ∙ ap (switches_on (forced c.args.force.now)) c.goals.ensures) inv.pushed

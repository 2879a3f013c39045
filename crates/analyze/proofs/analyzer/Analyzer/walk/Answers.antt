use Rattle.std.proofs.Common.{◌≡◌, ◌+◌, ◌-◌, ◌/◌, ◌≤◌, false, length, get_or, sym, ap, ◌∙◌, subst, arith, length-append, [], ◌∷◌, ◌++◌}
use Rattle.std.proofs.lemmas.Bool.{both_ways}
use Rattle.rows.specs.Lits.{Turned}
use Rattle.trail.specs.declared.step.Step.{Step}
use Rattle.trail.specs.Trails.{literal_at}
use Rattle.analyze.proofs.Draws.{Walked, walk_skip, walk_keep, walk_take}
use Rattle.analyze.proofs.analyzer.Analyzer.walk.Goals as goal
use Rattle.analyze.proofs.analyzer.Analyzer.walk.Goals.{else-is_seen-via-then-is_seen+else-not-attempt, else-is_seen-via-else-is_seen}

pub loop-i-preserved-then-not-attempt : goal.loop-i-preserved-then-not-attempt
loop-i-preserved-then-not-attempt c =
    let steps = c.args.search.now.trail.steps.items in
    let l = c.loop-i in
    let a = c.attempt.new.self in
    let at : l.i ≡ l.i - 1 + 1 = omega arith in
    let short = l.invariant.short in
    let size : length (l.self.clause.items ++ c.turned.result ∷ []) ≡ length l.self.clause.items + 1 = length-append l.self.clause.items (c.turned.result ∷ []) in
    let turn : Turned (literal_at steps (l.i - 1)) c.turned.result = subst (λ (z : Step). Turned z.literal c.turned.result) c.step-l.ensures c.turned.ensures.other in
    record {
      walked = λ p x. rw (c.push_reserved.ensures.items, c.attempt.ensures.clause) (walk_keep p steps l.self.seen.items a.seen.items l.self.clause.items (l.i - 1) (subst (Walked p steps l.self.seen.items l.self.clause.items) at (l.invariant.walked p x)) c.turned.result c.attempt.ensures.grows turn);
      short = rw (c.push_reserved.ensures.items, c.attempt.ensures.clause) (omega arith);
    }

pub loop-i-preserved : goal.loop-i-preserved
loop-i-preserved c =
    let steps = c.args.search.now.trail.steps.items in
    let l = c.loop-i in
    let at : l.i ≡ l.i - 1 + 1 = omega arith in
    let less : length l.self.clause.items + (l.i - 1) ≤ length steps = let short = l.invariant.short in omega arith in
    record {
      walked = λ p x.
          let old = subst (Walked p steps l.self.seen.items l.self.clause.items) at (l.invariant.walked p x) in
          elim c.else-is_seen.branch [
            | else-is_seen-via-then-is_seen+else-not-attempt w ↦
                subst (λ z. Walked p steps z.seen.items z.clause.items (l.i - 1)) (sym w.self-is)
                (subst (λ z. Walked p steps w.attempt.new.self.seen.items z.items (l.i - 1)) (sym w.attempt.ensures.clause)
                (walk_take p steps l.self.seen.items w.attempt.new.self.seen.items l.self.clause.items (l.i - 1) old w.attempt.ensures.grows (w.attempt.ensures.absorbed w.if-not-attempt.false p x)))
            | else-is_seen-via-else-is_seen w ↦
                subst (λ z. Walked p steps z.seen.items z.clause.items (l.i - 1)) (sym w.self-is)
                (walk_skip p steps l.self.seen.items l.self.seen.items l.self.clause.items (l.i - 1) old
                (λ e. both_ways (get_or l.self.seen.items (literal_at steps (l.i - 1) / 2) false) (ap (λ (z : Step). get_or l.self.seen.items (z.literal / 2) false) (sym c.step-l.ensures) ∙ sym c.is_seen.ensures ∙ w.if-is_seen.false) e))
          ];
      short = elim c.else-is_seen.branch [
        | else-is_seen-via-then-is_seen+else-not-attempt w ↦ subst (λ z. length z.items + (l.i - 1) ≤ length steps) (sym (ap (λ z. z.clause) w.self-is ∙ w.attempt.ensures.clause)) less
        | else-is_seen-via-else-is_seen w ↦ subst (λ z. length z.clause.items + (l.i - 1) ≤ length steps) (sym w.self-is) less
      ];
    }

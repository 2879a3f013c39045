use Rattle.std.proofs.Common.{get_or, ap, ◌∙◌, inl, inr, subst, sym, rules, arith}
use Rattle.chooser.specs.Ways.{lit, some}
use Rattle.implied.specs.Implied.{allowed}
use Rattle.implied.proofs.Pools.{below_more}
use Rattle.analyze.specs.Analysis.{Grows}
use Rattle.analyze.proofs.Draws.{Part, part_grows, part_seen, absorbed_from}
use Rattle.analyze.proofs.analyzer.Analyzer.absorb.Goals as goal
use Rattle.analyze.proofs.analyzer.Analyzer.absorb.Goals.{else-ne-via-then-ne+then-not-is_off+else-not-see, else-ne-via-then-ne+else-not-is_off, else-ne-via-else-ne}

pub loop-m-preserved : goal.loop-m-preserved
loop-m-preserved c =
    let s = c.args.search.now in
    let steps = s.trail.steps.items in
    let clause = c.in-Some.clause.now in
    let l = c.loop-m in
    let n = c.else-ne in
    let more : Grows l.self.seen.items n.self.seen.items = elim n.branch [
      | else-ne-via-then-ne+then-not-is_off+else-not-see w ↦ subst (λ z. Grows l.self.seen.items z.seen.items) (sym w.self-is) w.see.ensures.grows
      | else-ne-via-then-ne+else-not-is_off w ↦ subst (λ z. Grows l.self.seen.items z.seen.items) (sym w.self-is) (λ v e. e)
      | else-ne-via-else-ne w ↦ subst (λ z. Grows l.self.seen.items z.seen.items) (sym w.self-is) (λ v e. e)
    ] in
    record {
      grows = λ v e. more v (l.invariant.grows v e);
      clause = elim n.branch [
        | else-ne-via-then-ne+then-not-is_off+else-not-see w ↦ ap (λ z. z.clause) w.self-is ∙ w.see.ensures.clause ∙ l.invariant.clause
        | else-ne-via-then-ne+else-not-is_off w ↦ ap (λ z. z.clause) w.self-is ∙ l.invariant.clause
        | else-ne-via-else-ne w ↦ ap (λ z. z.clause) w.self-is ∙ l.invariant.clause
      ];
      parts = λ p x. below_more (λ k. Part p steps n.self.seen.items c.args.i c.args.but (get_or clause k 0)) l.m-index
          (λ k lt. part_grows p steps l.self.seen.items n.self.seen.items c.args.i c.args.but (get_or clause k 0) more (l.invariant.parts p x k lt))
          (elim n.branch [
            | else-ne-via-then-ne+then-not-is_off+else-not-see w ↦ subst (λ z. Part p steps z.seen.items c.args.i c.args.but (get_or clause l.m-index 0)) (sym w.self-is) (part_seen p steps w.see.new.self.seen.items c.args.i c.args.but (get_or clause l.m-index 0) (w.see.ensures.found w.if-not-see.false))
            | else-ne-via-then-ne+else-not-is_off w ↦ inl (w.is_off.ensures.known w.if-not-is_off.false p x)
            | else-ne-via-else-ne w ↦ inr (inr (search rules))
          ]);
    }

pub returns-clause-absorbed : goal.returns-clause-absorbed
returns-clause-absorbed c _ =
    let s = c.args.search.now in
    let clause = c.in-Some.clause.now in
    let known = c.in-Some.ensures.clause in
    absorbed_from (allowed s.facts.store.row.items) s.trail.steps.items c.loop-m.self.seen.items c.args.i c.args.but clause
    (λ p x. ap (some (lit p)) known.1 ∙ s.facts.met c.args.c known.0 p x)
    (λ p x k lt. c.loop-m.invariant.parts p x k (omega arith))

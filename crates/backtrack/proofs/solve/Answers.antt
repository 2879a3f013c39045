-- Each turn of the search: a pass that moved, a decision, a step back; and its two answers.
use Rattle.std.proofs.Common.{◌≡◌, ℕ, ◌-◌, ◌/◌, ◌^◌, ◌<◌, Bool, true, List, [], ◌∷◌, ◌++◌, length, get_or, set, replicate, sym, ap, ◌∙◌, subst, arith}
use Rattle.std.proofs.lemmas.List.{get_or-replicate}
use Rattle.chooser.specs.Ways.{allotted}
use Rattle.rows.specs.Rows.{inside}
use Rattle.backtrack.specs.Values.{bit}
use Rattle.backtrack.specs.Solved.{allowed}
use Rattle.backtrack.specs.Trail.{Trail}
use Rattle.backtrack.specs.Swept.{Passed}
use Rattle.backtrack.specs.declared.trail.Step.{Step}
use Rattle.backtrack.specs.declared.trail.Step.TheVariants.{Follows}
use Rattle.backtrack.proofs.Trails.{room}
use Rattle.backtrack.proofs.Turns.{trail_start, load, moved_less, open_again, open_less, clash_again, clash_less, finished}
use Rattle.backtrack.proofs.solve.Goals as goal

-- a trail, or its measure, as a call left it
trail_to : (X : (ℕ → Bool) → Bool) (a b : List ℕ) (e f : List Step) → b ≡ a → f ≡ e → Trail X a e → Trail X b f
trail_to X a b e f x y t = subst (λ w. Trail X w f) (sym x) (subst (Trail X a) (sym y) t)

less_to : (n was : ℕ) (a b : List Step) → b ≡ a → 3 ^ n - load n a < 3 ^ n - was → 3 ^ n - load n b < 3 ^ n - was
less_to n was a b e h = subst (λ w. 3 ^ n - load n w < 3 ^ n - was) (sym e) h

pub loop-l-init : goal.loop-l-init
loop-l-init g c =
    let out = c.fill.new.self in
    let same : out ≡ replicate (length c.args.values.now) 2 = c.fill.ensures.after (λ y e. e) in
    subst (Trail (allowed c.args.row.now c.args.assumptions.now) out) (sym c.clear.ensures.items)
    (trail_start (allowed c.args.row.now c.args.assumptions.now) out (λ k lt. ap (λ xs. get_or xs k 0) same ∙ get_or-replicate (length c.args.values.now) k 2 0 (omega arith)))

pub loop-l-smaller-in-Ok-Moved : goal.loop-l-smaller-in-Ok-Moved
loop-l-smaller-in-Ok-Moved g c =
    let h = c.in-Ok-Moved.ensures in
    let ends = subst (Passed (allowed c.args.row.now c.args.assumptions.now) h.more c.sweep.new.values c.sweep.new.trail.list.items) c.in-Ok-Moved.field-0-is h.ends in
    moved_less (allowed c.args.row.now c.args.assumptions.now) c.loop-l.trail.list.items c.sweep.new.values c.sweep.new.trail.list.items h.more (length c.fill.new.self) (c.sweep.auto.values ∙ c.loop-l.auto.values) h.goes h.grown ends

pub push-requires : goal.push-requires
push-requires g c =
    let h = c.in-Ok-Open.ensures in
    let ends = subst (Passed (allowed c.args.row.now c.args.assumptions.now) h.more c.sweep.new.values c.sweep.new.trail.list.items) c.in-Ok-Open.field-0-is h.ends in
    let lt = room (allowed c.args.row.now c.args.assumptions.now) c.sweep.new.values c.sweep.new.trail.list.items h.goes c.in-Ok-Open.l ends in
    let size : length c.sweep.new.values ≡ length c.args.values.now = c.sweep.auto.values ∙ c.loop-l.auto.values ∙ c.fill.ensures.len in
    let most = c.requires.room in
    let below : c.in-Ok-Open.l / 2 < length c.sweep.new.values = let a = ends.0 in omega arith in
    (omega arith, (below, omega arith))

pub loop-l-smaller-in-Ok-Open : goal.loop-l-smaller-in-Ok-Open
loop-l-smaller-in-Ok-Open g c =
    let h = c.in-Ok-Open.ensures in
    let ends = subst (Passed (allowed c.args.row.now c.args.assumptions.now) h.more c.sweep.new.values c.sweep.new.trail.list.items) c.in-Ok-Open.field-0-is h.ends in
    less_to (length c.fill.new.self) _ _ c.push.new.self.list.items c.push.ensures.trail
    (open_less (allowed c.args.row.now c.args.assumptions.now) c.loop-l.trail.list.items c.sweep.new.values c.sweep.new.trail.list.items h.more (length c.fill.new.self) (c.sweep.auto.values ∙ c.loop-l.auto.values) h.goes h.grown c.in-Ok-Open.l ends)

pub loop-l-preserved-in-Ok-Open : goal.loop-l-preserved-in-Ok-Open
loop-l-preserved-in-Ok-Open g c =
    let h = c.in-Ok-Open.ensures in
    let ends = subst (Passed (allowed c.args.row.now c.args.assumptions.now) h.more c.sweep.new.values c.sweep.new.trail.list.items) c.in-Ok-Open.field-0-is h.ends in
    trail_to _ _ _ _ _ c.push.ensures.values c.push.ensures.trail
    (open_again (allowed c.args.row.now c.args.assumptions.now) c.loop-l.trail.list.items c.sweep.new.values c.sweep.new.trail.list.items h.more (length c.fill.new.self) (c.sweep.auto.values ∙ c.loop-l.auto.values) h.goes h.grown c.in-Ok-Open.l ends)

pub returns-in-Ok-Met : goal.returns-in-Ok-Met
returns-in-Ok-Met g c =
    let row = c.args.row.now in
    let assumptions = c.args.assumptions.now in
    let values = c.sweep.new.values in
    let h = c.in-Ok-Met.ensures in
    let ends = subst (Passed (allowed c.args.row.now c.args.assumptions.now) h.more c.sweep.new.values c.sweep.new.trail.list.items) c.in-Ok-Met.field-0-is h.ends in
    let size : length c.args.values.now ≡ length values = sym (c.sweep.auto.values ∙ c.loop-l.auto.values ∙ c.fill.ensures.len) in
    finished row assumptions values c.finish.new.values c.finish.auto.values h.goes.small c.finish.ensures
    (subst (λ k. inside k 0 row ≡ true) size c.requires.row)
    (subst (λ k. allotted k assumptions ≡ true) size c.requires.assumptions)
    ends

pub loop-l-smaller : goal.loop-l-smaller
loop-l-smaller g c =
    let X = allowed c.args.row.now c.args.assumptions.now in
    let h = c.in-Err.ensures in
    let u = c.in-Some.ensures X h.goes h.dead in
    less_to (length c.fill.new.self) _ _ c.push-in-Err.new.self.list.items (c.push-in-Err.ensures.trail ∙ ap (λ l. c.take_back.new.self.list.items ++ (Follows l ∷ [])) c.turned.ensures.value)
    (clash_less X c.loop-l.trail.list.items c.sweep.new.values c.sweep.new.trail.list.items h.more (length c.fill.new.self) (c.sweep.auto.values ∙ c.loop-l.auto.values) h.goes h.grown c.take_back.new.values c.take_back.new.self.list.items c.in-Some.l u (c.take_back.auto.values ∙ c.sweep.auto.values ∙ c.loop-l.auto.values))

pub loop-l-preserved : goal.loop-l-preserved
loop-l-preserved g c =
    let X = allowed c.args.row.now c.args.assumptions.now in
    let h = c.in-Err.ensures in
    let u = c.in-Some.ensures X h.goes h.dead in
    let is = c.turned.ensures.value in
    trail_to _ _ _ _ _ (c.push-in-Err.ensures.values ∙ ap (λ l. set c.take_back.new.values (l / 2) (bit l)) is) (c.push-in-Err.ensures.trail ∙ ap (λ l. c.take_back.new.self.list.items ++ (Follows l ∷ [])) is)
    (clash_again X c.loop-l.trail.list.items c.sweep.new.values c.sweep.new.trail.list.items h.more (length c.fill.new.self) (c.sweep.auto.values ∙ c.loop-l.auto.values) h.goes h.grown c.take_back.new.values c.take_back.new.self.list.items c.in-Some.l u)

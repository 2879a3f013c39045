use Rattle.std.proofs.Common.{◌≡◌, ◌-◌, ◌≤◌, take, ◌∙◌, subst, arith}
use Rattle.syntax.specs.Problems.{concat, encode_list}
use Rattle.records.specs.Readers.{ahead_of}
use Rattle.records.proofs.Runs.{Listed, listed_more, listed_all}
use Rattle.records.proofs.Passed.{place_after, between_places}
use Rattle.records.proofs.reader.Reader.lists.Goals as goal

pub loop-preserved : goal.loop-preserved
loop-preserved c =
    let e = c.in_ok-list.ensures in
    (e.0 ∙ c.loop.invariant.0, listed_more c.loop.invariant.1 c.loop-test.true e.1)

pub slice_bounds-part-count : goal.slice_bounds-part-count
slice_bounds-part-count c =
    let l = c.loop.invariant.1 in
    omega (arith, place_after c.args.self.now c.loop.ahead (concat encode_list l.xs) c.loop.invariant.0 l.front)

pub slice_bounds-part-start : goal.slice_bounds-part-start
slice_bounds-part-start c =
    let l = c.loop.invariant.1 in
    omega (arith, place_after c.args.self.now c.loop.ahead (concat encode_list l.xs) c.loop.invariant.0 l.front)

pub returns : goal.returns
returns c =
    let s = c.args.self.now in
    let a = c.loop.ahead in
    let l = c.loop.invariant.1 in
    let part = take (a.at - s.at) (ahead_of s) in
    let low : s.at ≤ a.at = omega (arith, place_after s a (concat encode_list l.xs) c.loop.invariant.0 l.front) in
    let cut = between_places s a c.loop.invariant.0 low in
    let done : c.loop.counter ≡ c.args.count = omega arith in
    let q = listed_all (subst (λ i. Listed c.args.mark c.args.count i (ahead_of s) s.at (ahead_of a) a.at) done l) part cut in
    record { takes = (c.loop.invariant.0, q.0); written = (cut, q.1) }

use Rattle.std.proofs.Common.{◌≡◌, ℕ, ◌+◌, ◌<◌, ◌≤◌, cond, length, get_or, sym, ap, ◌∙◌, arith, le-ltb, lt-ltb}
use Rattle.std.proofs.lemmas.Grind.{common_steps}
use Rattle.reading.specs.declared.parts.Tag.{Tag}
use Rattle.reading.specs.Reading.{tag_of}
use Rattle.problem.specs.declared.view.View.TheVariants.{Nothing}
use Rattle.problem.specs.Meant.{held, sig, ends}
use Rattle.problem.specs.Views.{view_by, view_at}
use Rattle.problem.proofs.Views.{views_show}
use Rattle.problem.proofs.problem.Problem.view.Goals as goal

pub returns-in-Some : goal.returns-in-Some
returns-in-Some c =
    let p = c.args.self.now in
    let q = c.args.place in
    let low : q < length (held p) = grind (arith, common_steps) in
    let here : c.in-Some.tag.now ≡ get_or (held p) q 0 = grind (arith, common_steps) in
    let by = λ (g : Tag). view_by (sig p) (ends p) q g (get_or (held p) (q + 1) 0) (get_or (held p) (q + 2) 0) in
    let is : c.view_by.result ≡ view_at (sig p) (held p) (ends p) q =
    c.view_by.ensures.is ∙ ap by c.from.ensures ∙ ap (λ b. by (tag_of b)) here
    ∙ sym (ap (λ b. cond b (by (tag_of (get_or (held p) q 0))) Nothing) (lt-ltb q (length (held p)) low)) in
    record { is = is; shows = views_show (sig p) (held p) q c.view_by.result is; few = c.view_by.ensures.few }

pub returns-in-None : goal.returns-in-None
returns-in-None c =
    let p = c.args.self.now in
    let q = c.args.place in
    let past : length (held p) ≤ q = grind (arith, common_steps) in
    let by = λ (b : ℕ). view_by (sig p) (ends p) q (tag_of b) (get_or (held p) (q + 1) 0) (get_or (held p) (q + 2) 0) in
    let is : Nothing ≡ view_at (sig p) (held p) (ends p) q =
    sym (ap (λ b. cond b (by (get_or (held p) q 0)) Nothing) (le-ltb q (length (held p)) past)) in
    record { is = is; shows = views_show (sig p) (held p) q Nothing is; few = tt }

use Rattle.std.proofs.Common.{◌≡◌, ℕ, suc, ◌+◌, sym, ap, ◌∙◌, subst, arith}
use Rattle.syntax.specs.Terms.{◌t∷◌}
use Rattle.ends.specs.Ends.{hops}
use Rattle.problem.specs.Meant.{ends}
use Rattle.judging.specs.Held.{branch}
use Rattle.held.specs.Reading.{Reads}
use Rattle.judge.specs.Texts.{text_of}
use Rattle.judge.proofs.Texts.{branch_reads, no_branch}
use Rattle.judge.proofs.held_terms.hold_branch.Goals as goal

pub returns-then-constructor-constructors : goal.returns-then-constructor-constructors
returns-then-constructor-constructors c m top u us ρ long r b =
    let p = c.args.problem.now in
    let at = λ (q : ℕ). Reads (text_of p) q (branch us c.args.constructor) in
    let count : 1 + c.from.result ≡ suc c.args.constructor = omega (arith, c.from.ensures) in
    let hop : c.past-place.result ≡ hops (ends p) (suc c.args.constructor) c.args.subject =
    c.past-place.ensures ∙ ap (λ (k : ℕ). hops (ends p) k c.args.subject) count in
    (subst at (sym hop) (branch_reads p c.args.subject (suc c.args.constructor) (u t∷ us) (omega arith) r), b)

pub returns-else-constructor-constructors : goal.returns-else-constructor-constructors
returns-else-constructor-constructors c m top u us ρ long r b = no_branch us c.args.constructor (omega arith)

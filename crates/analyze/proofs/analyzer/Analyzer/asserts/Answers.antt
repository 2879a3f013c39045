use Rattle.std.proofs.Common.{◌≡◌, ℕ, Bool, false, ◌<◌, ◌≤◌, MatchBool, length, true, sym, ◌∙◌, rules, arith}
use Rattle.std.specs.List.{AllWithin}
use Rattle.std.proofs.lemmas.Iterator.{YieldsList-from_slice, cases_from_all}
use borrow.Author.Tests.{tests}
use Rattle.rows.specs.Lits.{Turned}
use Rattle.trail.specs.Trails.{literal_at}
use Rattle.analyze.proofs.Jumps.{opposed_from}
use Rattle.analyze.proofs.analyzer.Analyzer.asserts.Goals as goal

told : (b : Bool) (A B : Type 0) → b ≡ true → MatchBool b A B → A
told true A B e h = h
told false A B e h = let z : ⊥ = cc in absurd z

pub returns-then-all : goal.returns-then-all
returns-then-all c e =
    let steps = c.args.trail.now.steps.items in
    let others = c.in-Some.others.now in
    let k = c.args.k in
    let parts = c.in-Some.ensures.cases in
    let each : AllWithin (λ m. (j : ℕ) × (j < k) × Turned (literal_at steps j) m) others 0 (length others) = told c.all.result _ _ c.if-all.true (cases_from_all _ _ c.all.result (λ m. (j : ℕ) × (j < k) × Turned (literal_at steps j) m) (λ m. Unit {0}) c.all.ensures.ran (YieldsList-from_slice others cc) (λ x q h. search (rules, tests)) (λ x q h. search (rules, tests))) in
    let last : (j : ℕ) × (k ≤ j) × (j < length steps) × Turned (literal_at steps j) c.in-Some.first.now = search (rules, tests) in
    opposed_from steps c.args.self.now.clause.items others c.in-Some.first.now k last.0 (sym c.deref.ensures.value ∙ parts.0) last.1 last.2 last.3 (λ q lt. each q 0 (omega arith) lt)

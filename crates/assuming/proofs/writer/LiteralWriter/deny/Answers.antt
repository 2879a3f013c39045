-- A case that reaches beyond the depth is denied, and no other; and the unknown fits the depth.
use Rattle.std.proofs.Common.{◌≡◌, ℕ, ◌+◌, ◌-◌, ◌<◌, ◌≤◌, [], ◌∷◌, ◌++◌, Some, sym, ap, ◌∙◌, subst, arith, add-one}
use Rattle.std.proofs.lemmas.Bool.{cond-true, cond-false, lt-ltb, le-ltb, le-leb}
use Rattle.syntax.specs.Typing.{Sig, constructors}
use Rattle.syntax.specs.Least.{least_of, need_of}
use Rattle.finder.specs.Clauses.{off}
use Rattle.unknowns.specs.declared.table.Unknown.{Unknown}
use Rattle.problem.specs.Meant.{sig}
use Rattle.assuming.specs.Written.{Pushed}
use Rattle.assuming.specs.Denied.{capped, row_cases, opened_denials, row_denials}
use Rattle.assuming.proofs.Written.{pushed_both}
use Rattle.assuming.proofs.writer.LiteralWriter.deny.Goals as goal
use Rattle.assuming.proofs.writer.LiteralWriter.deny.Goals.{then-reach-depth-2, else-reach-depth-2}

module _ (s : Sig) (n : ℕ) (x : Unknown) (a : ℕ) where
  one_more : (m : ℕ) → n < x.level + need_of s x.ty m - 1 → row_cases s n x a m ++ (capped (off (a + m)) ∷ []) ≡ row_cases s n x a (m + 1)
  one_more m h = sym (ap (row_cases s n x a) (add-one m) ∙ cond-true _ _ _ (lt-ltb n (x.level + need_of s x.ty m - 1) h))

  no_more : (m : ℕ) → x.level + need_of s x.ty m - 1 ≤ n → row_cases s n x a m ≡ row_cases s n x a (m + 1)
  no_more m h = sym (ap (row_cases s n x a) (add-one m) ∙ cond-false _ _ _ (le-ltb n (x.level + need_of s x.ty m - 1) h))

  all_cases : x.first ≡ Some a → x.level + least_of s x.ty - 1 ≤ n → row_cases s n x a (constructors s x.ty) ≡ row_denials s n x
  all_cases e h = sym (ap (opened_denials s n x) e ∙ cond-true _ _ _ (le-leb (x.level + least_of s x.ty - 1) n h))

pub loop-case-preserved : goal.loop-case-preserved
loop-case-preserved c =
    let inv = c.loop-case.invariant in
    let s = sig c.args.problem.now in
    let x = c.args.unknown.now in
    let a = c.in-Some.first in
    let m = c.loop-case.case in
    elim c.if-reach-depth-2.branch [
      | then-reach-depth-2 w ↦
          rw w.self-is
          record {
            same_reference = w.push.ensures.same_reference ∙ inv.same_reference;
            pushed =
                subst (Pushed c.args.self.now w.push.new.self)
                (one_more s c.args.depth x a m (omega (arith, w.if-reach-depth-2.true, c.reach-in-loop-case.ensures, c.need.ensures)))
                (pushed_both c.args.self.now c.loop-case.self w.push.new.self _ _ inv.pushed
                (rw w.denial.ensures at w.push.ensures.pushed));
          }
      | else-reach-depth-2 w ↦
          rw w.self-is
          record {
            same_reference = inv.same_reference;
            pushed =
                subst (Pushed c.args.self.now c.loop-case.self)
                (no_more s c.args.depth x a m (omega (arith, w.if-reach-depth-2.false, c.reach-in-loop-case.ensures, c.need.ensures)))
                inv.pushed;
          }
    ]

pub returns-clause-pushed : goal.returns-clause-pushed
returns-clause-pushed c =
    let s = sig c.args.problem.now in
    let x = c.args.unknown.now in
    let end : c.loop-case.case ≡ constructors s x.ty = omega (arith, c.constructors-case-end.ensures) in
    subst (Pushed c.args.self.now c.loop-case.self)
    (ap (row_cases s c.args.depth x c.in-Some.first) end ∙ all_cases s c.args.depth x c.in-Some.first c.in-Some.is (omega (arith, c.reach.ensures, c.least.ensures)))
    c.loop-case.invariant.pushed

-- The rows before the next, and the next.
use Rattle.std.proofs.Common.{◌≡◌, ℕ, ◌+◌, ◌<◌, List, [], ◌∷◌, ◌++◌, length, get_or, take, sym, ap, ◌∙◌, subst}
use Rattle.std.proofs.lemmas.List.{append-nil, take_more}
use Rattle.std.proofs.lemmas.Grind.{flat_map-append}
use Rattle.std.specs.List.{flat_map}
use Rattle.unknowns.specs.declared.table.Unknown.{Unknown}
use Rattle.problem.specs.Meant.{sig}
use Rattle.assuming.specs.Written.{Pushed}
use Rattle.assuming.specs.Denied.{row_denials}
use Rattle.assuming.proofs.Written.{pushed_both}
use Rattle.assuming.proofs.writer.LiteralWriter.push_denials.Goals as goal

row_more : (f : Unknown → List ℕ) (rows : List Unknown) (i : ℕ) (d : Unknown) → i < length rows
    → flat_map f (take i rows) ++ f (get_or rows i d) ≡ flat_map f (take (i + 1) rows)
row_more f rows i d h =
    sym (ap (flat_map f) (take_more rows i d h)
    ∙ flat_map-append f (take i rows) (get_or rows i d ∷ [])
    ∙ ap (λ (ls : List ℕ). flat_map f (take i rows) ++ ls) (append-nil (f (get_or rows i d))))

pub loop-unknown-preserved : goal.loop-unknown-preserved
loop-unknown-preserved c =
    let inv = c.loop-unknown.invariant in
    let new = c.deny.ensures in
    record {
      same_reference = new.same_reference ∙ inv.same_reference;
      pushed =
          subst (Pushed c.args.self.now c.deny.new.self)
          (row_more (row_denials (sig c.args.problem.now) c.args.depth) c.args.unknowns.now c.loop-unknown.unknown-index _ c.loop-unknown-test.true)
          (pushed_both c.args.self.now c.loop-unknown.self c.deny.new.self _ _ inv.pushed new.pushed);
    }

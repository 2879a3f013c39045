use Rattle.std.proofs.Common.{◌≡◌, ◌+◌, ◌-◌, ◌<◌, ◌++◌, map, length, get_or, take, drop, set, sym, ap, ◌∙◌, subst, arith}
use Rattle.std.proofs.lemmas.List.{length-set, length-drop, take_all}
use Rattle.syntax.specs.Tables.{listed}
use Rattle.records.specs.Next.{lists_in, Lists}
use Rattle.tables.proofs.Entries.{list_at, constructor_push}
use Rattle.tables.proofs.sections.datatype.Goals as goal

pub loop-list-preserved : goal.loop-list-preserved
loop-list-preserved c =
    let l = c.loop-list in
    let rest = l.rest.now in
    let table = l.list-items in
    let i = l.list-index in
    let n = length table in
    let t = c.new.result in
    let inv = l.invariant in
    let low : i < n = omega arith in
    let k = get_or rest 0 0 in
    let same : length (set table i t) ≡ n = length-set table i t in
    let count : c.from-in-loop-list.result ≡ k = c.from-in-loop-list.ensures in
    let m = c.from-in-loop-list.result in
    let behind : take (length rest - 1) (drop 1 rest) ≡ drop 1 rest = take_all (length rest - 1) (drop 1 rest) (omega (arith, length-drop 1 rest)) in
    let types : listed t ≡ take k (drop 1 rest)
    = c.new.ensures ∙ c.split_at.ensures.front ∙ ap (take m) behind ∙ ap (λ j. take j (drop 1 rest)) count in
    let others : c.split_at.result.1.now ≡ drop k (drop 1 rest) = c.split_at.ensures.back ∙ ap (drop m) behind ∙ ap (λ j. drop j (drop 1 rest)) count in
    let first = list_at rest n i low inv.1 in
    let more = constructor_push rest n i table t (lists_in c.args.item.count c.args.item.constructors.now) low low inv.1 types inv.2 in (
      same ∙ inv.0,
      subst (λ m. Lists (m - (i + 1)) c.split_at.result.1.now) (sym same) (subst (Lists (n - (i + 1))) (sym others) first.others),
      ap (λ m. map listed (take (i + 1) (set table i t)) ++ lists_in (m - (i + 1)) c.split_at.result.1.now) same
          ∙ ap (λ bs. map listed (take (i + 1) (set table i t)) ++ lists_in (n - (i + 1)) bs) others
          ∙ more,
    )

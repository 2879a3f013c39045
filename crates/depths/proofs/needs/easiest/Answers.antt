use Rattle.std.proofs.Common.{rules, ◌≡◌, ℕ, ◌+◌, List, length, map, min, sym, ap, ◌∙◌, subst}
use Rattle.std.specs.List.{fold}
use Rattle.std.proofs.lemmas.Simd.{map-map}
use Rattle.syntax.specs.Tables.{listed, cases_in}
use Rattle.syntax.specs.Least.{greatest}
use Rattle.depths.specs.Needs.{depth_at, need_in, Easiest}
use Rattle.depths.proofs.Filling.{easiest_fold}
use Rattle.depths.proofs.needs.easiest.Goals as goal

pub returns : goal.returns
returns c =
    let need : List ℕ → ℕ = λ ts. 1 + greatest (depth_at c.args.least.now) ts in
    let least : List ℕ → ℕ = fold (λ a x. min a x) 9 in
    let folded : c.fold.result ≡ least (map (λ l. need (listed l)) c.cases.result.now) = search rules in
    let all : c.fold.result ≡ least (map need (cases_in c.args.datatype.now)) =
    folded ∙ ap least (sym (map-map need listed c.cases.result.now)) ∙ ap (λ cs. least (map need cs)) c.cases.ensures.is in
    let cs = cases_in c.args.datatype.now in
    subst (Easiest (need_in c.args.least.now cs) (length cs)) (sym all) (easiest_fold need cs)

use Rattle.std.proofs.Common.{◌≡◌, ◌+◌, ◌<◌, [], length, get_or, vec_items, sym, ap, ◌∙◌, subst, arith}
use Rattle.std.proofs.lemmas.List.{get_or_past, get_or_read}
use Rattle.syntax.specs.Typing.{cases_of}
use Rattle.syntax.specs.Least.{greatest, least_of}
use Rattle.problem.specs.Meant.{sig}
use Rattle.problem.proofs.Entries.{type_there}
use Rattle.problem.proofs.problem.Problem.need.Goals as goal

pub returns-then-c-constructors : goal.returns-then-c-constructors
returns-then-c-constructors c =
    let p = c.args.self.now in
    ap (λ ts. 1 + greatest (least_of (sig p)) ts) (sym (get_or_past (cases_of (sig p) c.args.t) c.args.c [] (omega arith)))

pub index-requires : goal.index-requires
index-requires c =
    let p = c.args.self.now in
    let low = type_there (vec_items p.tables.types) (sig p).types c.args.t c.args.c p.holds.of_types (omega arith) in
    let long = p.needs.ok.0 in
    let same = p.needs_long in
    omega arith

pub returns : goal.returns
returns c =
    let p = c.args.self.now in
    let low = type_there (vec_items p.tables.types) (sig p).types c.args.t c.args.c p.holds.of_types (omega arith) in
    let same = p.needs_long in
    let few = p.holds.few_cases c.args.t in
    let there : c.args.t < length (vec_items p.needs) = omega arith in
    let row : c.index.result.now ≡ get_or (vec_items p.needs) c.args.t c.index.result.now = subst (λ i. c.index.result.now ≡ get_or (vec_items p.needs) i c.index.result.now) c.from.ensures c.index.ensures in
    ap (λ i. get_or c.index.result.now i 0) c.from-2.ensures
    ∙ ap (λ row. get_or row c.args.c 0) (get_or_read (vec_items p.needs) c.args.t c.index.result.now there row [])
    ∙ p.needs_held c.args.t c.args.c (there, omega arith)

use Rattle.std.proofs.Common.{◌≡◌, ◌≤◌, length, length-take, take, refl, ap, ◌∙◌, arith}
use Rattle.std.proofs.lemmas.Result.{err_from_is_err_and}
use Rattle.std.proofs.lemmas.List.{length-map}
use Rattle.syntax.specs.Tables.{cases_in}
use Rattle.tables.specs.Tabled.{declared_by}
use Rattle.verdict.proofs.Examining.{low, fit_functions, by_types, by_terms, terms_refused, terms_accepted, declared_same, leasts_front}
use Rattle.verdict.proofs.examine.examine.Goals as goal

-- what the tables hold, where their fronts are passed on
pub check_types-requires : goal.check_types-requires
check_types-requires c =
    let n = c.in_ok-counts.counts in
    let t = c.in_ok-counts.ensures.reads in
    let few = t.1.within.few_types in
    let count = t.1.types_count in
    let wide = c.requires.types in
    let deep = c.requires.least in
    record {
      low =
          low t.0 _ n.start t.1.within
          t.1.declares;
      long = omega (arith, length-take n.types c.read_records.new.types);
    }

pub returns-in_err-check_types : goal.returns-in_err-check_types
returns-in_err-check_types c =
    let n = c.in_ok-counts.counts in
    let t = c.in_ok-counts.ensures.reads in
    let p = err_from_is_err_and c.from_residual-in_err-check_types.result c.from_residual-in_err-check_types.ensures.1 in
    rw (p.1, p.2)
    (by_types c.args.bytes.now t.0 c.in_err-check_types.field-0.0 t.1.read
    (c.in_err-check_types.ensures.exact t.0
    t.1.declares))

pub check_terms-requires : goal.check_terms-requires
check_terms-requires c =
    let n = c.in_ok-counts.counts in
    let t = c.in_ok-counts.ensures.reads in
    let d = t.1.declares in
    let l = t.1.locates in
    let short = t.1.within.short in
    let same = ap length t.1.written in
    let all : length c.args.bytes.now ≤ 16384 = omega arith in
    record {
      functions = fit_functions c.args.bytes.now t.0 _ _ t.1.within l d.of_functions;
      goals = l.goals_inside;
      room = c.requires.room all;
    }

pub returns-in_err-check_terms : goal.returns-in_err-check_terms
returns-in_err-check_terms c =
    let n = c.in_ok-counts.counts in
    let t = c.in_ok-counts.ensures.reads in
    let d = t.1.declares in
    let l = t.1.locates in
    let p = err_from_is_err_and c.from_residual-in_err-check_terms.result c.from_residual-in_err-check_terms.ensures.1 in
    rw (p.1, p.2)
    (by_terms c.args.bytes.now t.0 t.1.read (c.in_ok-check_types.ensures.exact t.0 d)
    ∙ terms_refused c.args.bytes.now t.0 _ _ l _ (declared_same t.0 _ _ _ n.start d) c.in_err-check_terms.field-0.0 c.in_err-check_terms.ensures)

pub returns : goal.returns
returns c =
    let n = c.in_ok-counts.counts in
    let t = c.in_ok-counts.ensures.reads in
    let d = t.1.declares in
    let l = t.1.locates in
    let a = terms_accepted c.args.bytes.now t.0 _ _ l _ (declared_same t.0 _ _ _ n.start d) c.in_ok-check_terms.ensures in
    let ts = take n.types c.read_records.new.types in
    let all : length ts ≡ n.types = omega (arith, length-map ts cases_in, ap length d.of_types, t.1.types_count) in
    record {
      raw = t.0;
      problem = a.0;
      tabled = t.1;
      terms = a.1;
      is = by_terms c.args.bytes.now t.0 t.1.read (c.in_ok-check_types.ensures.exact t.0 d) ∙ a.1;
      leasts = leasts_front _ (declared_by t.0) n.types ts c.check_types.new.least (declared_same t.0 _ _ _ n.start d) all (c.in_ok-check_types.ensures.leasts refl);
    }

use Rattle.std.proofs.Common.{◌≡◌, ℕ, ◌+◌, List, [], ◌++◌, map, length, take, drop, ap, arith, length-append, rules}
use Rattle.std.proofs.lemmas.List.{drop_more, length-take-le}
use Rattle.std.proofs.lemmas.Result.{err_from_is_err_and}
use Rattle.syntax.specs.Typing.{want, cases_of, arguments}
use Rattle.syntax.specs.Tables.{declared_in}
use Rattle.reading.specs.Reading.{starts}
use Rattle.terms.proofs.context.Context.open_branch.Goals as goal

pub returns-in_err-inner-clause-is : goal.returns-in_err-inner-clause-is
returns-in_err-inner-clause-is c =
    let sig = declared_in c.args.self.now.sig in
    let s = c.args.self.now.scope in
    let next = c.args.next in
    let cut = c.args.cut in
    let cs = cases_of sig c.args.of in
    let f = λ (tys : List ℕ). want (take cut s ++ tys) c.args.ty in
    let tys = arguments sig c.args.of next in
    let long : length s ≡ 64 = search rules in
    let same = ap length c.arguments.ensures.is in
    let many = c.in_err-inner.ensures.is in
    let sum = length-append (take cut s) tys in
    let at = length-take-le cut s (omega arith) in
    let exit = err_from_is_err_and c.from_residual.result c.from_residual.ensures.1 in
    rw exit.1 (record {
      wanted = f tys;
      others = starts (map f (drop (next + 1) cs));
      is = ap (λ zs. starts (map f zs)) (drop_more cs next [] c.requires.left);
      many = omega arith;
    })

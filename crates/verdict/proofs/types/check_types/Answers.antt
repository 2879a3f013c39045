use Rattle.std.proofs.Common.{◌≡◌, Err, length, sym, ap, ◌∙◌, subst}
use Rattle.std.proofs.lemmas.List.{length-take-le}
use Rattle.syntax.proofs.Entries.{no_datatype}
use Rattle.records.proofs.Results.{never_ok}
use Rattle.syntax.specs.Tables.{declared_in}
use Rattle.depths.specs.Least.{Leasts}
use Rattle.verdict.proofs.Examining.{front_written}
use Rattle.verdict.proofs.Looks.{types_undeclared, types_fine, types_deep}
use Rattle.verdict.proofs.types.check_types.Goals as goal

pub returns-in-Some : goal.returns-in-Some
returns-in-Some c =
    record {
      exact = λ raw h. ap Err c.at.ensures ∙ types_undeclared c.args.sig c.args.start raw h c.in-Some.place c.in-Some.ensures;
      leasts = λ e. never_ok e;
    }

pub returns-in-Some-least_depths : goal.returns-in-Some-least_depths
returns-in-Some-least_depths c =
    record {
      exact =
          λ raw h. ap Err c.at-in-Some-least_depths.ensures
          ∙ types_deep c.args.sig c.args.start raw h c.in_default.ensures c.in-Some-least_depths.t c.in-Some-least_depths.ensures.first no_datatype;
      leasts = λ e. never_ok e;
    }

pub returns-in-None : goal.returns-in-None
returns-in-None c =
    let n = length c.args.sig.types.now in
    let written : length c.least_depths.new.least ≡ n = c.least_depths.auto.least ∙ length-take-le n c.args.least.now c.requires.long in
    record {
      exact = λ raw h. types_fine c.args.sig c.args.start raw h c.in_default.ensures c.in-None.ensures.first;
      leasts = λ e. subst (Leasts (declared_in c.args.sig)) (sym (front_written n c.least_depths.new.least _ written)) c.least_depths.ensures.each;
    }

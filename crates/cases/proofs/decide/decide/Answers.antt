use Rattle.std.proofs.Common.{◌≡◌, length, take, refl, length-take, arith}
use Rattle.cases.proofs.Rows.{table_decided}
use Rattle.cases.proofs.decide.decide.Goals as goal

pub returns : goal.returns
returns c =
    let t = c.args.table.now in
    let short = length-take t.len t.rows in
    let few = t.few in
    let long : length (take t.len t.rows) ≡ t.len = omega (arith, short, few) in
    table_decided _ t c.args.way.now (take t.len t.rows) c.decide_rows.new.cases c.decide_rows.result c.is_ok.result refl long
    c.decide_rows.ensures c.is_ok.ensures.value

-- A clause that leaves one literal.
use Rattle.std.proofs.Common.{◌/◌, ◌<◌, length, arith}
use Rattle.backtrack.proofs.Values.{opens_shut}
use Rattle.backtrack.proofs.Passes.{pass_push}
use Rattle.backtrack.proofs.visit.Goals as goal

pub push-requires : goal.push-requires
push-requires g c =
    let h = c.in-Forced.ensures.0 in
    let below : c.in-Forced.l / 2 < length c.args.values.now = let a = h.0 in omega arith in
    let room = c.requires.room in
    (omega arith, (below, omega (arith, opens_shut c.args.values.now (c.in-Forced.l / 2) below 0 h.1 (λ e. omega arith))))

pub returns-in-Forced : goal.returns-in-Forced
returns-in-Forced g c X left start now =
    let told = c.in-Forced.ensures in
    let made = c.push.ensures in
    rw (made.values, made.trail) (pass_push X c.args.clause.now left start c.args.values.now c.args.trail.now.list.items c.args.«open».now now c.in-Forced.l told.0 told.1)

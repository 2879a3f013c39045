-- The tests come in the order of the relation's.
use Rattle.std.proofs.Common.{rules, Err, sym, ap, ◌∙◌, subst}
use Rattle.std.proofs.lemmas.Result.{err_from_is_err_and}
use Rattle.problem.specs.Meant.{meant}
use Rattle.histories.proofs.Theorem.{nothing_overlooked}
use Rattle.sessions.specs.Shown.{ShowsIn}
use Rattle.sessions.proofs.Searches.{beyond_limits, too_small, not_yet_begun, not_as_seen, searched_so}
use Rattle.sessions.proofs.session.Session.search.Goals as goal

pub returns-in_err-check_limits-clause-searched : goal.returns-in_err-check_limits-clause-searched
returns-in_err-check_limits-clause-searched g c =
    let f = err_from_is_err_and c.from_residual.result c.from_residual.ensures.1 in
    λ S h.
    beyond_limits (meant c.args.problem.now) c.args.limits _ (g.C.Chooser.meaning c.args.chooser.now) S c.args.self.now c.in_err-check_limits.field-0.0 c.from_residual.result
    (f.1 ∙ ap Err f.2) c.in_err-check_limits.ensures.refusal h

pub returns-then-not-has_room-clause-searched : goal.returns-then-not-has_room-clause-searched
returns-then-not-has_room-clause-searched g c =
    λ S h.
    too_small (meant c.args.problem.now) c.args.limits _ (g.C.Chooser.meaning c.args.chooser.now) c.in_ok-check_limits.ensures.refusal S c.args.self.now
    (sym c.has_room.ensures ∙ search rules) h

pub returns-in_default-clause-searched : goal.returns-in_default-clause-searched
returns-in_default-clause-searched g c =
    λ S h.
    not_yet_begun (meant c.args.problem.now) c.args.limits _ (g.C.Chooser.meaning c.args.chooser.now) c.in_ok-check_limits.ensures.refusal
    (sym c.has_room.ensures ∙ search rules) S c.args.self.now.begun (search rules) h

pub returns-then-not-is_last_seen-clause-searched : goal.returns-then-not-is_last_seen-clause-searched
returns-then-not-is_last_seen-clause-searched g c =
    λ S h.
    not_as_seen (meant c.args.problem.now) c.args.limits _ (g.C.Chooser.meaning c.args.chooser.now) c.in_ok-check_limits.ensures.refusal
    (sym c.has_room.ensures ∙ search rules) S c.in-Some.begun (sym c.is_last_seen.ensures ∙ search rules)
    (subst (λ o. ShowsIn o S) c.in-Some.is h)

pub returns-clause-searched : goal.returns-clause-searched
returns-clause-searched g c =
    λ S h.
    searched_so (meant c.args.problem.now) c.args.limits _ (g.C.Chooser.meaning c.args.chooser.now) c.in_ok-check_limits.ensures.refusal
    (sym c.has_room.ensures ∙ search rules) S c.in-Some.begun c.search.new.self c.search.result (sym c.is_last_seen.ensures ∙ search rules)
    (subst (λ o. ShowsIn o S) c.in-Some.is h) c.search.ensures.sought

pub returns-in_err-check_limits-clause-theorem : goal.returns-in_err-check_limits-clause-theorem
returns-in_err-check_limits-clause-theorem g c = nothing_overlooked

pub returns-then-not-has_room-clause-theorem : goal.returns-then-not-has_room-clause-theorem
returns-then-not-has_room-clause-theorem g c = nothing_overlooked

pub returns-in_default-clause-theorem : goal.returns-in_default-clause-theorem
returns-in_default-clause-theorem g c = nothing_overlooked

pub returns-then-not-is_last_seen-clause-theorem : goal.returns-then-not-is_last_seen-clause-theorem
returns-then-not-is_last_seen-clause-theorem g c = nothing_overlooked

pub returns-clause-theorem : goal.returns-clause-theorem
returns-clause-theorem g c = nothing_overlooked

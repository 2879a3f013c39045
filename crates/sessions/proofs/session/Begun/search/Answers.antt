-- Either nothing is so shallow, and no round is made, or the rounds are made from the session's own table.
use Rattle.std.proofs.Common.{refl, sym, ◌∙◌}
use Rattle.sessions.proofs.Sought.{sought_shallow, sought_made}
use Rattle.sessions.proofs.session.Begun.search.Goals as goal

pub returns-then-is_too_shallow-clause-sought : goal.returns-then-is_too_shallow-clause-sought
returns-then-is_too_shallow-clause-sought g c =
    λ s shown own seen.
    sought_shallow c.args.limits s _ c.args.self.now _ shown refl refl seen own (sym c.is_too_shallow.ensures ∙ c.if-is_too_shallow.true) refl refl refl refl _ refl

pub returns-clause-sought : goal.returns-clause-sought
returns-clause-sought g c =
    λ s shown own seen.
    sought_made c.args.limits s _ c.args.self.now _ shown refl refl seen own _ (sym c.is_too_shallow.ensures ∙ c.if-is_too_shallow.false) c.variables-self.ensures c.entries_left-self.ensures c.is_model-self.ensures c.run-answer.ensures.ran.from

use Rattle.std.proofs.Common.{◌≡◌, ◌∷◌, Ok, sym, ap, ◌∙◌, subst}
use Rattle.syntax.specs.Tables.{declared_in}
use Rattle.terms.specs.Tasks.{item_of, Steps, Advances, put}
use Rattle.terms.specs.Stacks.{on}
use Rattle.terms.proofs.Piles.{advances}
use Rattle.terms.proofs.check.advance.Goals as goal

pub returns-in-Some-clause-is : goal.returns-in-Some-clause-is
returns-in-Some-clause-is c =
    let sig = declared_in c.args.context.now.sig in
    let s = c.args.context.now.scope in
    let s' = c.open.new.self.scope in
    let ts = on c.args.stack.now in
    let o = c.in_ok-first.field-0 in
    let r = c.in_ok-then.then in
    let e : Steps sig s' (item_of s' o.first) o.first.cut c.args.b (Ok r) =
    subst (λ d. Steps d s' (item_of s' o.first) o.first.cut c.args.b (Ok r)) (ap declared_in c.open.ensures.sig) c.in_ok-then.ensures in
    let left : put r (put o.rest ts) ≡ c.in-Some.task ∷ on c.put.new.self = ap (λ z. put z (put o.rest ts)) c.in-Some.is ∙ ap (λ z. c.in-Some.task ∷ z) (sym c.put.ensures.is) in
    (subst (λ ys. Advances sig s s' (c.args.task ∷ ts) ys c.args.b) left (advances sig s s' c.args.task ts o r c.args.b c.requires.piled c.in_ok-first.ensures.is e), tt)

pub returns-in-None-clause-is : goal.returns-in-None-clause-is
returns-in-None-clause-is c =
    let sig = declared_in c.args.context.now.sig in
    let s = c.args.context.now.scope in
    let s' = c.open.new.self.scope in
    let ts = on c.args.stack.now in
    let o = c.in_ok-first.field-0 in
    let r = c.in_ok-then.then in
    let e : Steps sig s' (item_of s' o.first) o.first.cut c.args.b (Ok r) =
    subst (λ d. Steps d s' (item_of s' o.first) o.first.cut c.args.b (Ok r)) (ap declared_in c.open.ensures.sig) c.in_ok-then.ensures in
    let left : put r (put o.rest ts) ≡ put c.pop.result (on c.pop.new.self) = ap (λ z. put z (put o.rest ts)) c.in-None.is ∙ sym c.put.ensures.is ∙ c.pop.ensures.taken in
    (subst (λ ys. Advances sig s s' (c.args.task ∷ ts) ys c.args.b) left (advances sig s s' c.args.task ts o r c.args.b c.requires.piled c.in_ok-first.ensures.is e), c.pop.ensures.last)

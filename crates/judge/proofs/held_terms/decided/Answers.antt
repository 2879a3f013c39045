use Rattle.std.proofs.Common.{◌≡◌, ℕ, List, [], ◌∷◌, length, ap, ◌∙◌, subst}
use mathlib.Core.Option.{Option as Maybe, some}
use Rattle.judging.specs.Held.{frees}
use Rattle.judging.specs.Judging.{of_unknown}
use Rattle.held.specs.Reading.{Reads}
use Rattle.held.specs.Standing.{Row}
use Rattle.judge.proofs.Holding.{frees_length}
use Rattle.judge.proofs.held_terms.decided.Goals as goal

pub returns-in-Some-clause-agrees : goal.returns-in-Some-clause-agrees
returns-in-Some-clause-agrees g c x =
    let K = g.D.Decides.unknowns c.args.decider.now in
    let u = c.args.unknown in
    let chosen = c.in-Some.ensures in
    let kids = K.kids u c.in-Some.choice.constructor in
    let now = c.hold_unknowns.new.self in
    let all : c.as_slice-children.result.now ≡ kids = c.as_slice-children.ensures.numbers ∙ chosen.children in
    let long : length c.as_slice-children.result.now ≡ length kids = ap length all in
    record {
      means = (
        frees kids,
        u ∷ [],
        ap (λ (o : Maybe ℕ). some (of_unknown K u o, c.args.left.now.steps)) chosen.constructor,
        long ∙ frees_length kids,
        subst (λ (us : List ℕ). Row (Reads x) now.places.now now.top c.args.left.now.memory.top (frees us)) all (c.hold_unknowns.ensures.row x),
        c.add.ensures,
      );
    }

-- Judging by numbers is judging by the paths that they name. Assumes nothing.
use Rattle.judging.specs.Held.{goal}
use Rattle.judging.specs.Paths.{under}
use Rattle.judging.specs.Scope.{Declares}
use Rattle.judging.specs.Asked.{Asked, asked_root, asked_kid}
use Rattle.judging.specs.Names.{ByNames}
use Rattle.judging.proofs.Lockstep.{judge_named}
use Rattle.judging.proofs.Scope.{lawful_scoped}
use Rattle.judging.proofs.Asked.{all_members, goal_like}

pub by_names : ByNames
by_names P lawful K path δ N g s =
    judge_named P K (under P δ) (Declares P) (Asked P K) path
    (record {
      bodies = (lawful_scoped P lawful).0;
      at_roots = λ k n. (asked_root n, N.at_roots k n);
      at_chosen = N.at_chosen;
      at_kids = λ u c a e. (all_members (K.kids u c) (λ v m. asked_kid a e m), N.at_kids u c a e);
    })
    (goal P g) (goal P g) (goal_like P lawful _ g) s

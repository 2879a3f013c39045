-- What judging a goal uses it has asked for, so unknowns that are alike in what is asked for judge alike. Assumes nothing.
use Rattle.std.proofs.Common.{◌≡◌, ℕ, List, [], ◌∷◌, refl, ◌∙◌}
use mathlib.Core.Option.{none, some}
use Rattle.syntax.specs.Problems.{Problem, Lawful}
use Rattle.judging.specs.Held.{Held, Helds, goal}
use Rattle.judging.specs.Judging.{Unknowns, Head, is, waits, Verdict, same, differ, wait, judge, compare}
use Rattle.judging.specs.Explained.{All, all[], ◌all∷◌}
use Rattle.judging.specs.Scope.{Declares}
use Rattle.judging.specs.Asked.{◌∈◌, first, later, Asked, asked_root, asked_kid, ExplainedDecided, SameDecided, DifferDecided, GoalAsked, GoalAwaits, Alike, OnlyAsked}
use Rattle.judging.specs.Names.{named_head}
use Rattle.judging.proofs.Related.{Like, l_hold, Likes, l[], HeadLike, is_like, waits_like, VerdictLike, same_like, differ_like, wait_like}
use Rattle.judging.proofs.Lockstep.{To, to, Naming, all_to, judge_named, head_facts, verdict_facts}
use Rattle.judging.proofs.Alone.{own, Any, alone, like_own, map_own, head_own, result_own}
use Rattle.judging.proofs.Scope.{lawful_scoped}

module _ {U V : Type 0} (name : U → V) where
  pub head_explanation : {N : ℕ → Type 0} {G D W : U → Type 0} {c : ℕ} {xs : Helds U} {E : List U} {b : Head V}
      → HeadLike N (To name G) (To name D) (To name W) (is c xs E) b → All D E
  head_explanation (is_like c p e) = (all_to name e).0

  pub head_arguments : {N : ℕ → Type 0} {G D W : U → Type 0} {c : ℕ} {xs : Helds U} {E : List U} {b : Head V}
      → HeadLike N (To name G) (To name D) (To name W) (is c xs E) b → (ys : Helds V) × Likes N (To name G) xs ys
  head_arguments (is_like c {ys = ys} p e) = (ys, p)

  awaited_to : {W : U → Type 0} {u : U} {v : V} → To name W u v → W u
  awaited_to (to w) = w

  pub head_awaits : {N : ℕ → Type 0} {G D W : U → Type 0} {u : U} {b : Head V}
      → HeadLike N (To name G) (To name D) (To name W) (waits u) b → W u
  head_awaits (waits_like w) = awaited_to w

  pub same_explanation : {D W : U → Type 0} {E : List U} {b : Verdict V} → VerdictLike (To name D) (To name W) (same E) b → All D E
  same_explanation (same_like e) = (all_to name e).0

  pub differ_explanation : {D W : U → Type 0} {E : List U} {b : Verdict V} → VerdictLike (To name D) (To name W) (differ E) b
      → All D E
  differ_explanation (differ_like e) = (all_to name e).0

  pub verdict_awaits : {D W : U → Type 0} {u : U} {b : Verdict V} → VerdictLike (To name D) (To name W) (wait u) b → W u
  verdict_awaits (wait_like w) = awaited_to w

pub all_map : {U : Type 0} {Q R : U → Type 0} {E : List U} → ((u : U) → Q u → R u) → All Q E → All R E
all_map f all[] = all[]
all_map f (◌all∷◌ {u = u} q r) = f u q all∷ all_map f r

pub explained_decided : (U : Type 0) → ExplainedDecided U
explained_decided U P K h s left c xs E e =
    all_map (λ u q. q.1) (head_explanation own (head_facts P K K Any Any own (alone P K) h h (like_own h) s left (is c xs E) e).2)

pub same_decided : (U : Type 0) → SameDecided U
same_decided U P K l r s left E e =
    all_map (λ u q. q.1)
    (same_explanation own (verdict_facts P K K Any Any own (alone P K) l r l r (like_own l) (like_own r) s left (same E) e).2)

pub differ_decided : (U : Type 0) → DifferDecided U
differ_decided U P K l r s left E e =
    all_map (λ u q. q.1)
    (differ_explanation own (verdict_facts P K K Any Any own (alone P K) l r l r (like_own l) (like_own r) s left (differ E) e).2)

-- what a judging waits on is undecided
pub head_undecided : {U : Type 0} (P : Problem) (K : Unknowns U) (h : Held U) (s left : ℕ) (u : U) → judge P K h s ≡ some (waits u, left)
    → K.chosen u ≡ none
head_undecided P K h s left u e = (head_awaits own (head_facts P K K Any Any own (alone P K) h h (like_own h) s left (waits u) e).2).1

pub verdict_undecided : {U : Type 0} (P : Problem) (K : Unknowns U) (l r : Held U) (s left : ℕ) (u : U)
    → compare P K l r s ≡ some (wait u, left) → K.chosen u ≡ none
verdict_undecided P K l r s left u e =
    (verdict_awaits own (verdict_facts P K K Any Any own (alone P K) l r l r (like_own l) (like_own r) s left (wait u) e).2).1

pub all_members : {U : Type 0} {Q : U → Type 0} (E : List U) → ((u : U) → u ∈ E → Q u) → All Q E
all_members [] f = all[]
all_members (u ∷ E) f = f u first all∷ all_members E (λ v m. f v (later m))

pub member : {U : Type 0} {Q : U → Type 0} {u : U} {E : List U} → u ∈ E → All Q E → Q u
member first (q all∷ r) = q
member (later m) (q all∷ r) = member m r

-- a goal, beside itself
pub goal_like : {U V : Type 0} (P : Problem) → Lawful P → (R : U → V → Type 0) (g : ℕ) → Like (Declares P) R (goal P g) (goal P g)
goal_like P lawful R g = l_hold ((lawful_scoped P lawful).1 g) l[]

module _ {U : Type 0} (P : Problem) (lawful : Lawful P) (K L : Unknowns U) (A : Alike P K L) where
  pub asked_naming : Naming P K L (Declares P) (Asked P K) own
  asked_naming =
      record {
        bodies = (lawful_scoped P lawful).0;
        at_roots = λ k n. (asked_root n, A.at_roots k n);
        at_chosen = A.at_chosen;
        at_kids = λ u c a e. (all_members (K.kids u c) (λ v m. asked_kid a e m), map_own (K.kids u c) ∙ A.at_kids u c a e);
      }

pub alike_itself : {U : Type 0} (P : Problem) (K : Unknowns U) → Alike P K K
alike_itself P K = record { at_roots = λ k n. refl; at_kids = λ u c a e. refl; at_chosen = λ u a. refl }

pub only_asked : (U : Type 0) → OnlyAsked U
only_asked U P lawful K L A g s =
    judge_named P K L (Declares P) (Asked P K) own (asked_naming P lawful K L A) (goal P g) (goal P g) (goal_like P lawful _ g) s
    ∙ result_own (named_head own) head_own (judge P K (goal P g) s)

pub goal_asked : (U : Type 0) → GoalAsked U
goal_asked U P lawful K g s left c xs E e =
    head_explanation own
    (head_facts P K K (Declares P) (Asked P K) own (asked_naming P lawful K K (alike_itself P K)) (goal P g) (goal P g)
    (goal_like P lawful _ g) s left (is c xs E) e).2

pub goal_awaits : (U : Type 0) → GoalAwaits U
goal_awaits U P lawful K g s left u e =
    head_awaits own
    (head_facts P K K (Declares P) (Asked P K) own (asked_naming P lawful K K (alike_itself P K)) (goal P g) (goal P g)
    (goal_like P lawful _ g) s left (waits u) e).2

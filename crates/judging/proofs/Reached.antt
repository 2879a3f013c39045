-- Judging from what is reached, beside judging under a decision that agrees on it. Assumes nothing.
use Rattle.std.proofs.Common.{◌≡◌, ℕ, zero, suc, ◌+◌, ◌<◌, true, cond, length, refl, ap, ◌∙◌, subst, zero-add, arith}
use mathlib.Core.Option.{Option, none, some, none-ne-some, some-injective}
use Rattle.std.proofs.lemmas.Bool.{eq-eqb}
use Rattle.syntax.specs.Typing.{arguments}
use Rattle.syntax.specs.Problems.{Problem, sig_of}
use Rattle.judging.specs.Held.{Held, Helds, body_of}
use Rattle.judging.specs.Judging.{is, waits, judge, compare}
use Rattle.judging.specs.Paths.{Path, root, child, Decision, type_of, children_from, children, under}
use Rattle.judging.specs.Explained.{All, all[], ◌all∷◌}
use Rattle.judging.specs.Asked.{◌∈◌, first, later, Asked, asked_root, asked_kid}
use Rattle.judging.specs.Names.{named_head, named_verdict}
use Rattle.judging.specs.Reached.{Reached, Exists, AskedPaths, Within, w_free, w_hold, Withins, w[], ◌w∷◌, StaysReached, WaitsOnReached, OnlyReached, OnlyReachedCompare, says, reached?, only_reached, Restricted, GoalReached}
use Rattle.judging.proofs.Related.{Like, l_free, l_hold, Likes, l[], ◌l∷◌}
use Rattle.judging.proofs.Lockstep.{To, to, Naming, judge_named, compare_named, head_facts}
use Rattle.judging.proofs.Alone.{own, Any, any_scoped, map_own, head_own, verdict_own, result_own}
use Rattle.judging.proofs.Asked.{head_explanation, head_arguments, head_awaits, all_map}

module _ {U : Type 0} {G : U → Type 0} where
  mutual
    pub within_like : {h : Held U} → Within G h → Like Any (To own G) h h
    within_like (w_free g) = l_free (to g)
    within_like (w_hold {t = t} w) = l_hold (any_scoped t) (withins_likes w)

    pub withins_likes : {ρ : Helds U} → Withins G ρ → Likes Any (To own G) ρ ρ
    withins_likes w[] = l[]
    withins_likes (w w∷ ws) = within_like w l∷ withins_likes ws

  of_to : {u v : U} → To own G u v → G u
  of_to (to g) = g

  mutual
    like_within : {N : ℕ → Type 0} {h k : Held U} → Like N (To own G) h k → Within G h
    like_within (l_free g) = w_free (of_to g)
    like_within (l_hold q p) = w_hold (likes_withins p)

    pub likes_withins : {N : ℕ → Type 0} {ρ σ : Helds U} → Likes N (To own G) ρ σ → Withins G ρ
    likes_withins l[] = w[]
    likes_withins (p l∷ q) = like_within p w∷ likes_withins q

reached_children : (δ : Decision) (u : Path) (c j n : ℕ) → Reached δ u → δ u ≡ some c → All (Reached δ) (children_from u c j n)
reached_children δ u c j zero r e = all[]
reached_children δ u c j (suc n) r e = (e, r) all∷ reached_children δ u c (suc j) n r e

module _ (P : Problem) (δ ε : Decision) (agree : (u : Path) → Reached δ u → ε u ≡ δ u) where
  pub reached_naming : Naming P (under P δ) (under P ε) Any (Reached δ) own
  reached_naming =
      record {
        bodies = λ f. any_scoped (body_of P f);
        at_roots = λ k n. (tt, refl);
        at_chosen = agree;
        at_kids = λ u c r e. (reached_children δ u c 0 _ r e, map_own (children (sig_of P) u c));
      }

pub reached_only : OnlyReached
reached_only P δ ε h w agree s =
    judge_named P (under P δ) (under P ε) Any (Reached δ) own (reached_naming P δ ε agree) h h (within_like w) s
    ∙ result_own (named_head own) head_own (judge P (under P δ) h s)

pub reached_only_compare : OnlyReachedCompare
reached_only_compare P δ ε l r v w agree s =
    compare_named P (under P δ) (under P ε) Any (Reached δ) own (reached_naming P δ ε agree) l r l r (within_like v) (within_like w) s
    ∙ result_own (named_verdict own) verdict_own (compare P (under P δ) l r s)

pub stays_reached : StaysReached
stays_reached P δ h s left c xs E w e =
    let q = (head_facts P (under P δ) (under P δ) Any (Reached δ) own (reached_naming P δ δ (λ u g. refl)) h h (within_like w)
    s left (is c xs E) e).2 in
    (all_map (λ u x. x.0) (head_explanation own q), likes_withins (head_arguments own q).1)

pub waits_on_reached : WaitsOnReached
waits_on_reached P δ h s left u w e =
    (head_awaits own
    (head_facts P (under P δ) (under P δ) Any (Reached δ) own (reached_naming P δ δ (λ u g. refl)) h h (within_like w)
    s left (waits u) e).2).0

says_so : (o : Option ℕ) (c : ℕ) → o ≡ some c → says o c ≡ true
says_so none c e = absurd (none-ne-some c e)
says_so (some d) c e = eq-eqb d c (some-injective d c e)

reached_so : (δ : Decision) (u : Path) → Reached δ u → reached? δ u ≡ true
reached_so δ (root k) r = refl
reached_so δ (child u c j) r = rw (says_so (δ u) c r.0) (reached_so δ u r.1)

pub restricted : Restricted
restricted P δ h w s = reached_only P δ (only_reached δ) h w (λ u r. ap (λ b. cond b (δ u) none) (reached_so δ u r)) s

pub goal_reached : GoalReached
goal_reached P δ g = w_hold w[]

-- what is asked for, by paths
child_of : (v u : Path) (c j n : ℕ) → v ∈ children_from u c j n → (i : ℕ) × (child u c i ≡ v) × (i < j + n)
child_of v u c j zero m = elim m [ ]
child_of v u c j (suc n) first = (j, refl, omega arith)
child_of v u c j (suc n) (later m) = let r = child_of v u c (suc j) n m in let l = r.2 in (r.0, r.1, omega (arith, l))

child_in : (u : Path) (c j n i : ℕ) → i < n → child u c (j + i) ∈ children_from u c j n
child_in u c j zero i l = absurd (omega (arith, l))
child_in u c j (suc n) zero l =
    let e : j ≡ j + zero = omega arith in
    subst (λ x. child u c x ∈ children_from u c j (suc n)) e first
child_in u c j (suc n) (suc i) l =
    let e : suc j + i ≡ j + suc i = omega arith in
    subst (λ x. child u c x ∈ children_from u c j (suc n)) e (later (child_in u c (suc j) n i (omega (arith, l))))

asked_so : (P : Problem) (δ : Decision) {u : Path} → Asked P (under P δ) u → Reached δ u × Exists (sig_of P) u
asked_so P δ (asked_root n) = (tt, n)
asked_so P δ (asked_kid {u = u} {v = v} {c = c} a e m) =
    let r = asked_so P δ a in
    let q = child_of v u c 0 (length (arguments (sig_of P) (type_of (sig_of P) u) c)) m in
    let l = q.2 in
    subst (λ x. Reached δ x × Exists (sig_of P) x) q.1 ((e, r.0), (omega (arith, l), r.1))

so_asked : (P : Problem) (δ : Decision) (u : Path) → Reached δ u → Exists (sig_of P) u → Asked P (under P δ) u
so_asked P δ (root k) r x = asked_root x
so_asked P δ (child u c j) r x =
    asked_kid (so_asked P δ u r.1 x.1) r.0
    (subst (λ i. child u c i ∈ children (sig_of P) u c) (zero-add j)
    (child_in u c 0 (length (arguments (sig_of P) (type_of (sig_of P) u) c)) j x.0))

pub asked_paths : AskedPaths
asked_paths P δ u = (asked_so P δ, so_asked P δ u)

-- Judging beside itself: every unknown is named by itself, and nothing is asked of it. Assumes nothing.
use Rattle.std.proofs.Common.{◌≡◌, ℕ, List, [], ◌∷◌, map, refl, ap}
use mathlib.Core.Option.{Option, none, some}
use Rattle.syntax.specs.Terms.{Term, var, unknown, con, call, case, both, not, equal, Terms, t[], ◌t∷◌}
use Rattle.syntax.specs.Problems.{Problem}
use Rattle.judging.specs.Held.{Held, hold, free, Helds, h[], ◌h∷◌, body_of}
use Rattle.judging.specs.Judging.{Unknowns, Head, is, waits, Verdict, same, differ, wait}
use Rattle.judging.specs.Explained.{All, all[], ◌all∷◌}
use Rattle.judging.specs.Scope.{Scoped, AllScoped}
use Rattle.judging.specs.Names.{named, nameds, named_head, named_verdict, result}
use Rattle.judging.proofs.Related.{Like, l_free, l_hold, Likes, l[], ◌l∷◌}
use Rattle.judging.proofs.Lockstep.{To, to, Naming}

abbrev pub own : {U : Type 0} → U → U
own u = u

abbrev pub Any : {A : Type 0} → A → Type 0
Any x = Unit {0}

mutual
  pub any_scoped : (t : Term) → Scoped Any t
  any_scoped (var v) = tt
  any_scoped (unknown k) = tt
  any_scoped (con t c ts) = any_scopeds ts
  any_scoped (call f ts) = any_scopeds ts
  any_scoped (case t a bs) = (any_scoped a, any_scopeds bs)
  any_scoped (both a b) = (any_scoped a, any_scoped b)
  any_scoped (not a) = any_scoped a
  any_scoped (equal t a b) = (any_scoped a, any_scoped b)

  pub any_scopeds : (ts : Terms) → AllScoped Any ts
  any_scopeds t[] = tt
  any_scopeds (t t∷ ts) = (any_scoped t, any_scopeds ts)

pub map_own : {U : Type 0} (us : List U) → map own us ≡ us
map_own [] = refl
map_own (u ∷ us) = ap (◌∷◌ u) (map_own us)

module _ {U : Type 0} where
  pub all_any : (us : List U) → All Any us
  all_any [] = all[]
  all_any (u ∷ us) = tt all∷ all_any us

  mutual
    pub named_own : (h : Held U) → named own h ≡ h
    named_own (hold t ρ) = ap (hold t) (nameds_own ρ)
    named_own (free u) = refl

    pub nameds_own : (ρ : Helds U) → nameds own ρ ≡ ρ
    nameds_own h[] = refl
    nameds_own (h h∷ ρ) = λ i. named_own h i h∷ nameds_own ρ i

  pub head_own : (a : Head U) → named_head own a ≡ a
  head_own (is c xs E) = λ i. is c (nameds_own xs i) (map_own E i)
  head_own (waits u) = refl

  pub verdict_own : (v : Verdict U) → named_verdict own v ≡ v
  verdict_own (same E) = ap same (map_own E)
  verdict_own (differ E) = ap differ (map_own E)
  verdict_own (wait u) = refl

  mutual
    pub like_own : (h : Held U) → Like Any (To own Any) h h
    like_own (hold t ρ) = l_hold (any_scoped t) (likes_own ρ)
    like_own (free u) = l_free (to tt)

    pub likes_own : (ρ : Helds U) → Likes Any (To own Any) ρ ρ
    likes_own h[] = l[]
    likes_own (h h∷ ρ) = like_own h l∷ likes_own ρ

  pub alone : (P : Problem) (K : Unknowns U) → Naming P K K Any Any own
  alone P K =
      record {
        bodies = λ f. any_scoped (body_of P f);
        at_roots = λ k n. (tt, refl);
        at_chosen = λ u g. refl;
        at_kids = λ u c g e. (all_any (K.kids u c), map_own (K.kids u c));
      }

-- a result under the same names is the same result
pub result_own : {A : Type 0} (f : A → A) → ((a : A) → f a ≡ a) → (o : Option (A × ℕ)) → result f o ≡ o
result_own f h none = refl
result_own f h (some r) = λ i. some (h r.0 i, r.1)

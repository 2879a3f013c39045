-- What always holds of a judging's results, whatever the steps. Assumes nothing.
use Rattle.std.proofs.Common.{◌≡◌, ℕ, zero, suc, List, [], ◌∷◌, ◌++◌, subst}
use mathlib.Core.Option.{Option, none, some}
use Rattle.judging.specs.Judging.{Judging, out, give, go_on, ◌then◌, step}
use Rattle.judging.specs.Explained.{All, all[], ◌all∷◌}

abbrev pub OnResult : {A : Type 0} → (A → Type 0) → Option (A × ℕ) → Type 0
OnResult Q none = Unit {0}
OnResult Q (some r) = Q r.0

pub record Always {A : Type 0} (m : Judging A) (Q : A → Type 0) : Type 0 where
  pub from : (s : ℕ) → OnResult Q (m s)

pub always_out : {A : Type 0} {Q : A → Type 0} → Always out Q
always_out = record { from = λ s. tt }

pub always_give : {A : Type 0} {Q : A → Type 0} {a : A} → Q a → Always (give a) Q
always_give q = record { from = λ s. q }

pub always_then : {A B : Type 0} {m : Judging A} {f : A → Judging B} {Q : A → Type 0} {R : B → Type 0}
    → Always m Q → ((a : A) → Q a → Always (f a) R) → Always (m then f) R
always_then {A} {B} {m} {f} {Q} {R} hm hf = record { from = λ s. go (m s) (hm.from s) }
  where
    go : (o : Option (A × ℕ)) → OnResult Q o → OnResult R (go_on f o)
    go none q = tt
    go (some r) q = (hf r.0 q).from r.1

pub always_map : {A : Type 0} {m : Judging A} {Q R : A → Type 0} → ((a : A) → Q a → R a) → Always m Q → Always m R
always_map {A} {m} {Q} {R} f hm = record { from = λ s. go (m s) (hm.from s) }
  where
    go : (o : Option (A × ℕ)) → OnResult Q o → OnResult R o
    go none q = tt
    go (some r) q = f r.0 q

pub always_step : {A : Type 0} {m : Judging A} {Q : A → Type 0} → Always m Q → Always (step m) Q
always_step {m = m} {Q = Q} hm = record { from = go }
  where
    go : (s : ℕ) → OnResult Q (step m s)
    go zero = tt
    go (suc s) = hm.from s

pub always_at : {A : Type 0} {m : Judging A} {Q : A → Type 0} → Always m Q → {s left : ℕ} {a : A} → m s ≡ some (a, left) → Q a
always_at {Q = Q} hm {s} e = subst (OnResult Q) e (hm.from s)

module _ {U : Type 0} {Q : U → Type 0} where
  pub all_left : (E F : List U) → All Q (E ++ F) → All Q E
  all_left [] F q = all[]
  all_left (u ∷ E) F (p all∷ q) = p all∷ all_left E F q

  pub all_right : (E F : List U) → All Q (E ++ F) → All Q F
  all_right [] F q = q
  all_right (u ∷ E) F (p all∷ q) = all_right E F q

  pub all_join : {E F : List U} → All Q E → All Q F → All Q (E ++ F)
  all_join all[] r = r
  all_join (p all∷ q) r = p all∷ all_join q r

  pub all_first : {u : U} {E : List U} → All Q (u ∷ E) → Q u
  all_first (p all∷ q) = p

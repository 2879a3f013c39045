-- A typed held term is judged to a constructor of its type: so a goal of a lawful problem is judged false or true, and no other.
-- Assumes nothing.
use Rattle.std.proofs.Common.{◌≡◌, ℕ, zero, suc, ◌+◌, ◌<◌, List, [], ◌∷◌, ◌++◌, length, get_or, sym, refl, ap, ◌∙◌, subst, zero-add, arith}
use mathlib.Core.Option.{Option, none, some}
use Rattle.std.proofs.Math.ListN.{get_or-map}
use Rattle.std.proofs.lemmas.List.{length-map}
use Rattle.syntax.specs.Terms.{Term, var, unknown, con, call, case, both, not, equal, Terms, t[], ◌t∷◌}
use Rattle.syntax.specs.Typing.{Sig, cases_of, constructors, arguments, params_of, result_of, each_of, branches_of, Typed, AllTyped}
use Rattle.syntax.specs.Problems.{Function, Problem, sig_of, Lawful, LawfulFunction, LawfulGoal}
use Rattle.depths.proofs.Lawfulness.{each_at}
use Rattle.judging.specs.Held.{Held, hold, free, Helds, h[], ◌h∷◌, missing, branch, no_function, body_of, bound, holds, frees, ◌h++◌, goal}
use Rattle.judging.specs.Judging.{Head, is, waits, Verdict, same, differ, wait, Judging, Asks, of_unknown, join, negation, and_true, and_waits, truth, compared, after_subject, and_right, headed, judges, judge}
use Rattle.judging.specs.Paths.{Path, root, child, Decision, type_of, children_from, under}
use Rattle.judging.proofs.Runs.{Always, always_out, always_give, always_then, always_step, always_at, OnResult}

always_any : {A : Type 0} (m : Judging A) → Always m (λ a. Unit {0})
always_any {A} m = record { from = λ s. go (m s) }
  where
    go : (o : Option (A × ℕ)) → OnResult (λ a. Unit {0}) o
    go none = tt
    go (some r) = tt

module _ (p : Problem) (L : Lawful p) (δ : Decision)
    (cases : (u : Path) (c : ℕ) → δ u ≡ some c → c < constructors (sig_of p) (type_of (sig_of p) u)) where
  abbrev sig : Sig
  sig = sig_of p

  mutual
    data Of : ℕ → Held Path → Type 0 where
      of_free : {ty : ℕ} {u : Path} → type_of sig u ≡ ty → Of ty (free u)
      of_hold : {ty : ℕ} {s : List ℕ} {t : Term} {ρ : Helds Path} → Typed sig s ty t → Ofs s ρ → Of ty (hold t ρ)

    data Ofs : List ℕ → Helds Path → Type 0 where
      ofs[] : Ofs [] h[]
      ofs∷ : {t : ℕ} {ts : List ℕ} {h : Held Path} {ρ : Helds Path} → Of t h → Ofs ts ρ → Ofs (t ∷ ts) (h h∷ ρ)

  abbrev HeadOf : ℕ → Head Path → Type 0
  HeadOf ty (is c xs E) = (c < constructors sig ty) × Ofs (arguments sig ty c) xs
  HeadOf ty (waits u) = Unit {0}

  record AsksOf (A : Asks Path) : Type 0 where
    heads : (h : Held Path) (ty : ℕ) → Of ty h → Always (A.head h) (HeadOf ty)

  bound_of : (s : List ℕ) (ρ : Helds Path) (v : ℕ) → Ofs s ρ → v < length s → Of (get_or s v 0) (bound ρ v)
  bound_of s h[] v ofs[] l = absurd (omega (arith, l))
  bound_of s (h h∷ ρ) zero (ofs∷ q qs) l = q
  bound_of s (h h∷ ρ) (suc v) (ofs∷ {ts = ts} q qs) l = bound_of ts ρ v qs (omega (arith, l))

  holds_of : (s tys : List ℕ) (ts : Terms) (ρ : Helds Path) → AllTyped sig (each_of s tys) ts → Ofs s ρ → Ofs tys (holds ts ρ)
  holds_of s [] t[] ρ h r = ofs[]
  holds_of s [] (t t∷ ts) ρ h r = absurd h
  holds_of s (ty ∷ tys) t[] ρ h r = absurd h
  holds_of s (ty ∷ tys) (t t∷ ts) ρ h r = ofs∷ (of_hold h.1 r) (holds_of s tys ts ρ h.2 r)

  join_of : (s t : List ℕ) (ρ xs : Helds Path) → Ofs s ρ → Ofs t xs → Ofs (s ++ t) (ρ h++ xs)
  join_of s t h[] xs ofs[] r = r
  join_of s t (h h∷ ρ) xs (ofs∷ {ts = ts} q qs) r = ofs∷ q (join_of ts t ρ xs qs r)

  branch_of : (s : List ℕ) (ty : ℕ) (cs : List (List ℕ)) (bs : Terms) (c : ℕ) → AllTyped sig (branches_of s ty cs) bs → c < length cs
      → Typed sig (s ++ get_or cs c []) ty (branch bs c)
  branch_of s ty [] bs c h l = absurd (omega (arith, l))
  branch_of s ty (x ∷ cs) t[] c h l = absurd h
  branch_of s ty (x ∷ cs) (b t∷ bs) zero h l = h.1
  branch_of s ty (x ∷ cs) (b t∷ bs) (suc c) h l = branch_of s ty cs bs c h.2 (omega (arith, l))

  kids_of : (u : Path) (c j : ℕ) (ts : List ℕ) → ((i : ℕ) → i < length ts → type_of sig (child u c (j + i)) ≡ get_or ts i 0)
      → Ofs ts (frees (children_from u c j (length ts)))
  kids_of u c j [] f = ofs[]
  kids_of u c j (t ∷ ts) f =
      ofs∷ (of_free (ap (λ x. type_of sig (child u c x)) none_more ∙ f 0 (omega arith)))
      (kids_of u c (suc j) ts (λ i l. ap (λ x. type_of sig (child u c x)) (shift i) ∙ f (suc i) (omega (arith, l))))
    where
      none_more : j ≡ j + 0
      none_more = omega arith

      shift : (i : ℕ) → suc j + i ≡ j + suc i
      shift i = omega arith

  unknown_of : (u : Path) (ty : ℕ) (o : Option ℕ) → type_of sig u ≡ ty → δ u ≡ o → HeadOf ty (of_unknown (under p δ) u o)
  unknown_of u ty none e f = tt
  unknown_of u ty (some c) e f =
      subst (λ x. HeadOf x (of_unknown (under p δ) u (some c))) e
      (cases u c f, kids_of u c 0 (arguments sig (type_of sig u) c) (λ i l. ap (λ x. get_or (arguments sig (type_of sig u) c) x 0) (zero-add i)))

  join_head : (ty : ℕ) (E : List Path) (r : Head Path) → HeadOf ty r → HeadOf ty (join E r)
  join_head ty E (is c xs F) q = q
  join_head ty E (waits u) q = tt

  -- what has the type Bool
  truth_value : (ty c : ℕ) → ty ≡ 0 → c < 2 → (c < constructors sig ty) × Ofs (arguments sig ty c) h[]
  truth_value ty zero e l = subst (λ x. (0 < constructors sig x) × Ofs (arguments sig x 0) h[]) (sym e) (omega arith, ofs[])
  truth_value ty (suc zero) e l = subst (λ x. (1 < constructors sig x) × Ofs (arguments sig x 1) h[]) (sym e) (omega arith, ofs[])
  truth_value ty (suc (suc c)) e l = absurd (omega (arith, l))

  negation_of : (ty : ℕ) → ty ≡ 0 → (r : Head Path) → HeadOf ty (negation r)
  negation_of ty e (is zero xs E) = truth_value ty 1 e (omega arith)
  negation_of ty e (is (suc c) xs E) = truth_value ty 0 e (omega arith)
  negation_of ty e (waits u) = tt

  and_true_of : (ty : ℕ) → ty ≡ 0 → (E : List Path) (r : Head Path) → HeadOf ty (and_true E r)
  and_true_of ty e E (is zero xs F) = truth_value ty 0 e (omega arith)
  and_true_of ty e E (is (suc c) xs F) = truth_value ty 1 e (omega arith)
  and_true_of ty e E (waits u) = tt

  and_waits_of : (ty : ℕ) → ty ≡ 0 → (u : Path) (r : Head Path) → HeadOf ty (and_waits u r)
  and_waits_of ty e u (is zero xs F) = truth_value ty 0 e (omega arith)
  and_waits_of ty e u (is (suc c) xs F) = tt
  and_waits_of ty e u (waits v) = tt

  and_right_of : (ty : ℕ) → ty ≡ 0 → (right : Judging (Head Path)) (r : Head Path) → Always (and_right right r) (HeadOf ty)
  and_right_of ty e right (is zero xs E) = always_give (truth_value ty 0 e (omega arith))
  and_right_of ty e right (is (suc c) xs E) = always_then (always_any right) (λ r q. always_give (and_true_of ty e E r))
  and_right_of ty e right (waits u) = always_then (always_any right) (λ r q. always_give (and_waits_of ty e u r))

  truth_of : (ty : ℕ) → ty ≡ 0 → (v : Verdict Path) → HeadOf ty (truth v)
  truth_of ty e (same E) = truth_value ty 1 e (omega arith)
  truth_of ty e (differ E) = truth_value ty 0 e (omega arith)
  truth_of ty e (wait u) = tt

  body_typed : (f : ℕ) → f < length sig.functions → Typed sig (params_of sig f) (result_of sig f) (body_of p f)
  body_typed f l =
      let n = length-map p.functions (λ (x : Function). x.profile) in
      let q = each_at (LawfulFunction sig) p.functions no_function L.of_functions f (omega (arith, l, n)) in
      subst (λ x. Typed sig x.params x.result (body_of p f))
      (sym (get_or-map (λ (x : Function). x.profile) p.functions f no_function)) q.2.typed

  module _ (A : Asks Path) (S : AsksOf A) where
    subject_of : (s : List ℕ) (ty t : ℕ) (bs : Terms) (ρ : Helds Path) → AllTyped sig (branches_of s ty (cases_of sig t)) bs → Ofs s ρ
        → (r : Head Path) → HeadOf t r → Always (after_subject A bs ρ r) (HeadOf ty)
    subject_of s ty t bs ρ h ρs (is c xs E) q =
        always_then
        (S.heads (hold (branch bs c) (ρ h++ xs)) ty
        (of_hold (branch_of s ty (cases_of sig t) bs c h q.0) (join_of s (arguments sig t c) ρ xs ρs q.1)))
        (λ r k. always_give (join_head ty E r k))
    subject_of s ty t bs ρ h ρs (waits u) q = always_give tt

    headed_of : (h : Held Path) (ty : ℕ) → Of ty h → Always (headed p (under p δ) A h) (HeadOf ty)
    headed_of (free u) ty (of_free e) = always_give (unknown_of u ty (δ u) e refl)
    headed_of (hold (var v) ρ) ty (of_hold {s = s} t ρs) =
        S.heads (bound ρ v) ty (subst (λ x. Of x (bound ρ v)) t.1 (bound_of s ρ v ρs t.0))
    headed_of (hold (unknown k) ρ) ty (of_hold t ρs) = always_give (unknown_of (root k) ty (δ (root k)) t.1 refl)
    headed_of (hold (con t₀ c ts) ρ) ty (of_hold {s = s} t ρs) = always_give (t.1, holds_of s (arguments sig ty c) ts ρ t.2 ρs)
    headed_of (hold (call f ts) ρ) ty (of_hold {s = s} t ρs) =
        S.heads (hold (body_of p f) (holds ts ρ)) ty
        (subst (λ x. Of x (hold (body_of p f) (holds ts ρ))) t.1 (of_hold (body_typed f t.0) (holds_of s (params_of sig f) ts ρ t.2 ρs)))
    headed_of (hold (case t₀ a bs) ρ) ty (of_hold {s = s} t ρs) =
        always_then (S.heads (hold a ρ) t₀ (of_hold t.1 ρs)) (subject_of s ty t₀ bs ρ t.2 ρs)
    headed_of (hold (both a b) ρ) ty (of_hold t ρs) =
        always_then (always_any (A.head (hold a ρ))) (λ r q. and_right_of ty t.0 (A.head (hold b ρ)) r)
    headed_of (hold (not a) ρ) ty (of_hold t ρs) = always_then (always_any (A.head (hold a ρ))) (λ r q. always_give (negation_of ty t.0 r))
    headed_of (hold (equal t₀ l r) ρ) ty (of_hold t ρs) =
        always_then (always_any (compared A (hold l ρ) (hold r ρ))) (λ v q. always_give (truth_of ty t.0 v))

  judges_of : (n : ℕ) → AsksOf (judges p (under p δ) n)
  unfolding judges
  judges_of zero = record { heads = λ h ty q. always_out }
  judges_of (suc n) = record { heads = λ h ty q. always_step (headed_of (judges p (under p δ) n) (judges_of n) h ty q) }

  pub goal_bool : (g : ℕ) → g < length p.goals → (s left c : ℕ) (xs : Helds Path) (E : List Path)
      → judge p (under p δ) (goal p g) s ≡ some (is c xs E, left) → c < 2
  goal_bool g l s left c xs E e =
      (always_at ((judges_of s).heads (goal p g) 0 (of_hold (each_at (LawfulGoal sig) p.goals missing L.of_goals g l).typed ofs[])) e).0

-- The order of decisions is kept as the trail grows, is cut and is pushed to; and while an assumption is not yet on it, every
-- decision is an assumption, so that an assumption that is false there leaves no way.
use Rattle.std.proofs.Common.{◌≡◌, ℕ, zero, suc, ◌+◌, ◌<◌, ◌≤◌, Bool, true, ◌&&◌, ◌⊎◌, List, [], ◌∷◌, ◌++◌, length, get_or, take, ◌≢◌, sym, refl, ap, ◌∙◌, subst, inl, inr, ⊎_elim, arith, length-append}
use Rattle.std.proofs.lemmas.Bool.{both_ways, cases_eq, cases_lt, and_parts, false_from_ne_true}
use Rattle.std.proofs.lemmas.List.{length-take-le}
use Rattle.chooser.specs.Ways.{lit, every}
use Rattle.std.proofs.lemmas.List.Sums.{AllPass-from_list_all}
use Rattle.implied.specs.Implied.{allowed}
use Rattle.trail.specs.declared.step.Step.{Step}
use Rattle.trail.specs.declared.step.Reason.{Reason}
use Rattle.trail.specs.declared.step.Reason.TheVariants.{Decision, Known, Clause}
use Rattle.trail.specs.declared.step.Value.{Value}
use Rattle.trail.specs.declared.search.Search.{Search}
use Rattle.trail.specs.Trails.{step_at, literal_at, Along, Sound, Grew}
use Rattle.trail.specs.Values.{Refuted}
use Rattle.trail.specs.Steps.{Placed}
use Rattle.trail.proofs.Sounds.{refuted_off, step_old, step_new, step_taken}
use Rattle.decisions.specs.Plans.{Among, Forced, Ordered, Barred}

pub ordered_none : (given : List ℕ) (steps : List Step) → Forced steps → Ordered given steps 0 0
ordered_none given steps forced =
    record {
      before = omega arith;
      few = omega arith;
      assumed = λ i lt. let z : ⊥ = omega arith in absurd z;
      decided = λ j lt one. absurd (forced j (record { literal = 0; level = 0; reason = Known }) lt one);
    }

-- what stands below n keeps its order where the steps below n are the same, and all of it does if what stands from n on does
module _ (given : List ℕ) (a b : List Step) (next firm n : ℕ) (within : n ≤ length a) (same : (j : ℕ) → j < n → step_at b j ≡ step_at a j) (o : Ordered given a next firm) where
  decided_same : (j : ℕ) → j < n → (step_at b j).reason ≡ Decision → Among given (literal_at b j) ⊎ ((next ≡ length given) × (firm ≤ j))
  decided_same j lt one =
      ⊎_elim (λ x. inl (x.0, x.1, ap (λ (s : Step). s.literal) (same j lt) ∙ x.2)) (λ y. inr y) (o.decided j (omega arith) (ap (λ (s : Step). s.reason) (sym (same j lt)) ∙ one))

  ordered_same : firm ≤ n → n ≤ length b → ((j : ℕ) → n ≤ j → j < length b → (step_at b j).reason ≡ Decision → Among given (literal_at b j) ⊎ ((next ≡ length given) × (firm ≤ j))) → Ordered given b next firm
  ordered_same behind long rest =
      record {
        before = omega arith;
        few = o.few;
        assumed = λ i lt. let w = o.assumed i lt in let less : w.0 < firm = w.1 in (w.0, less, ap (λ (s : Step). s.literal) (same w.0 (omega arith)) ∙ w.2);
        decided = λ j lt one. ⊎_elim (λ less. decided_same j less one) (λ ge. rest j ge lt one) (cases_lt j n);
      }

module _ (given : List ℕ) (steps : List Step) (next firm : ℕ) (o : Ordered given steps next firm) where
  pub ordered_grew : (steps' : List Step) → Grew steps steps' → Ordered given steps' next firm
  ordered_grew steps' g = ordered_same given steps steps' next firm (length steps) (omega arith) g.same o o.before g.more (λ j ge lt one. absurd (g.forced j ge lt one))

  module _ (k : ℕ) (le : k ≤ length steps) where
    cut : length (take k steps) ≡ k
    cut = length-take-le k steps le

    kept : (j : ℕ) → j < k → step_at (take k steps) j ≡ step_at steps j
    kept j lt = step_taken steps k j lt

    pub ordered_cut : firm ≤ k → Ordered given (take k steps) next firm
    ordered_cut behind = let size = cut in ordered_same given steps (take k steps) next firm k le kept o behind (omega arith) (λ j ge lt one. let z : ⊥ = omega arith in absurd z)

    pub ordered_again : k < firm → Ordered given (take k steps) 0 0
    ordered_again early =
        let size = cut in
        record {
          before = omega arith;
          few = omega arith;
          assumed = λ i lt. let z : ⊥ = omega arith in absurd z;
          decided = λ j lt one. ⊎_elim (λ a. inl a) (λ b. let ge : firm ≤ j = b.1 in let z : ⊥ = omega arith in absurd z) (decided_same given steps (take k steps) next firm k le kept o j (omega arith) one);
        }

  pub ordered_more : (i : ℕ) → next < length given → i < length steps → literal_at steps i ≡ get_or given next 0 → Ordered given steps (next + 1) (length steps)
  ordered_more i lt on is =
      let before = o.before in
      record {
        before = omega arith;
        few = omega arith;
        assumed = λ q less. ⊎_elim
            (λ e. (i, on, is ∙ ap (λ k. get_or given k 0) (sym e)))
            (λ ne. let w = o.assumed q (omega arith) in let at : w.0 < firm = w.1 in (w.0, omega arith, w.2))
            (cases_eq q next);
        decided = λ j less one. ⊎_elim (λ a. inl a) (λ b. let all : next ≡ length given = b.0 in let z : ⊥ = omega arith in absurd z) (o.decided j less one);
      }

  pub ordered_push : (st : Step) → (st.reason ≢ Decision) ⊎ (Among given st.literal ⊎ (next ≡ length given)) → Ordered given (steps ++ st ∷ []) next firm
  ordered_push st how =
      let before = o.before in
      let long : length (steps ++ st ∷ []) ≡ length steps + 1 = length-append steps (st ∷ []) in
      ordered_same given steps (steps ++ st ∷ []) next firm (length steps) (omega arith) (step_old steps st) o before (omega arith)
      (λ j ge lt one.
      let e : j ≡ length steps = omega arith in
      let at : step_at (steps ++ st ∷ []) j ≡ st = ap (step_at (steps ++ st ∷ [])) e ∙ step_new steps st in
      ⊎_elim
      (λ no. absurd (no (ap (λ (s : Step). s.reason) (sym at) ∙ one)))
      (λ h. ⊎_elim (λ a. inl (a.0, a.1, ap (λ (s : Step). s.literal) at ∙ a.2)) (λ all. inr (all, omega arith)) h)
      how)

-- the same at a search that a literal was put on
pub ordered_placed : (given : List ℕ) (s u : Search) (next firm l : ℕ) (reason : Reason) → Placed s u l reason
    → (reason ≢ Decision) ⊎ (Among given l ⊎ (next ≡ length given)) → Ordered given s.trail.steps.items next firm → Ordered given u.trail.steps.items next firm
ordered_placed given s u next firm l reason p how o =
    subst (λ z. Ordered given z next firm) (sym p.steps) (ordered_push given s.trail.steps.items next firm o (record { literal = l; level = p.level; reason = reason }) how)

is_decision : (r : Reason) → (r ≡ Decision) ⊎ (r ≢ Decision)
is_decision Decision = inl refl
is_decision Known = inr (λ e. cc)
is_decision (Clause c) = inr (λ e. cc)

-- a way that is allowed and meets the assumptions is along the trail
module _ (X : (ℕ → Bool) → Bool) (values : List Value) (positions given : List ℕ) (steps : List Step) (next firm : ℕ) (s : Sound X values positions steps) (o : Ordered given steps next firm) (lt : next < length given) (p : ℕ → Bool) (x : X p ≡ true) (g : every (lit p) given ≡ true) where
  along_to : (k : ℕ) → k ≤ length steps → Along p steps k
  along_to zero le i less = let z : ⊥ = omega arith in absurd z
  along_to (suc k) le i less =
      let below : Along p steps k = along_to k (omega arith) in
      ⊎_elim
      (λ e. subst (λ j. lit p (literal_at steps j) ≡ true) (sym e) (⊎_elim
      (λ one. ⊎_elim
      (λ a. ap (lit p) a.2 ∙ AllPass-from_list_all (lit p) given g a.0 0 a.1)
      (λ b. let all : next ≡ length given = b.0 in let z : ⊥ = omega arith in absurd z)
      (o.decided k (omega arith) one))
      (λ other. s.grounded k (omega arith) other p x below)
      (is_decision (step_at steps k).reason)))
      (λ ne. below i (omega arith))
      (cases_eq i k)

  pub no_way : Refuted values (get_or given next 0) → ⊥
  no_way f =
      both_ways (lit p (get_or given next 0))
      (refuted_off X values positions steps s p (get_or given next 0) (along_to (length steps) (omega arith)) f)
      (AllPass-from_list_all (lit p) given g next 0 lt)

pub barred : (s : Search) (given : List ℕ) (next firm : ℕ) → Ordered given s.trail.steps.items next firm → next < length given → Refuted s.trail.values (get_or given next 0) → Barred s.facts.store.row.items given
barred s given next firm o lt f p =
    let row = s.facts.store.row.items in
    let t = s.trail in
    false_from_ne_true (allowed row p && every (lit p) given) (λ e. let both = and_parts (allowed row p) (every (lit p) given) e in no_way (allowed row) t.values t.positions given t.steps.items next firm s.steady o lt p both.0 both.1 f)

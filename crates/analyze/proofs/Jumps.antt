-- Where a drawn clause lets the search jump back to, and the clause of the decisions: going down a dead trail, a literal that
-- follows is true, so that one of the decisions is false.
use Rattle.std.proofs.Common.{◌≡◌, ℕ, zero, suc, ◌+◌, ◌<◌, ◌≤◌, Bool, true, false, List, [], ◌∷◌, ◌++◌, length, get_or, Some, None, Option, sym, refl, ap, ◌∙◌, subst, ⊎_elim, arith, length-append}
use Rattle.std.proofs.lemmas.Bool.{both_ways, cases_eq, cases_Bool}
use Rattle.std.specs.Option.{option_or}
use Rattle.std.proofs.lemmas.List.{get_or_append_left}
use Rattle.chooser.specs.Ways.{lit, some}
use Rattle.rows.specs.Lits.{Turned}
use Rattle.implied.proofs.Literals.{lit_off, lit_on}
use Rattle.trail.specs.declared.step.Value.{Value}
use Rattle.trail.specs.declared.step.Reason.TheVariants.{Decision}
use Rattle.trail.specs.declared.step.Step.{Step}
use Rattle.trail.specs.Trails.{step_at, literal_at, Along, Follows, Sound}
use Rattle.implied.specs.Implied.{Implied}
use Rattle.analyze.specs.Analysis.{Opposed, Place, Jump}
use Rattle.analyze.proofs.Draws.{some_place, some_before, some_last}

along_more : (p : ℕ → Bool) (steps : List Step) (i : ℕ) → Along p steps i → lit p (literal_at steps i) ≡ true → Along p steps (i + 1)
along_more p steps i h on j lt = ⊎_elim (λ e. subst (λ k. lit p (literal_at steps k) ≡ true) (sym e) on) (λ ne. h j (omega arith)) (cases_eq j i)

-- the first literal and the others, taken apart
opposed_rest : (steps : List Step) (k : ℕ) (x : ℕ) (rest : List ℕ) → ((q : ℕ) → q < length rest → (j : ℕ) × (j < k) × Turned (literal_at steps j) (get_or rest q 0)) → (q : ℕ) → q < length (x ∷ rest) → 0 < q → (j : ℕ) × (j < k) × Turned (literal_at steps j) (get_or (x ∷ rest) q 0)
opposed_rest steps k x rest h zero lt pos = let z : ⊥ = omega arith in absurd z
opposed_rest steps k x rest h (suc q) lt pos = h q (omega arith)

pub opposed_from : (steps : List Step) (clause rest : List ℕ) (x k j : ℕ) → clause ≡ x ∷ rest → k ≤ j → j < length steps → Turned (literal_at steps j) x → ((q : ℕ) → q < length rest → (i : ℕ) × (i < k) × Turned (literal_at steps i) (get_or rest q 0)) → Opposed steps clause k
opposed_from steps clause rest x k j e le lt turn h =
    subst (λ c. Opposed steps c k) (sym e) (record { some = omega arith; first = (j, le, lt, turn); others = opposed_rest steps k x rest h })

-- a clause of which all but the first literal are false along the first k
pub asserted : (X : (ℕ → Bool) → Bool) (steps : List Step) (clause : List ℕ) (k : ℕ) → Implied X clause → Opposed steps clause k → Follows X steps k (get_or clause 0 0)
asserted X steps clause k drawn o p x along =
    let w = some_place (lit p) clause (drawn p x) in
    ⊎_elim
    (λ e. subst (λ q. lit p (get_or clause q 0) ≡ true) e w.2)
    (λ ne. let pos : 0 < w.0 = omega arith in let q = o.others w.0 w.1 pos in absurd (both_ways (lit p (get_or clause w.0 0)) (lit_off p (get_or clause w.0 0) (literal_at steps q.0) q.2 (along q.0 q.1)) w.2))
    (cases_eq w.0 0)

-- an allowed way along the first i literals meets the clause of the decisions from i on
pub record Deciding (X : (ℕ → Bool) → Bool) (steps : List Step) (i : ℕ) (clause : List ℕ) (last : Option ℕ) : Type 0 where
  pub held : (p : ℕ → Bool) → X p ≡ true → Along p steps i → some (lit p) clause ≡ true
  pub short : length clause + i ≤ length steps
  pub none : last ≡ None → clause ≡ []
  pub place : (k : ℕ) → last ≡ Some k → Place X steps clause k

module _ (X : (ℕ → Bool) → Bool) (values : List Value) (positions : List ℕ) (steps : List Step) (s : Sound X values positions steps) (i : ℕ) (clause : List ℕ) (last : Option ℕ) (old : Deciding X steps (i + 1) clause last) where
  pub decide_skip : ((step_at steps i).reason ≡ Decision → ⊥) → Deciding X steps i clause last
  decide_skip no-decision =
      let le = old.short in
      record {
        held = λ p x along. old.held p x (along_more p steps i along (s.grounded i (omega arith) no-decision p x along));
        short = omega arith;
        none = old.none;
        place = old.place;
      }

  module _ (t : ℕ) (turn : Turned (literal_at steps i) t) (one : (step_at steps i).reason ≡ Decision) where
    decide_held : (p : ℕ → Bool) → X p ≡ true → Along p steps i → some (lit p) (clause ++ t ∷ []) ≡ true
    decide_held p x along =
        ⊎_elim
        (λ on. some_before (lit p) clause t (old.held p x (along_more p steps i along on)))
        (λ off. some_last (lit p) clause t (lit_on p t (literal_at steps i) turn off))
        (cases_Bool (lit p (literal_at steps i)))

    long : length (clause ++ t ∷ []) ≡ length clause + 1
    long = length-append clause (t ∷ [])

    -- the last decision: the clause was empty
    decide_last : last ≡ None → Deciding X steps i (clause ++ t ∷ []) (Some i)
    decide_last none =
        let le = old.short in
        let size = long in
        let empty : clause ≡ [] = old.none none in
        let first : get_or (clause ++ t ∷ []) 0 0 ≡ t = ap (λ z. get_or (z ++ t ∷ []) 0 0) empty in
        record {
          held = decide_held;
          short = omega arith;
          none = λ e. let z : ⊥ = cc in absurd z;
          place = λ k e. let same : i ≡ k = cc in subst (Place X steps (clause ++ t ∷ [])) same (record {
            some = omega arith;
            before = omega arith;
            decision = one;
            follows = λ p x along. ap (lit p) first
                ∙ ⊎_elim
                (λ on. let met : some (lit p) [] ≡ true = sym (ap (some (lit p)) empty) ∙ old.held p x (along_more p steps i along on) in absurd (both_ways false refl met))
                (λ off. lit_on p t (literal_at steps i) turn off)
                (cases_Bool (lit p (literal_at steps i)));
            first = (i, omega arith, omega arith, subst (Turned (literal_at steps i)) (sym first) turn);
          });
        }

    decide_more : (k : ℕ) → last ≡ Some k → Deciding X steps i (clause ++ t ∷ []) last
    decide_more k more =
        let le = old.short in
        let size = long in
        record {
          held = decide_held;
          short = omega arith;
          none = λ e. let z : ⊥ = cc in absurd z;
          place = λ q e.
              let o = old.place q e in
              let some = o.some in
              let first : get_or (clause ++ t ∷ []) 0 0 ≡ get_or clause 0 0 = get_or_append_left clause (t ∷ []) 0 0 some in
              record {
                some = omega arith;
                before = o.before;
                decision = o.decision;
                follows = λ p x along. ap (lit p) first ∙ o.follows p x along;
                first = (o.first.0, o.first.1, o.first.2, subst (Turned (literal_at steps o.first.0)) (sym first) o.first.3);
              };
        }

    -- one decision more
    pub decide_or : Deciding X steps i (clause ++ t ∷ []) (option_or last (Some i))
    decide_or =
        elim last as (λ o. last ≡ o → Deciding X steps i (clause ++ t ∷ []) (option_or o (Some i))) [
          | None ↦ decide_last
          | Some k ↦ λ e. subst (Deciding X steps i (clause ++ t ∷ [])) e (decide_more k e)
        ] refl

pub decided : (X : (ℕ → Bool) → Bool) (steps : List Step) (i : ℕ) (clause : List ℕ) (last : Option ℕ) → i ≡ 0 → Deciding X steps i clause last → Jump X steps clause last
decided X steps i clause None start o = λ p x.
    let met : some (lit p) [] ≡ true = sym (ap (some (lit p)) (o.none refl)) ∙ o.held p x (λ j less. let z : ⊥ = omega arith in absurd z) in
    both_ways false refl met
decided X steps i clause (Some k) start o = (λ p x. o.held p x (λ j less. let z : ⊥ = omega arith in absurd z), o.place k refl)

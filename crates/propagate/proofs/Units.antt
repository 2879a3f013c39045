-- A clause of which all literals but one are false shows that one, and a clause that is false shows the trail dead.
use Rattle.std.proofs.Common.{◌≡◌, ℕ, ◌<◌, Bool, true, false, ◌⊎◌, List, length, get_or, sym, refl, subst, ⊎_elim, inl, inr}
use Rattle.std.proofs.lemmas.Bool.{both_ways}
use Rattle.chooser.specs.Ways.{lit, some}
use Rattle.rows.proofs.Lits.{some_only}
use Rattle.trail.specs.declared.step.Value.{Value}
use Rattle.trail.specs.declared.step.Reason.TheVariants.{Decision, Clause}
use Rattle.trail.specs.declared.step.Step.{Step}
use Rattle.trail.specs.declared.search.Search.{Search}
use Rattle.trail.specs.Values.{Refuted}
use Rattle.trail.specs.Trails.{Follows, Dead, Sound}
use Rattle.trail.specs.Steps.{Pushed}
use Rattle.trail.proofs.Sounds.{refuted_off, grew_none, grew_push}
use Rattle.propagate.specs.Visits.{Onward}

module _ (X : (ℕ → Bool) → Bool) (values : List Value) (positions : List ℕ) (steps : List Step) (s : Sound X values positions steps) where
  module _ (clause : List ℕ) (other : ℕ) (met : (p : ℕ → Bool) → X p ≡ true → some (lit p) clause ≡ true)
      (false-but : (i : ℕ) → i < length clause → (get_or clause i 0 ≡ other) ⊎ Refuted values (get_or clause i 0)) where
    pub unit_follows : Follows X steps (length steps) other
    unit_follows p x along =
        some_only (lit p) other clause
        (λ i lt. ⊎_elim (λ is. inr is) (λ f. inl (refuted_off X values positions steps s p (get_or clause i 0) along f)) (false-but i lt))
        (met p x)

    pub clash_dead : Refuted values other → Dead X steps
    clash_dead f p x along = both_ways (lit p other) (refuted_off X values positions steps s p other along f) (unit_follows p x along)

pub onward_none : (s : Search) → Onward s s
onward_none s = record { facts = refl; grew = grew_none s.trail.steps.items }

-- a literal that follows was put, or was not
pub onward_push : (s t : Search) (l c : ℕ) (put : Bool) → Pushed s t l (Clause c) put → Onward s t
onward_push s t l c true p =
    let no-decision : Clause c ≡ Decision → ⊥ = λ e. cc in
    record { facts = p.facts; grew = rw p.steps (grew_push s.trail.steps.items (record { literal = l; level = p.level; reason = Clause c }) p.within no-decision) }
onward_push s t l c false p = subst (Onward s) (sym p.0) (onward_none s)

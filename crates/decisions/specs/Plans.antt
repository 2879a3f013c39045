-- What is decided on a trail: assumptions, and behind all of them other literals.
use Rattle.std.specs.Prelude.{◌≡◌, ℕ, ◌<◌, ◌≤◌, Bool, false, ◌&&◌, ◌⊎◌, List, length, All, ◌≢◌, slice_index}
use Rattle.chooser.specs.Ways.{lit, every}
use Rattle.implied.specs.Implied.{allowed}
use Rattle.trail.specs.Trails.{Dead, step_at, literal_at}
use Rattle.trail.specs.Values.{Free}
use Rattle.trail.specs.declared.step.Step.{Step}
use Rattle.trail.specs.declared.step.Reason.TheVariants.{Decision}
use Rattle.trail.specs.declared.search.Search.{Search}
use Rattle.outcome.specs.Outcome.{Hit}
use Rattle.outcome.specs.declared.Next.{Next}
use Rattle.outcome.specs.declared.Next.TheVariants.{Decide, Clash, Yes, No}
use Rattle.decisions.specs.declared.plan.Plan.{Plan}

-- no step is a decision
abbrev pub Forced : List Step → Type 0
Forced steps = All (λ (s : Step). s.reason ≢ Decision) steps

-- the literal is an assumption
abbrev pub Among : List ℕ → ℕ → Type 0
Among given l = (i : ℕ) × (i < length given) × (l ≡ slice_index given i)

pub record Ordered (given : List ℕ) (steps : List Step) (next firm : ℕ) : Type 0 where
  pub before : firm ≤ length steps
  pub few : next ≤ length given
  pub assumed : (i : ℕ) → i < next → (j : ℕ) × (j < firm) × (literal_at steps j ≡ slice_index given i)
  pub decided : (j : ℕ) → j < length steps → (step_at steps j).reason ≡ Decision → Among given (literal_at steps j) ⊎ ((next ≡ length given) × (firm ≤ j))

abbrev pub Planned : List ℕ → List Step → Plan → Type 0
Planned given steps plan = Ordered given steps plan.next plan.firm

-- no allowed way meets the assumptions
abbrev pub Barred : List ℕ → List ℕ → Type 0
Barred row given = (p : ℕ → Bool) → (allowed row p && every (lit p) given) ≡ false

-- what an assumption that is not true leads to
abbrev pub Assumed : Search → List ℕ → Next → Type 0
Assumed s given (Decide l) = Free s.trail.values l × Among given l
Assumed s given (Clash c) = ⊥
Assumed s given Yes = ⊥
Assumed s given No = Barred s.facts.store.row.items given

-- a literal may be decided if it is an assumption, or all of them are on the trail
abbrev pub Chosen : Search → List ℕ → Plan → List ℕ → Next → Type 0
Chosen s given plan out (Decide l) = Free s.trail.values l × (Among given l ⊎ (plan.next ≡ length given))
Chosen s given plan out (Clash c) = Dead (allowed s.facts.store.row.items) s.trail.steps.items
Chosen s given plan out Yes = Hit s.facts.store.row.items given out
Chosen s given plan out No = Barred s.facts.store.row.items given

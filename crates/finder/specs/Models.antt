-- Models: the partial values that a decision makes of the problem's unknowns, and the assignments that complete them.
-- Assumes nothing.
use Rattle.std.specs.Prelude.{◌≡◌, ℕ, zero, suc, ◌<◌, Bool, true, cond, List, [], ◌∷◌, length, ◌==◌}
use Rattle.std.proofs.Math.Option.{Option, none, some}
use Rattle.syntax.specs.Typing.{Sig, constructors, arguments}
use Rattle.syntax.specs.Values.{Value, Values, build, v[], ◌v∷◌, OfType}
use Rattle.syntax.specs.Problems.{Problem, sig_of}
use Rattle.judging.specs.Held.{Helds, goal}
use Rattle.judging.specs.Judging.{is, judge}
use Rattle.judging.specs.Paths.{Path, root, child, Decision, under}
use Rattle.judging.specs.Assignments.{ComesTrue}

-- A partial value: an open part, or a constructor and partial values as its arguments.
infixr 67 ◌o∷◌ ◌s∷◌ ◌c∷◌
mutual
  pub data Partial : Type 0 where
    open_part : Partial
    built : ℕ → Partials → Partial

  pub data Partials : Type 0 where
    o[] : Partials
    ◌o∷◌ : Partial → Partials → Partials

-- what δ makes of the unknown u, of the type t, and of what is below it
mutual
  pub data Shows (sig : Sig) (δ : Decision) : Path → ℕ → Partial → Type 0 where
    shows_open : {u : Path} {t : ℕ} → δ u ≡ none → Shows sig δ u t open_part
    shows_built : {u : Path} {t c : ℕ} {qs : Partials} → δ u ≡ some c → ShowsAll sig δ (child u c) (arguments sig t c) qs
        → Shows sig δ u t (built c qs)

  pub data ShowsAll (sig : Sig) (δ : Decision) : (ℕ → Path) → List ℕ → Partials → Type 0 where
    s[] : {place : ℕ → Path} → ShowsAll sig δ place [] o[]
    ◌s∷◌ : {place : ℕ → Path} {t : ℕ} {ts : List ℕ} {q : Partial} {qs : Partials} → Shows sig δ (place 0) t q
        → ShowsAll sig δ (λ j. place (suc j)) ts qs → ShowsAll sig δ place (t ∷ ts) (q o∷ qs)

-- the model of a decision: a partial value for each unknown of the problem
abbrev pub ModelOf : Problem → Decision → Partials → Type 0
ModelOf p δ qs = ShowsAll (sig_of p) δ root p.unknowns qs

-- v is the partial value q with any values of their types in the open parts
mutual
  pub data Completes (sig : Sig) : ℕ → Partial → Value → Type 0 where
    anything : {t : ℕ} {v : Value} → OfType sig t v → Completes sig t open_part v
    as_built : {t c : ℕ} {qs : Partials} {vs : Values} → c < constructors sig t → CompletesAll sig (arguments sig t c) qs vs
        → Completes sig t (built c qs) (build c vs)

  pub data CompletesAll (sig : Sig) : List ℕ → Partials → Values → Type 0 where
    c[] : CompletesAll sig [] o[] v[]
    ◌c∷◌ : {t : ℕ} {ts : List ℕ} {q : Partial} {qs : Partials} {v : Value} {vs : Values} → Completes sig t q v
        → CompletesAll sig ts qs vs → CompletesAll sig (t ∷ ts) (q o∷ qs) (v v∷ vs)

abbrev pub Filled : Problem → Partials → Values → Type 0
Filled p qs α = CompletesAll (sig_of p) p.unknowns qs α

-- The decision that a model makes: the constructor that stands at a path, if one does. An open part is undecided.
abbrev pub nth_partial : Partials → ℕ → Option Partial
nth_partial o[] j = none
nth_partial (q o∷ qs) zero = some q
nth_partial (q o∷ qs) (suc j) = nth_partial qs j

abbrev pub argument_partial : ℕ → ℕ → Option Partial → Option Partial
argument_partial c j none = none
argument_partial c j (some open_part) = none
argument_partial c j (some (built d qs)) = cond (d == c) (nth_partial qs j) none

abbrev pub part_of : Partials → Path → Option Partial
part_of qs (root k) = nth_partial qs k
part_of qs (child u c j) = argument_partial c j (part_of qs u)

abbrev pub head_of : Option Partial → Option ℕ
head_of none = none
head_of (some open_part) = none
head_of (some (built c qs)) = some c

abbrev pub replayed : Partials → Decision
replayed qs u = head_of (part_of qs u)

-- under α every goal in force comes to true
abbrev pub Solves : Problem → (ℕ → Bool) → Values → Type 0
Solves p force α = (g : ℕ) → g < length p.goals → force g ≡ true → ComesTrue p α g

-- with these steps every goal in force is judged true under δ
abbrev pub JudgesTrue : Problem → Decision → (ℕ → Bool) → ℕ → Type 0
JudgesTrue p δ force steps =
    (g : ℕ) → g < length p.goals → force g ≡ true
    → (xs : Helds Path) × (E : List Path) × (left : ℕ) × (judge p (under p δ) (goal p g) steps ≡ some (is 1 xs E, left))

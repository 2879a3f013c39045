-- What the judge's answers mean: the answers of the definition, with the steps left and the explanation. Assumes nothing.
use Rattle.std.specs.Prelude.{◌≡◌, ℕ, ◌+◌, ◌*◌, ◌<◌, ◌≤◌, min, List, length, Some, None, Option}
use Rattle.std.proofs.Math.Option.{Option as Maybe, none, some}
use Rattle.syntax.specs.Terms.{Term, Terms, ◌t∷◌, case, both}
use Rattle.syntax.specs.Typing.{constructors}
use Rattle.syntax.specs.Problems.{sig_of}
use Rattle.judging.specs.Held.{Held, hold, Helds}
use Rattle.judging.specs.Judging.{Unknowns, Head, is, waits, Verdict, same, differ, wait, headed, compared, pairs, judges}
use Rattle.held.specs.Explanations.{contains, member, Adds}
use Rattle.held.specs.Reading.{Text, Reads}
use Rattle.held.specs.Standing.{hlength, Stands, Row, Env, Same}
use Rattle.held.specs.declared.places.Held.{Held as Code}
use Rattle.judge.specs.Texts.{ReadsAll, tlength}
use Rattle.judge.specs.declared.left.Budget.{Budget}
use Rattle.judge.specs.declared.answers.Head.{Head as CodeHead}
use Rattle.judge.specs.declared.answers.Head.TheVariants.{Waits, Is}
use Rattle.judge.specs.declared.answers.Verdict.{Verdict as CodeVerdict}
use Rattle.judge.specs.declared.answers.Verdict.TheVariants.{Wait, Same as SameV, Differ}

-- a set of its own has what is in E, and nothing else
pub record Explains (w : List ℕ) (E : List ℕ) : Type 0 where
  pub has : (u : ℕ) → u < 512 → contains w u ≡ member E u

-- A head, by cases on the code's answer: its arguments stand in a row, and its explanation was put into the set a, which is then b.
abbrev pub HeadAs : Text → Budget → List ℕ → List ℕ → Option CodeHead → Maybe (Head ℕ × ℕ) → Type 0
HeadAs x l a b None o = o ≡ none
HeadAs x l a b (Some (Waits u)) o = o ≡ some (waits u, l.steps)
HeadAs x l a b (Some (Is i c n)) o =
    (xs : Helds ℕ) × (E : List ℕ) × (o ≡ some (is c xs E, l.steps)) × (n ≡ hlength xs) × Row (Reads x) l.memory.places.now l.memory.top i xs × Adds a b E

pub record Agrees (x : Text) (l : Budget) (a b : List ℕ) (r : Option CodeHead) (o : Maybe (Head ℕ × ℕ)) : Type 0 where
  pub means : HeadAs x l a b r o

-- a verdict, likewise
abbrev pub VerdictAs : Budget → List ℕ → List ℕ → Option CodeVerdict → Maybe (Verdict ℕ × ℕ) → Type 0
VerdictAs l a b None o = o ≡ none
VerdictAs l a b (Some (Wait u)) o = o ≡ some (wait u, l.steps)
VerdictAs l a b (Some SameV) o = (E : List ℕ) × (o ≡ some (same E, l.steps)) × Adds a b E
VerdictAs l a b (Some Differ) o = (E : List ℕ) × (o ≡ some (differ E, l.steps)) × Adds a b E

pub record Concurs (l : Budget) (a b : List ℕ) (r : Option CodeVerdict) (o : Maybe (Verdict ℕ × ℕ)) : Type 0 where
  pub means : VerdictAs l a b r o

-- at most six arguments
abbrev pub Few : Option CodeHead → Type 0
Few None = Unit {0}
Few (Some (Waits u)) = Unit {0}
Few (Some (Is i c n)) = n ≤ 6

-- the places suffice for six at each step left, and for `spare` more
abbrev pub HasRoom : ℕ → Budget → Type 0
HasRoom spare l = l.memory.top + 6 * l.steps + spare ≤ length l.memory.places.now

-- The steps fall, the places in use grow, there stays room for six at each step left (and for `spare` more), and what stood
-- in them stands.
pub record Kept (spare : ℕ) (a b : Budget) : Type 0 where
  pub steps : b.steps ≤ a.steps
  pub room : b.memory.top + 6 * b.steps ≤ a.memory.top + 6 * a.steps + spare
  pub long : length b.memory.places.now ≡ length a.memory.places.now
  pub top : a.memory.top ≤ b.memory.top
  pub same : Same a.memory.places.now b.memory.places.now a.memory.top

-- What each call gives, for every depth that the steps left do not pass: K are the unknowns, l is what is left at the start,
-- and o at the end; the explanation went into the set a, which is then b.
module _ (x : Text) (K : Unknowns ℕ) (l : Budget) (a : List ℕ) (o : Budget) (b : List ℕ) where
  abbrev pub Heads : Code → Option CodeHead → Type 0
  Heads at r =
      (d : ℕ) (h : Held ℕ) → l.steps ≤ d → Stands (Reads x) l.memory.places.now l.memory.top at h → Agrees x o a b r ((judges x.problem K d).head h l.steps)

  -- the term at a place in an environment, after the step was taken
  abbrev pub TermsHeads : ℕ → Option ℕ → Option CodeHead → Type 0
  TermsHeads place env r =
      (d : ℕ) (t : Term) (ρ : Helds ℕ) → l.steps ≤ d → Reads x place t → Env (Reads x) l.memory.places.now l.memory.top env ρ
      → Agrees x o a b r (headed x.problem K (judges x.problem K d) (hold t ρ) l.steps)

  -- a case, by the type and the place of its subject, which its branches follow; and an `and`, by the places of its sides
  abbrev pub CasesHeads : ℕ → ℕ → Option ℕ → Option CodeHead → Type 0
  CasesHeads ty subject env r =
      (d : ℕ) (t : Term) (ts : Terms) (ρ : Helds ℕ) → l.steps ≤ d → constructors (sig_of x.problem) ty ≡ tlength ts → Reads x subject t
      → ReadsAll x subject (t t∷ ts) → Env (Reads x) l.memory.places.now l.memory.top env ρ
      → Agrees x o a b r (headed x.problem K (judges x.problem K d) (hold (case ty t ts) ρ) l.steps)

  abbrev pub AndsHeads : ℕ → ℕ → Option ℕ → Option CodeHead → Type 0
  AndsHeads p q env r =
      (d : ℕ) (t u : Term) (ρ : Helds ℕ) → l.steps ≤ d → Reads x p t → Reads x q u → Env (Reads x) l.memory.places.now l.memory.top env ρ
      → Agrees x o a b r (headed x.problem K (judges x.problem K d) (hold (both t u) ρ) l.steps)

  abbrev pub Compares : Code → Code → Option CodeVerdict → Type 0
  Compares p q r =
      (d : ℕ) (h k : Held ℕ) → l.steps ≤ d → Stands (Reads x) l.memory.places.now l.memory.top p h → Stands (Reads x) l.memory.places.now l.memory.top q k
      → Concurs o a b r ((judges x.problem K d).comparing h k l.steps)

  -- two held terms, after the step was taken
  abbrev pub Compared : Code → Code → Option CodeVerdict → Type 0
  Compared p q r =
      (d : ℕ) (h k : Held ℕ) → l.steps ≤ d → Stands (Reads x) l.memory.places.now l.memory.top p h → Stands (Reads x) l.memory.places.now l.memory.top q k
      → Concurs o a b r (compared (judges x.problem K d) h k l.steps)

  -- rows of arguments, as far as both go
  abbrev pub Pairs : ℕ → ℕ → ℕ → Option CodeVerdict → Type 0
  Pairs i j count r =
      (d : ℕ) (xs ys : Helds ℕ) → l.steps ≤ d → count ≡ min (hlength xs) (hlength ys) → Row (Reads x) l.memory.places.now l.memory.top i xs → Row (Reads x) l.memory.places.now l.memory.top j ys
      → Concurs o a b r (pairs (judges x.problem K d) xs ys l.steps)

-- What is asked has a literal for each variable at most, and only of variables that are allotted. Assumes nothing.
use Rattle.std.proofs.Common.{◌≡◌, ℕ, zero, suc, ◌+◌, ◌*◌, ◌<◌, ◌≤◌, Bool, true, false, cond, ltb, List, [], ◌∷◌, ◌++◌, length, ◌⊎◌, refl, ap, ◌∙◌, inl, inr, arith, length-append}
use Rattle.std.proofs.Math.Option.{Option, none, some}
use Rattle.std.proofs.lemmas.Bool.{lt-ltb, cases_lt, cond-false}
use Rattle.std.proofs.lemmas.List.{get_or_past}
use Rattle.chooser.specs.Ways.{every, allotted}
use Rattle.syntax.specs.Problems.{Problem}
use Rattle.judging.specs.Paths.{Path}
use Rattle.judging.specs.Asked.{◌∈◌, first, later}
use Rattle.finder.specs.Levels.{Measures, reach, fits}
use Rattle.finder.specs.Tables.{Entry, Table, width, Tabled}
use Rattle.finder.specs.Clauses.{on, off}
use Rattle.finder.proofs.Asking.{every_both, last_every}
use Rattle.finder.specs.Asking.{switches_on, switches, deep_cases, denials_at, denials, asked}
use Rattle.finder.proofs.Tables.{opening_entry}
use Rattle.unknowns.specs.Listing.{taken_by, taken}
use Rattle.unknowns.specs.Force.{forced}

-- the variables of an opened entry are below `count`
abbrev pub Below : Problem → ℕ → Entry → Type 0
Below p count x = (a : ℕ) → x.first ≡ some a → a + width p x.path ≤ count

pub entry_below : (p : Problem) (T : Table) (count : ℕ) → Tabled p T count → (x : Entry) → x ∈ T → Below p count x
entry_below p T count t x m a e = (t.variables x.path a (opening_entry T x t.distinct m ∙ e)).1

-- a literal more or none
longer : (b : Bool) (xs : List ℕ) (l m : ℕ) → length xs ≤ m → length (cond b (xs ++ (l ∷ [])) xs) ≤ suc m
longer true xs l m h = omega (arith, length-append xs (l ∷ []))
longer false xs l m h = omega (arith, h)

switches_few : (force : ℕ → Bool) (m : ℕ) → length (switches_on force m) ≤ m
switches_few force zero = omega arith
switches_few force (suc m) = longer (force m) (switches_on force m) (on m) m (switches_few force m)

module _ (p : Problem) (d : Measures) (n : ℕ) where
  cases_few : (u : Path) (a m : ℕ) → length (deep_cases p d n u a m) ≤ m
  cases_few u a zero = omega arith
  cases_few u a (suc m) = longer (ltb n (reach p d u m)) (deep_cases p d n u a m) (off (a + m)) m (cases_few u a m)

  entry_few : (x : Entry) (o : Option ℕ) → length (denials_at p d n x.path o) ≤ taken_by p x o
  entry_few x none = omega arith
  entry_few x (some a) = go (fits p d n x.path)
    where
      go : (b : Bool) → length (cond b (deep_cases p d n x.path a (width p x.path)) []) ≤ width p x.path
      go true = cases_few x.path a (width p x.path)
      go false = omega arith

  denials_few : (T : Table) → length (denials p d n T) ≤ taken p T
  denials_few [] = omega arith
  denials_few (x ∷ T) =
      omega (arith, entry_few x x.first, denials_few T, length-append (denials_at p d n x.path x.first) (denials p d n T))

  pub asked_few : (force : ℕ → Bool) (T : Table) → length (asked p d force n T) ≤ length p.goals + taken p T
  asked_few force T =
      omega (arith, switches_few force (length p.goals), denials_few T, length-append (switches p force) (denials p d n T))

module _ (f : ℕ → Bool) where
  every_longer : (b : Bool) (xs : List ℕ) (l : ℕ) → every f xs ≡ true → f l ≡ true → every f (cond b (xs ++ (l ∷ [])) xs) ≡ true
  every_longer true xs l e h = last_every f xs l e h
  every_longer false xs l e h = e

module _ (count : ℕ) where
  pub switches_allotted : (force : ℕ → Bool) (m : ℕ) → m ≤ count → allotted count (switches_on force m) ≡ true
  switches_allotted force zero h = refl
  switches_allotted force (suc m) h =
      every_longer (λ l. ltb l (2 * count)) (force m) (switches_on force m) (on m) (switches_allotted force m (omega (arith, h)))
      (lt-ltb (on m) (2 * count) (omega (arith, h)))

  module _ (p : Problem) (d : Measures) (n : ℕ) where
    cases_allotted : (u : Path) (a m : ℕ) → a + m ≤ count → allotted count (deep_cases p d n u a m) ≡ true
    cases_allotted u a zero h = refl
    cases_allotted u a (suc m) h =
        every_longer (λ l. ltb l (2 * count)) (ltb n (reach p d u m)) (deep_cases p d n u a m) (off (a + m))
        (cases_allotted u a m (omega (arith, h))) (lt-ltb (off (a + m)) (2 * count) (omega (arith, h)))

    entry_allotted : (x : Entry) (o : Option ℕ) → ((a : ℕ) → o ≡ some a → a + width p x.path ≤ count)
        → allotted count (denials_at p d n x.path o) ≡ true
    entry_allotted x none h = refl
    entry_allotted x (some a) h = go (fits p d n x.path)
      where
        go : (b : Bool) → allotted count (cond b (deep_cases p d n x.path a (width p x.path)) []) ≡ true
        go true = cases_allotted x.path a (width p x.path) (h a refl)
        go false = refl

    denials_allotted : (T : Table) → ((x : Entry) → x ∈ T → Below p count x) → allotted count (denials p d n T) ≡ true
    denials_allotted [] h = refl
    denials_allotted (x ∷ T) h =
        every_both (λ l. ltb l (2 * count)) (denials_at p d n x.path x.first) (denials p d n T) (entry_allotted x x.first (h x first))
        (denials_allotted T (λ y m. h y (later m)))

    pub asked_allotted : (force : ℕ → Bool) (T : Table) → Tabled p T count → allotted count (asked p d force n T) ≡ true
    asked_allotted force T t =
        every_both (λ l. ltb l (2 * count)) (switches p force) (denials p d n T) (switches_allotted force (length p.goals) t.switches)
        (denials_allotted T (entry_below p T count t))

-- no goal past the end of the list is in force
pub switches_past : (force : List Bool) (m : ℕ) → length force ≤ m → switches_on (forced force) m ≡ switches_on (forced force) (length force)
switches_past force zero h =
    let e : 0 ≡ length force = omega (arith, h) in
    ap (switches_on (forced force)) e
switches_past force (suc m) h = go (cases_lt m (length force)) (switches_past force m)
  where
    go : (m < length force) ⊎ (length force ≤ m)
        → (length force ≤ m → switches_on (forced force) m ≡ switches_on (forced force) (length force))
        → switches_on (forced force) (suc m) ≡ switches_on (forced force) (length force)
    go (inl l) others =
        let e : suc m ≡ length force = omega (arith, h, l) in
        ap (switches_on (forced force)) e
    go (inr l) others = cond-false (forced force m) _ _ (get_or_past force m false l) ∙ others l

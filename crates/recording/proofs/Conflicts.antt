-- The clause that the code's table has is the clause of the conflict; it has no more literals than there are variables, and
-- all of them are allotted. Assumes nothing.
use Rattle.std.proofs.Common.{◌≡◌, ℕ, zero, suc, ◌+◌, ◌*◌, ◌<◌, ◌≤◌, Bool, true, false, cond, ltb, ◌⊎◌, List, [], ◌∷◌, ◌++◌, length, take, drop, get_or, Some, None, Ok, Err, Option, Result, sym, refl, ap, ◌∙◌, inl, inr, add-one, arith, length-append}
use Rattle.std.proofs.Math.Seq.{drop-cons, drop-length}
use Rattle.std.proofs.lemmas.List.{append_assoc, append-nil, get_or-take, length-take-le}
use Rattle.std.proofs.lemmas.Bool.{and_parts, ltb-true, cond-true, cases_lt}
use mathlib.Core.Option.{Option as Maybe, none, some}
use Rattle.chooser.specs.Ways.{allotted}
use Rattle.chooser.specs.Meaning.{Meaning}
use Rattle.chooser.specs.Steps.{Add}
use Rattle.chooser.specs.declared.Fault.{Fault}
use Rattle.syntax.specs.Problems.{Problem}
use Rattle.finder.specs.Tables.{Entry, Table, width, closed_entry}
use Rattle.judging.specs.Paths.{root}
use Rattle.finder.specs.Ways.{Way, case_of}
use Rattle.finder.specs.Clauses.{off}
use Rattle.finder.proofs.Ways.{case_at_says}
use Rattle.finder.proofs.Tables.{opening_entry}
use Rattle.finder.proofs.Extended.{extending}
use Rattle.finder.proofs.Asking.{every_join}
use Rattle.places.specs.Places.{entry_at, case_in, differing as differing-by-places, marked_literals}
use Rattle.places.proofs.Openings.{entry_in}
use Rattle.unknowns.specs.Listing.{maybe, blank, row, taken, taken_by, Stands, CaseAs, DecidesAs}
use Rattle.unknowns.specs.declared.table.Table.{Table as Code}
use Rattle.unknowns.specs.declared.table.Case.{Case}
use Rattle.unknowns.specs.declared.table.Unknown.{Unknown}
use Rattle.recording.specs.Conflict.{differing, literal_at, literals_below, clause_of, Recorded}
use Rattle.recording.proofs.Clauses.{allotted_cons, allotted_wide, too_few}

-- what is written of the clause when the rows below `at` were gone through
module _ (t : Code) (cases : List (Option Case)) (marks : ℕ → Bool) (goal : ℕ) where
  pub record Written (at : ℕ) (memory : List ℕ) (len : ℕ) : Type 0 where
    pub within : len ≤ length memory
    pub is : take len memory ≡ off goal ∷ literals_below t cases marks at

  pub written_past : (at len : ℕ) (memory : List ℕ) → Written at memory len → literal_at t cases marks at ≡ [] → Written (at + 1) memory len
  written_past at len memory w e =
      let before = literals_below t cases marks at in
      let same : before ++ literal_at t cases marks at ≡ before = ap (λ ls. before ++ ls) e ∙ append-nil before in
      record {
        within = w.within;
        is = w.is ∙ ap (λ ls. off goal ∷ ls) (sym same) ∙ ap (λ k. off goal ∷ literals_below t cases marks k) (sym (add-one at));
      }

  -- the row at a place, and what it has of the clause
  row_read : (at : ℕ) → at < t.len → get_or (take t.len t.rows) at blank ≡ row t at
  row_read at k = get_or-take t.len t.rows at blank k

  pub literal_is : (at a : ℕ) (x : Case) → at < t.len → marks at ≡ true → (get_or (take t.len t.rows) at blank).first ≡ Some a
      → get_or cases at None ≡ Some x → literal_at t cases marks at ≡ off (a + x.constructor) ∷ []
  literal_is at a x k m f o =
      let first : (row t at).first ≡ Some a = ap (λ (r : Unknown). r.first) (sym (row_read at k)) ∙ f in
      cond-true (marks at) (differing (row t at).first (get_or cases at None)) [] m ∙ (λ i. differing (first i) (o i))

  none_either : (b : Bool) (ls : List ℕ) → ls ≡ [] → cond b ls [] ≡ []
  none_either true ls e = e
  none_either false ls e = refl

  pub none_closed : (at : ℕ) → at < t.len → (get_or (take t.len t.rows) at blank).first ≡ None → literal_at t cases marks at ≡ []
  none_closed at k f =
      let first : (row t at).first ≡ None = ap (λ (r : Unknown). r.first) (sym (row_read at k)) ∙ f in
      none_either (marks at) _ (ap (λ o. differing o (get_or cases at None)) first)

  pub none_caseless : (at : ℕ) → get_or cases at None ≡ None → literal_at t cases marks at ≡ []
  none_caseless at o = none_either (marks at) _ (ap (differing (row t at).first) o ∙ bare (row t at).first)
    where
      bare : (f : Option ℕ) → differing f None ≡ []
      bare None = refl
      bare (Some a) = refl

  -- the literals of the rows below at are a part of those below n
  part_long : (at n : ℕ) (l : ℕ) → at < n → literal_at t cases marks at ≡ l ∷ []
      → length (literals_below t cases marks at) + 1 ≤ length (literals_below t cases marks n)
  part_long at zero l k e = absurd (omega (arith, k))
  part_long at (suc n) l k e = go (cases_lt at n) (λ q. part_long at n l q e)
    where
      join : length (literals_below t cases marks (suc n)) ≡ length (literals_below t cases marks n) + length (literal_at t cases marks n)
      join = length-append (literals_below t cases marks n) (literal_at t cases marks n)

      go : (at < n) ⊎ (n ≤ at) → (at < n → length (literals_below t cases marks at) + 1 ≤ length (literals_below t cases marks n))
          → length (literals_below t cases marks at) + 1 ≤ length (literals_below t cases marks (suc n))
      go (inl q) ih = let h = ih q in let j = join in omega (arith, h, j)
      go (inr q) ih =
          let same : at ≡ n = omega (arith, q, k) in
          let j = join in
          let a = ap (λ i. length (literals_below t cases marks i)) same in
          let b = ap (λ i. length (literal_at t cases marks i)) (sym same) ∙ ap length e in
          omega (arith, j, a, b)

  part_named : (v at n l : ℕ) → at < n → literal_at t cases marks at ≡ l ∷ [] → allotted v (literals_below t cases marks n) ≡ true
      → l < 2 * v
  part_named v at zero l k e h = absurd (omega (arith, k))
  part_named v at (suc n) l k e h = go (cases_lt at n) (λ q. part_named v at n l q e)
    where
      parts : (allotted v (literals_below t cases marks n) ≡ true) × (allotted v (literal_at t cases marks n) ≡ true)
      parts = and_parts _ _ (sym (every_join _ (literals_below t cases marks n) (literal_at t cases marks n)) ∙ h)

      go : (at < n) ⊎ (n ≤ at) → (at < n → allotted v (literals_below t cases marks n) ≡ true → l < 2 * v) → l < 2 * v
      go (inl q) ih = ih q parts.0
      go (inr q) ih =
          let same : at ≡ n = omega (arith, q, k) in
          ltb-true l (2 * v) (and_parts _ _ (sym (ap (allotted v) (sym (ap (literal_at t cases marks) same) ∙ e)) ∙ parts.1)).0

  -- a literal that was not written has no room, or more than 16 bits
  pub no_room : (at n l len : ℕ) (memory : List ℕ) → Written at memory len → at < n → literal_at t cases marks at ≡ l ∷ []
      → length memory ≤ len → length (off goal ∷ literals_below t cases marks n) ≤ length memory → ⊥
  no_room at n l len memory w k e full long =
      let within = w.within in
      let a = length-take-le len memory within in
      let b = ap length w.is in
      let part = part_long at n l k e in
      omega (arith, a, b, part, full, long)

  pub too_wide : (at n l : ℕ) → at < n → literal_at t cases marks at ≡ l ∷ [] → 65536 ≤ l
      → allotted 32768 (off goal ∷ literals_below t cases marks n) ≡ true → ⊥
  too_wide at n l k e wide all =
      let low = part_named 32768 at n l k e (and_parts (ltb (off goal) 65536) (allotted 32768 (literals_below t cases marks n)) all).1 in
      omega (arith, low, wide)

-- the same literals by places
like_places : (p : Problem) (T : Table) (kids : ℕ → ℕ) (i : ℕ) (f : Option ℕ) (o : Option Case) (a c : Maybe ℕ) (ls : List ℕ)
    → maybe f ≡ a → CaseAs p T kids i c o → differing-by-places a c ls ≡ differing f o ++ ls
like_places p T kids i None o a c ls e d = ap (λ x. differing-by-places x c ls) (sym e)
like_places p T kids i (Some v) o a none ls e d =
    ap (λ x. differing-by-places x none ls) (sym e) ∙ sym (ap (λ x. differing (Some v) x ++ ls) d)
like_places p T kids i (Some v) None a (some k) ls e d = absurd d
like_places p T kids i (Some v) (Some x) a (some k) ls e d =
    ap (λ y. differing-by-places y (some k) ls) (sym e) ∙ sym (ap (λ n. off (v + n) ∷ ls) d.0)

module _ (p : Problem) (t : Code) (T : Table) (count : ℕ) (w : Way) (cases : List (Option Case)) (marks : ℕ → Bool)
    (s : Stands p t T count) (d : DecidesAs p t T w cases) where
  at_place : (i : ℕ) (X : Table) → i < length T
      → marked_literals p w marks i (entry_at T i ∷ X) ≡ literal_at t cases marks i ++ marked_literals p w marks (suc i) X
  at_place i X l = go (marked_literals p w marks (suc i) X) (marks i)
    where
      go : (rest : List ℕ) (b : Bool) → cond b (differing-by-places (entry_at T i).first (case_in p w (entry_at T i)) rest) rest
          ≡ cond b (differing (row t i).first (get_or cases i None)) [] ++ rest
      go rest true =
          like_places p T (λ m. (row t m).kids) i (row t i).first (get_or cases i None) (entry_at T i).first (case_in p w (entry_at T i)) rest
          (s.lists.rows i l).opened (d.each i l)
      go rest false = refl

  so_far : (n : ℕ) → n ≤ length T
      → literals_below t cases marks n ++ marked_literals p w marks n (drop n T) ≡ marked_literals p w marks 0 T
  so_far zero l = refl
  so_far (suc n) l =
      let inside : n < length T = omega (arith, l) in
      append_assoc (literals_below t cases marks n) (literal_at t cases marks n) _
      ∙ ap (λ ls. literals_below t cases marks n ++ ls)
      (sym (ap (marked_literals p w marks n) (drop-cons T n (closed_entry (root 0)) inside) ∙ at_place n (drop (suc n) T) inside))
      ∙ so_far n (omega arith)

  pub clause_is : (goal : ℕ) → clause_of t cases marks goal ≡ off goal ∷ marked_literals p w marks 0 T
  clause_is goal =
      let whole = so_far (length T) (omega arith) in
      ap (λ ls. off goal ∷ ls)
      (ap (literals_below t cases marks) s.lists.long
      ∙ sym (append-nil (literals_below t cases marks (length T)))
      ∙ sym (ap (λ X. literals_below t cases marks (length T) ++ marked_literals p w marks (length T) X) (drop-length T)) ∙ whole)

-- no more literals than variables
module _ (p : Problem) (w : Way) (marks : ℕ → Bool) where
  one_each : (f : Maybe ℕ) (x : Entry) (ls : List ℕ)
      → length (differing-by-places f (case_of w (width p x.path) f) ls) ≤ taken_by p x f + length ls
  one_each none x ls = omega arith
  one_each (some a) x ls = go _ refl
    where
      go : (o : Maybe ℕ) → case_of w (width p x.path) (some a) ≡ o → length (differing-by-places (some a) o ls) ≤ width p x.path + length ls
      go none e = omega arith
      go (some c) e = let q = (case_at_says w a (width p x.path) c e).0 in omega (arith, q)

  few_marked : (i : ℕ) (X : Table) → length (marked_literals p w marks i X) ≤ taken p X
  few_marked i [] = omega arith
  few_marked i (x ∷ X) = go (marked_literals p w marks (suc i) X) (marks i) (few_marked (suc i) X)
    where
      go : (rest : List ℕ) (b : Bool) → length rest ≤ taken p X
          → length (cond b (differing-by-places x.first (case_in p w x) rest) rest) ≤ taken_by p x x.first + taken p X
      go rest true ih = let q = one_each x.first x rest in omega (arith, q, ih)
      go rest false ih = omega (arith, ih)

  pub few : (t : Code) (T : Table) (count goal : ℕ) → Stands p t T count → goal < length p.goals
      → length (off goal ∷ marked_literals p w marks 0 T) ≤ count
  few t T count goal s l =
      let q = few_marked 0 T in
      let full = s.full in
      omega (arith, q, full, l)

  -- all of them allotted
  each_named : (v : ℕ) (f : Maybe ℕ) (x : Entry) (ls : List ℕ) → ((a : ℕ) → f ≡ some a → a + width p x.path ≤ v) → allotted v ls ≡ true
      → allotted v (differing-by-places f (case_of w (width p x.path) f) ls) ≡ true
  each_named v none x ls h e = e
  each_named v (some a) x ls h e = go _ refl
    where
      go : (o : Maybe ℕ) → case_of w (width p x.path) (some a) ≡ o → allotted v (differing-by-places (some a) o ls) ≡ true
      go none q = e
      go (some c) q =
          let k = (case_at_says w a (width p x.path) c q).0 in
          let l = h a refl in
          allotted_cons v (off (a + c)) ls (omega (arith, k, l)) e

  marked_named : (v i : ℕ) (X : Table) → ((j : ℕ) → j < length X → (a : ℕ) → (entry_at X j).first ≡ some a → a + width p (entry_at X j).path ≤ v)
      → allotted v (marked_literals p w marks i X) ≡ true
  marked_named v i [] h = refl
  marked_named v i (x ∷ X) h = go (marked_literals p w marks (suc i) X) (marks i) (marked_named v (suc i) X (λ j l. h (suc j) (omega (arith, l))))
    where
      go : (rest : List ℕ) (b : Bool) → allotted v rest ≡ true → allotted v (cond b (differing-by-places x.first (case_in p w x) rest) rest) ≡ true
      go rest true ih = each_named v x.first x rest (h 0 (omega arith)) ih
      go rest false ih = ih

  pub named : (t : Code) (T : Table) (count goal : ℕ) → Stands p t T count → goal < length p.goals
      → allotted count (off goal ∷ marked_literals p w marks 0 T) ≡ true
  named t T count goal s l =
      let k = s.tabled.switches in
      allotted_cons count (off goal) _ (omega (arith, k, l))
      (marked_named count 0 T
      (λ j m a e. (s.tabled.variables (entry_at T j).path a (opening_entry T (entry_at T j) s.tabled.distinct (entry_in T j m) ∙ e)).1))

pub fits : (p : Problem) (t : Code) (T : Table) (count : ℕ) (w : Way) (cases : List (Option Case)) (marks : ℕ → Bool)
    → Stands p t T count → DecidesAs p t T w cases → (goal room : ℕ) → goal < length p.goals → count ≤ 32768 → count ≤ room
    → (length (clause_of t cases marks goal) ≤ room) × (allotted 32768 (clause_of t cases marks goal) ≡ true)
fits p t T count w cases marks s d goal room l small roomy =
    let same = clause_is p t T count w cases marks s d goal in
    let long = few p w marks t T count goal s l in
    let size = ap length same in (
      omega (arith, long, size, roomy),
      ap (allotted 32768) same ∙ allotted_wide count 32768 (off goal ∷ marked_literals p w marks 0 T) small (named p w marks t T count goal s l),
    )

-- what the chooser makes of the clause
pub recorded : {U : Type 0} (M M' : Meaning) (clause : List ℕ) (r : Result U Fault) → allotted M.count clause ≡ true → Add M M' clause r
    → Recorded M M' clause r
recorded M M' clause (Ok u) named a = (a.fits, extending.by_clause M M' clause a)
recorded M M' clause (Err e) named a = let q = too_few M clause e a.1 named in (q.0, a.0, q.1)

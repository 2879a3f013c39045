-- The problem's own unknowns, at level 1, stand for the first table. Assumes nothing.
use Rattle.std.proofs.Common.{◌≡◌, ℕ, zero, suc, ◌+◌, ◌<◌, true, map, length, get_or, sym, refl, ap, ◌∙◌, subst, arith}
use Rattle.std.proofs.lemmas.List.{get_or-map}
use Rattle.syntax.specs.Problems.{Problem, sig_of}
use Rattle.judging.specs.Paths.{root, type_of}
use Rattle.finder.specs.Levels.{measures, level}
use Rattle.finder.specs.Tables.{Entry, first_table, roots_from, closed_entry}
use Rattle.finder.proofs.Invariant.{begins_sound}
use Rattle.depths.proofs.Finding.{not_none}
use Rattle.finder.proofs.Tables.{roots_unopened}
use Rattle.places.specs.Places.{at, entry_at}
use Rattle.places.proofs.Openings.{roots_length, roots_at, begins_placed}
use Rattle.unknowns.specs.declared.table.Table.{Table as Code}
use Rattle.unknowns.specs.Listing.{blank, row, Row, Stands, taken}
use Rattle.unknowns.specs.Opening.{rows_of, unopened}
use Rattle.unknowns.proofs.Rows.{row_of}

entry_from : (k n i : ℕ) → i < n → entry_at (roots_from k n) i ≡ closed_entry (root (k + i))
entry_from k zero i l = absurd (omega (arith, l))
entry_from k (suc n) zero l = ap (λ x. closed_entry (root x)) (omega arith)
entry_from k (suc n) (suc i) l = entry_from (suc k) n i (omega (arith, l)) ∙ ap (λ x. closed_entry (root x)) (omega arith)

none_taken : (p : Problem) (k n : ℕ) → taken p (roots_from k n) ≡ 0
none_taken p k zero = refl
none_taken p k (suc n) = let ih = none_taken p (suc k) n in omega (arith, ih)

pub begins : (p : Problem) (t : Code) → t.len ≡ length p.unknowns → rows_of t ≡ map (unopened 1) p.unknowns → Stands p t (first_table p) (length p.goals)
begins p t long is =
    record {
      lists = record {
        long = long ∙ sym (roots_length 0 n);
        rows = λ i l. row_here i (omega (arith, l, roots_length 0 n));
        placed = record {
          roots_first = (begins_placed p).roots_first;
          kids_placed = λ i a c j l e. not_none (roots_unopened 0 n (at (first_table p) i)) e;
        };
      };
      tabled = (begins_sound p (λ w. true) (λ w. refl)).tabled;
      full = (let none_yet = none_taken p 0 n in omega (arith, none_yet));
    }
  where
    n : ℕ
    n = length p.unknowns

    row_here : (i : ℕ) → i < n → Row p (first_table p) i (row t i)
    row_here i l =
        subst (Row p (first_table p) i) (sym is_row)
        (record {
          typed = ap (type_of (sig_of p)) (sym here);
          levelled = ap (λ u. level p (measures p) u) (sym here);
          opened = sym (ap (λ (x : Entry). x.first) (entry_from 0 n i l));
          low = omega arith;
          ahead = λ a e. cc;
        })
      where
        here : at (first_table p) i ≡ root i
        here = roots_at 0 n i l ∙ ap root (omega arith)

        is_row : row t i ≡ unopened 1 (get_or p.unknowns i 0)
        is_row = row_of t i (omega (arith, l, long)) ∙ ap (λ xs. get_or xs i blank) is ∙ get_or-map (unopened 1) p.unknowns i 0 blank l

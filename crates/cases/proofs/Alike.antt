-- The unknowns that cases decide are those of the table by its places, as far as judging asks.
use Rattle.std.proofs.Common.{◌≡◌, ℕ, zero, suc, ◌+◌, ◌-◌, min, List, map, slice_index_or, Some, None, Option, refl, sym, ap, ◌∙◌, subst, arith}
use mathlib.Core.Option.{Option as Maybe, none, some}
use Rattle.syntax.specs.Problems.{Problem}
use Rattle.judging.specs.Judging.{Unknowns}
use Rattle.judging.specs.Asked.{◌∈◌, Asked, asked_root, asked_kid, Alike}
use Rattle.judging.specs.Names.{Names}
use Rattle.finder.specs.Tables.{cases_at, arity, Table}
use Rattle.finder.specs.Ways.{Way, decided}
use Rattle.places.specs.Places.{at, entry_at, offset, from, case_in, places}
use Rattle.places.proofs.Places.{kid_at, in_range, places_name}
use Rattle.unknowns.specs.Listing.{row, Stands, CaseAs, DecidesAs}
use Rattle.unknowns.specs.declared.table.Table.{Table as Code}
use Rattle.unknowns.specs.declared.table.Case.{Case}
use Rattle.cases.specs.Cases.{children, constructor_of, by_cases}
use Rattle.cases.proofs.Rows.{few}

module _ (p : Problem) (t : Code) (T : Table) (count : ℕ) (w : Way) (cases : List (Option Case)) (stands : Stands p t T count)
    (decides : DecidesAs p t T w cases) where
  abbrev kids : ℕ → ℕ
  kids m = (row t m).kids

  abbrev K : Unknowns ℕ
  K = places p T kids w

  constructor_same : (i : ℕ) (o : Maybe ℕ) (x : Option Case) → CaseAs p T kids i o x → constructor_of x ≡ o
  constructor_same i none x e = ap constructor_of e
  constructor_same i (some c) None e = elim e [ ]
  constructor_same i (some c) (Some x) e = ap some e.0

  -- sixteen bits hold every place of the table
  all_held : (i c n k m : ℕ) → case_in p w (entry_at T i) ≡ some c → n ≡ m → k ≡ kids i + offset (cases_at p (at T i)) c
      → m ≡ arity p (at T i) c → min (k + n) 65535 - k ≡ m
  all_held i c n k zero e is at_ many = omega (arith, is)
  all_held i c n k (suc m) e is at_ many =
      let inside = (kid_at p T count kids w stands.tabled stands.lists.placed i c m e (omega (arith, many))).0 in
      let most = few p t T count w stands in
      omega (arith, is, at_, inside, most)

  kids_same : (i c : ℕ) (x : Option Case) → case_in p w (entry_at T i) ≡ some c → CaseAs p T kids i (some c) x → K.kids i c ≡ children x
  kids_same i c None e is = elim is [ ]
  kids_same i c (Some x) e is =
      sym (ap (from x.kids) (all_held i c x.count x.kids (arity p (at T i) c) e is.1 is.2 refl)
      ∙ ap (λ (k : ℕ). from k (arity p (at T i) c)) is.2)

  pub cases_alike : Alike p K (by_cases cases)
  cases_alike =
      record {
        at_roots = λ k l. refl;
        at_kids = λ i c a e.
            let here = decides.each i (in_range p T count kids w stands.tabled stands.lists.placed a) in
            kids_same i c _ e (subst (λ (o : Maybe ℕ). CaseAs p T kids i o (slice_index_or cases i None)) e here);
        at_chosen = λ i a.
            constructor_same i _ _ (decides.each i (in_range p T count kids w stands.tabled stands.lists.placed a));
      }

  -- what judging by cases asks for, judging by places asks for
  pub asked_by_places : {i : ℕ} → Asked p (by_cases cases) i → Asked p K i
  asked_by_places (asked_root l) = asked_root l
  asked_by_places (asked_kid {u = u} {v = v} {c = c} a e m) =
      let b = asked_by_places a in
      let f = sym (cases_alike.at_chosen u b) ∙ e in
      asked_kid b f (subst (λ us. v ∈ us) (sym (cases_alike.at_kids u c b f)) m)

  -- so the places of the cases name the paths of the table
  pub cases_name : Names p (by_cases cases) (at T) (decided p T w)
  cases_name =
      let n = places_name p T count kids w stands.tabled stands.lists.placed in
      record {
        at_roots = n.at_roots;
        at_kids = λ i c a e.
            let b = asked_by_places a in
            let f = sym (cases_alike.at_chosen i b) ∙ e in
            ap (map (at T)) (sym (cases_alike.at_kids i c b f)) ∙ n.at_kids i c b f;
        at_chosen = λ i a.
            let b = asked_by_places a in
            n.at_chosen i b ∙ sym (cases_alike.at_chosen i b);
      }

-- The calls of a chooser extend it, one after another. Assumes nothing.
use Rattle.std.proofs.Common.{ℕ, ◌+◌, ◌&&◌, List, [], ◌∷◌, ◌++◌, sym, refl, ap, ◌∙◌, arith}
use Rattle.std.proofs.Math.Bool.{and_assoc, and-true}
use Rattle.chooser.specs.Ways.{lit, some as any}
use Rattle.chooser.specs.Meaning.{Meaning, Same}
use Rattle.chooser.specs.Steps.{Grown, Added}
use Rattle.finder.specs.Clauses.{all_met, Extended, Extending}
use Rattle.finder.proofs.Clauses.{all_met_join, entries_join}

pub same_self : {M : Meaning} → Same M M
same_self = record { counts = refl; rooms = refl; leaves = refl; allows = λ w. refl }

by_asking : (M M' : Meaning) → Same M M' → Extended M M' 0 []
by_asking M M' s =
    let c = s.counts in
    let r = s.rooms in
    let l = s.leaves in
    record {
      counts = omega (arith, c);
      rooms = omega (arith, r);
      shrinks = omega (arith, l);
      spends = omega (arith, l);
      allows = λ w. s.allows w ∙ sym (and-true (M.ways w));
    }

by_variable : (M M' : Meaning) (v : ℕ) → Grown M M' v → Extended M M' 1 []
by_variable M M' v s =
    let l = s.leaves in
    record {
      counts = s.counts;
      rooms = s.rooms;
      shrinks = omega (arith, l);
      spends = omega (arith, l);
      allows = λ w. s.allows w ∙ sym (and-true (M.ways w));
    }

by_clause : (M M' : Meaning) (c : List ℕ) → Added M M' c → Extended M M' 0 (c ∷ [])
by_clause M M' c s =
    let k = s.counts in
    let r = s.rooms in
    let l = s.spends in
    record {
      counts = omega (arith, k);
      rooms = omega (arith, r);
      shrinks = s.shrinks;
      spends = omega (arith, l);
      allows = λ w. s.allows w ∙ ap (λ b. M.ways w && b) (sym (and-true (any (lit w) c)));
    }

one_by_one : (M M₁ M₂ : Meaning) (m m' : ℕ) (cs cs' : List (List ℕ)) → Extended M M₁ m cs → Extended M₁ M₂ m' cs'
    → Extended M M₂ (m + m') (cs ++ cs')
one_by_one M M₁ M₂ m m' cs cs' s t =
    let c = s.counts in
    let c' = t.counts in
    let r = s.rooms in
    let r' = t.rooms in
    let l = s.shrinks in
    let l' = t.shrinks in
    let e = s.spends in
    let e' = t.spends in
    let j = entries_join cs cs' in
    record {
      counts = omega (arith, c, c');
      rooms = omega (arith, r, r');
      shrinks = omega (arith, l, l');
      spends = omega (arith, e, e', j);
      allows = λ w.
          t.allows w ∙ ap (λ b. b && all_met w cs') (s.allows w) ∙ and_assoc (M.ways w) (all_met w cs) (all_met w cs')
          ∙ ap (λ b. M.ways w && b) (sym (all_met_join w cs cs'));
    }

pub extending : Extending
extending = record { by_asking = by_asking; by_variable = by_variable; by_clause = by_clause; one_by_one = one_by_one }

-- The reading of a byte, as the check's loop has it. Assumes nothing.
use Rattle.std.proofs.Common.{◌≡◌, ℕ, ◌+◌, ◌<◌, ◌≤◌, cond, List, [], ◌∷◌, ◌++◌, length, get_or, drop, Some, None, Ok, Err, Option, Result, MatchResult, subst, sym, refl, ap, ◌∙◌, arith}
use Rattle.std.proofs.lemmas.List.{at_drop_more, at_drop_all}
use Rattle.std.specs.Option.{ok_or}
use Rattle.std.specs.Result.{result_or}
use Rattle.syntax.specs.declared.faults.Fault.{Fault}
use Rattle.syntax.specs.declared.faults.Reason.TheVariants.{BadTerm}
use Rattle.syntax.specs.Faults.{fault}
use Rattle.syntax.specs.Terms.{Terms}
use Rattle.syntax.specs.Typing.{Sig}
use Rattle.reading.specs.Reading.{Item, asked, made, reads, first_read, verdict}
use Rattle.terms.specs.Tasks.{Stops, Moves}

-- what holds of a value, where another error may stand for the error
pub by_ok : {A D E : Type 0} (P : A → Type 0) (Q : D → Type 0) (r : Result A D) (e : E) (x : A) → result_or r (Err e) ≡ Ok x → MatchResult r P Q → P x
by_ok P Q (Err d) e x q m = absurd (cc)
by_ok P Q (Ok y) e x q m = let same : y ≡ x = cc in subst P same m

pub some_by_ok : {A E : Type 0} (o : Option A) (e : E) (x : A) → ok_or o e ≡ Ok x → o ≡ Some x
some_by_ok None e x q = absurd (cc)
some_by_ok (Some y) e x q = cc

pub none_by_err : {A E : Type 0} (o : Option A) (e f : E) → ok_or o e ≡ Err f → (o ≡ None) × (f ≡ e)
none_by_err None e f q = (refl, cc)
none_by_err (Some y) e f q = absurd (cc)

abbrev pub answer : Result Terms ℕ → Result (Unit {0}) Fault
answer r = verdict (first_read r)

abbrev pub refused_at : ℕ → Result (Unit {0}) Fault
refused_at p = Err (fault BadTerm p)

answer_made : (i : Item) (b k : ℕ) (r : Result Terms ℕ) → answer (made i b k r) ≡ answer r
answer_made i b k (Ok ts) = refl
answer_made i b k (Err p) = refl

refused : (sig : Sig) (is : List Item) (b : ℕ) (bs : List ℕ) (p : ℕ) → Stops sig is b → answer (reads sig is (b ∷ bs) p) ≡ refused_at p
refused sig [] b bs p m = refl
refused sig (i ∷ is) b bs p m = ap (λ t. answer (cond t (made i b (length (asked sig i b)) (reads sig (asked sig i b ++ is) bs (p + 1))) (Err p))) m

module _ (sig : Sig) (bytes : List ℕ) (base p : ℕ) (is : List Item) where
  -- what is answered where these items are left at the place q of the bytes
  abbrev pub Out : List Item → ℕ → Result (Unit {0}) Fault
  Out js q = answer (reads sig js (drop q bytes) (base + q))

  pub goes_on : (is' : List Item) → p < length bytes → Moves sig is (get_or bytes p 0) is' → Out is p ≡ Out is' (p + 1)
  goes_on is' h m =
      let b = get_or bytes p 0 in
      let bs = drop (p + 1) bytes in
      let i = m.top in
      let next : base + p + 1 ≡ base + (p + 1) = omega arith in
      at_drop_more (λ xs. answer (reads sig is xs (base + p))) bytes p 0 h
      ∙ ap (λ js. answer (reads sig js (b ∷ bs) (base + p))) m.first
      ∙ ap (λ t. answer (cond t (made i b (length (asked sig i b)) (reads sig (asked sig i b ++ m.others) bs (base + p + 1))) (Err (base + p)))) m.good
      ∙ answer_made i b (length (asked sig i b)) (reads sig (asked sig i b ++ m.others) bs (base + p + 1))
      ∙ ap (λ js. answer (reads sig js bs (base + p + 1))) (sym m.then)
      ∙ ap (λ q. answer (reads sig is' bs q)) next

  pub halts : p < length bytes → Stops sig is (get_or bytes p 0) → Out is p ≡ refused_at (base + p)
  halts h m =
      at_drop_more (λ xs. answer (reads sig is xs (base + p))) bytes p 0 h
      ∙ refused sig is (get_or bytes p 0) (drop (p + 1) bytes) (base + p) m

  pub ends : length bytes ≤ p → is ≡ [] → Out is p ≡ Ok tt
  ends h e =
      at_drop_all (λ xs. answer (reads sig is xs (base + p))) bytes p h
      ∙ ap (λ js. answer (reads sig js [] (base + p))) e

  -- bytes are missing
  pub lacks : length bytes ≤ p → (i : Item) (js : List Item) → is ≡ i ∷ js → Out is p ≡ refused_at (base + p)
  lacks h i js e =
      at_drop_all (λ xs. answer (reads sig is xs (base + p))) bytes p h
      ∙ ap (λ zs. answer (reads sig zs [] (base + p))) e

-- Where the parts of a written model stand in its bytes: the values of the problem's unknowns where reading puts them, and the
-- arguments of what is built one after another behind it.
use Rattle.std.proofs.Common.{◌≡◌, ℕ, zero, suc, ◌+◌, ◌<◌, ◌≤◌, Bool, cond, List, [], ◌∷◌, ◌++◌, length, get_or, drop, Ok, Err, Result, refl, ap, ◌∙◌, arith, append_assoc, length-drop}
use Rattle.std.proofs.lemmas.Bool.{le-ltb}
use mathlib.Core.Option.{some}
use Rattle.syntax.specs.declared.faults.Fault.{Fault}
use Rattle.syntax.specs.declared.faults.Reason.TheVariants.{BytesAfter}
use Rattle.syntax.specs.Faults.{fault}
use Rattle.syntax.specs.Typing.{Sig}
use Rattle.finder.specs.Models.{Partial, Partials, o[], ◌o∷◌, nth_partial}
use Rattle.model.specs.Partial.{OfType, OfTypes, all_written, encode_from}
use Rattle.records.specs.Reading.{and_then}
use Rattle.model.specs.Reading.{value_end, preceded, places_from}
use Rattle.model.specs.Places.{or_stay, starts_from}
use Rattle.ends.proofs.Ending.{past_part}
use Rattle.model.proofs.Exactness.{value_complete, start_complete}
use Rattle.models.specs.Models.{part, parts, written_value}

module _ (sig : Sig) (bs : List ℕ) where
  -- the value q of the type t stands at a place
  pub record Site (t place : ℕ) (q : Partial) : Type 0 where
    pub typed : OfType sig t (part q)
    pub rest : List ℕ
    pub is : drop place bs ≡ written_value sig t q ++ rest

  -- value number j of a row stands at its place
  pub record SiteIn (ts : List ℕ) (qs : Partials) (places : List ℕ) (j : ℕ) : Type 0 where
    pub value : Partial
    pub there : nth_partial qs j ≡ some value
    pub site : Site (get_or ts j 0) (get_or places j 0) value

  abbrev pub Sited : List ℕ → Partials → List ℕ → Type 0
  Sited ts qs places = (j : ℕ) → j < length ts → SiteIn ts qs places j

  one_more : (t : ℕ) (ts : List ℕ) (q : Partial) (qs : Partials) (place : ℕ) (places : List ℕ) → Site t place q → Sited ts qs places
      → Sited (t ∷ ts) (q o∷ qs) (place ∷ places)
  one_more t ts q qs place places s f zero l = record { value = q; there = refl; site = s }
  one_more t ts q qs place places s f (suc j) l =
      let r = f j (omega (arith, l)) in record { value = r.value; there = r.there; site = r.site }

  pub arguments_sited : (ts : List ℕ) (qs : Partials) (p : ℕ) (rest : List ℕ) → OfTypes sig ts (parts qs)
      → drop p bs ≡ all_written sig ts (parts qs) ++ rest → Sited ts qs (starts_from sig bs ts p)
  arguments_sited [] qs p rest typed h = λ j l. absurd (omega (arith, l))
  arguments_sited (t ∷ ts) o[] p rest typed h = absurd typed
  arguments_sited (t ∷ ts) (q o∷ qs) p rest typed h =
      let whole = h ∙ append_assoc (written_value sig t q) (all_written sig ts (parts qs)) rest in
      let end = value_complete sig bs (part q) (length bs) 0 t p (all_written sig ts (parts qs) ++ rest) typed.0 whole (omega arith) in
      let next = past_part bs p (written_value sig t q) (all_written sig ts (parts qs) ++ rest) whole in
      one_more t ts q qs p (starts_from sig bs ts (or_stay p (value_end (length bs) sig bs 0 t p)))
      (record { typed = typed.0; rest = all_written sig ts (parts qs) ++ rest; is = whole })
      (arguments_sited ts qs (or_stay p (value_end (length bs) sig bs 0 t p)) rest typed.1 (ap (λ r. drop (or_stay p r) bs) end ∙ next))

  -- the records are read, and their values are where they are read
  pub record Read (k : ℕ) (ts : List ℕ) (qs : Partials) (p : ℕ) : Type 0 where
    pub roots : List ℕ
    pub reads : places_from sig bs k ts p ≡ Ok roots
    pub sited : Sited ts qs roots

  pub records_read : (ts : List ℕ) (qs : Partials) (k p : ℕ) → OfTypes sig ts (parts qs) → drop p bs ≡ encode_from sig k ts (parts qs)
      → Read k ts qs p
  records_read [] o[] k p typed h =
      let long = length-drop p bs in
      let same = ap length h in
      let none : length bs ≤ p = omega (arith, same, long) in
      record {
        roots = [];
        reads = ap (λ (b : Bool). cond b (Err (fault BytesAfter p)) (Ok [])) (le-ltb p (length bs) none);
        sited = λ j l. absurd (omega (arith, l));
      }
  records_read [] (q o∷ qs) k p typed h = absurd typed
  records_read (t ∷ ts) o[] k p typed h = absurd typed
  records_read (t ∷ ts) (q o∷ qs) k p typed h =
      let rest : List ℕ = encode_from sig (k + 1) ts (parts qs) in
      let start = start_complete sig bs k p (written_value sig t q ++ rest) h in
      let end : ℕ = p + 3 + length (written_value sig t q) in
      let value = value_complete sig bs (part q) (length bs) p t (p + 3) rest typed.0 start.1 (omega arith) in
      let later = records_read ts qs (k + 1) end typed.1 (past_part bs (p + 3) (written_value sig t q) rest start.1) in
      record {
        roots = (p + 3) ∷ later.roots;
        reads =
            ap (λ (r : Result ℕ Fault). and_then r (λ v. and_then (value_end (length bs) sig bs p t v) (λ e. preceded v (places_from sig bs (k + 1) ts e)))) start.0
            ∙ ap (λ (r : Result ℕ Fault). and_then r (λ e. preceded (p + 3) (places_from sig bs (k + 1) ts e))) value
            ∙ ap (preceded (p + 3)) later.reads;
        sited = one_more t ts q qs (p + 3) later.roots (record { typed = typed.0; rest = rest; is = start.1 }) later.sited;
      }

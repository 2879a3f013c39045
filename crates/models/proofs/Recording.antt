-- The records of the problem's unknowns, one after another.
use Rattle.std.proofs.Common.{◌≡◌, ℕ, ◌+◌, ◌<◌, ◌≤◌, List, [], ◌∷◌, ◌++◌, length, Ok, Err, Option, Result, sym, ap, ◌∙◌, subst, arith, append_assoc, append-nil, length-append}
use Rattle.syntax.specs.Typing.{Sig}
use Rattle.syntax.specs.Problems.{Problem, sig_of, Lawful}
use Rattle.judging.specs.Paths.{root, Decision, type_of}
use Rattle.finder.specs.Tables.{Table}
use Rattle.finder.specs.Ways.{Way, decided}
use Rattle.finder.specs.Models.{Partials, Shows, ModelOf}
use Rattle.unknowns.specs.Listing.{Stands}
use Rattle.unknowns.specs.declared.table.Table.{Table as Code}
use Rattle.unknowns.specs.declared.table.Case.{Case}
use Rattle.models.specs.Models.{written_value, written_model, most_bytes, Wrote, WritesModel}
use Rattle.models.specs.Walks.{ValueAt, bytes_of, Appended, ValueWritten, ModelAt}
use Rattle.models.proofs.Existence.{model_exists}
use Rattle.models.proofs.Rows.{records_left, next_record, no_records}
use Rattle.models.proofs.Bound.{model_low}

-- a model has room, as a problem has at most 16 unknowns and a table 512
pub fits : (p : Problem) (lawful : Lawful p) (t : Code) (T : Table) (count : ℕ) (w : Way) (qs : Partials) → Stands p t T count
    → ModelOf p (decided p T w) qs → length (written_model p qs) ≤ most_bytes
fits p lawful t T count w qs stands shown =
    let low = model_low p T count w qs stands.tabled shown in
    let few = lawful.few_unknowns in
    let long = stands.lists.long in
    let most = t.few in
    omega (arith, low, few, long, most)

module _ {p : Problem} {t : Code} {cases : List (Option Case)} (m : ModelAt p t cases) where
  abbrev sig : Sig
  sig = sig_of p

  abbrev δ : Decision
  δ = decided p m.table m.way

  -- the bytes of the records from number k on
  abbrev pub left : ℕ → List ℕ
  left k = records_left sig δ p.unknowns m.partials k

  pub root_at : (k : ℕ) → k < length p.unknowns
      → (v : ValueAt t cases k) × (left k ≡ 0x4D ∷ (0x44 ∷ (k ∷ (bytes_of v ++ left (k + 1)))))
  root_at k l =
      let r = next_record sig δ root p.unknowns m.partials m.shows k l in
      let there = m.stands.lists.placed.roots_first k l in (
        record {
          problem = p;
          table = m.table;
          count = m.count;
          way = m.way;
          stands = m.stands;
          decides = m.decides;
          inside = there.0;
          partial = r.0;
          shows = subst (λ u. Shows sig δ u (type_of sig u) r.0) (sym there.1) r.1;
        },
        r.2 ∙ ap (λ u. 0x4D ∷ (0x44 ∷ (k ∷ (written_value sig (type_of sig u) r.0 ++ left (k + 1))))) (sym there.1),
      )

  pub no_more : (k : ℕ) → length p.unknowns ≤ k → left k ≡ []
  no_more k l = no_records sig δ root p.unknowns m.partials m.shows k l

-- With the records before number k written: the bytes so far, and those that are left, are the whole.
pub record Recorded (p : Problem) (t : Code) (cases : List (Option Case)) (now : List ℕ) (k : ℕ) : Type 0 where
  pub whole : (m : ModelAt p t cases) → now ++ left m k ≡ written_model p m.partials

module _ {p : Problem} (lawful : Lawful p) {t : Code} {cases : List (Option Case)} (now : List ℕ) (k : ℕ) (recorded : Recorded p t cases now k)
    (l : k < length p.unknowns) where
  abbrev value : ModelAt p t cases → ValueAt t cases k
  value m = (root_at m k l).0

  record_fits : (m : ModelAt p t cases) → length now + 3 + length (bytes_of (value m)) ≤ most_bytes
  record_fits m =
      let sum = ap length (recorded.whole m) in
      let split = ap length (root_at m k l).1 in
      let a = length-append now (left m k) in
      let b = length-append (bytes_of (value m)) (left m (k + 1)) in
      let low = fits p lawful t m.table m.count m.way m.partials m.stands m.shows in
      omega (arith, sum, split, a, b, low)

  pub mark_fits : ModelAt p t cases → length now + 3 ≤ most_bytes
  mark_fits m = let all = record_fits m in omega (arith, all)

  module _ (mid : List ℕ) (marked : mid ≡ now ++ 0x4D ∷ (0x44 ∷ (k ∷ []))) where
    value_writes : {U E : Type 0} (new : List ℕ) (r : Result U E) → ValueWritten t cases k mid new r → (m : ModelAt p t cases)
        → Appended (bytes_of (value m)) mid new r
    value_writes new r written m =
        let all = record_fits m in
        let size = ap length marked in
        let a = length-append now (0x4D ∷ (0x44 ∷ (k ∷ []))) in
        written.writes (value m) (omega (arith, all, size, a))

    pub value_refused : {U E : Type 0} (new : List ℕ) (e : E) → ValueWritten {U = U} {E = E} t cases k mid new (Err e) → ModelAt p t cases → ⊥
    value_refused {U} {E} new e written m = value_writes {U = U} {E = E} new (Err e) written m

    pub record_written : {U E : Type 0} (new : List ℕ) (u : U) → ValueWritten {U = U} {E = E} t cases k mid new (Ok u) → Recorded p t cases new (k + 1)
    record_written {U} {E} new u written =
        record {
          whole = λ m.
              ap (λ bytes. bytes ++ left m (k + 1)) (value_writes {U = U} {E = E} new (Ok u) written m ∙ ap (λ bytes. bytes ++ bytes_of (value m)) marked)
              ∙ append_assoc (now ++ 0x4D ∷ (0x44 ∷ (k ∷ []))) (bytes_of (value m)) (left m (k + 1))
              ∙ append_assoc now (0x4D ∷ (0x44 ∷ (k ∷ []))) (bytes_of (value m) ++ left m (k + 1))
              ∙ ap (λ bytes. now ++ bytes) (sym (root_at m k l).1)
              ∙ recorded.whole m;
        }

pub all_recorded : {p : Problem} {t : Code} {cases : List (Option Case)} (now : List ℕ) (k : ℕ) → Recorded p t cases now k → length p.unknowns ≤ k
    → (m : ModelAt p t cases) → now ≡ written_model p m.partials
all_recorded now k recorded over m =
    sym (append-nil now) ∙ ap (λ bytes. now ++ bytes) (sym (no_more m k over)) ∙ recorded.whole m

-- what is written of every model of the problem that a way of the cases makes
pub writes_model : {E : Type 0} (p : Problem) (lawful : Lawful p) (t : Code) (cases : List (Option Case)) (old new : List ℕ) (r : Result ℕ E)
    → ((m : ModelAt p t cases) → Wrote (written_model p m.partials) old new r) → WritesModel p t cases old new r
writes_model p lawful t cases old new r f =
    record {
      exists = λ T count w stands. model_exists p t T count w stands;
      low = λ T count w qs stands shows. fits p lawful t T count w qs stands shows;
      writes = λ T count w qs stands decides shows.
          f (record { table = T; count = count; way = w; stands = stands; decides = decides; partials = qs; shows = shows });
    }

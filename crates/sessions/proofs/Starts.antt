-- How a session begins: its switches are all off, and asking first changes nothing. Assumes nothing.
use Rattle.std.proofs.Common.{◌≡◌, ℕ, zero, suc, ◌<◌, ◌≤◌, Bool, true, false, not, ◌&&◌, List, [], ◌∷◌, length, get_or, Some, Ok, Err, Result, refl, sym, ap, ◌∙◌, subst, arith}
use Rattle.std.proofs.lemmas.Bool.{false≢true, ne_eqb, cond-false}
use Rattle.std.proofs.Math.Option.{none-ne-some}
use Rattle.chooser.specs.Meaning.{Meaning, Same}
use Rattle.chooser.specs.Steps.{new_refusal}
use Rattle.chooser.specs.Faults.{fault_number}
use Rattle.chooser.specs.declared.Fault.{Fault}
use Rattle.chooser.specs.declared.Fault.TheVariants.{NoVariable}
use Rattle.syntax.specs.Problems.{Problem, Lawful}
use Rattle.finder.specs.Tables.{first_table}
use Rattle.finder.specs.Clauses.{Extended}
use Rattle.unknowns.specs.Listing.{Stands}
use Rattle.histories.specs.States.{State, begun, start}
use Rattle.histories.specs.Calls.{not_new, too_few, begins}
use Rattle.recording.proofs.Clauses.{no_fault}
use Rattle.rounds.proofs.Turning.{same_same}
use Rattle.sessions.specs.declared.faults.SessionFault.{SessionFault}
use Rattle.sessions.specs.declared.faults.SessionFault.TheVariants.{NotNew, TooFewVariables}
use Rattle.sessions.specs.declared.session.Session.{Session}
use Rattle.sessions.specs.declared.session.Begun.{Begun}
use Rattle.sessions.specs.Shown.{Shows, ShowsBegun}
use Rattle.sessions.specs.Beginning.{IsNew, Began}

-- no goal is in force at first
abbrev pub all_off : List Bool → Bool
all_off [] = true
all_off (b ∷ bs) = not b && all_off bs

pub off_everywhere : (bs : List Bool) → all_off bs ≡ true → (g : ℕ) → get_or bs g false ≡ false
off_everywhere [] e zero = refl
off_everywhere [] e (suc g) = refl
off_everywhere (false ∷ bs) e zero = refl
off_everywhere (false ∷ bs) e (suc g) = off_everywhere bs e g
off_everywhere (true ∷ bs) e g = absurd (false≢true e)

pub shows_start : (p : Problem) (b : Begun) (M : Meaning) → b.goals ≡ length p.goals → all_off b.force ≡ true
    → Stands p b.table (first_table p) (length p.goals) → b.count ≡ length p.goals → b.left ≡ M.left → b.model ≡ false
    → M.count ≡ length p.goals → ShowsBegun b (start p M)
shows_start p b M goals off stands count left model counts =
    record {
      goals = goals;
      force = off_everywhere b.force off;
      stands = subst (Stands p b.table (first_table p)) (sym counts) stands;
      count = count ∙ sym counts;
      left = left;
      model = model;
      decides = λ m e. absurd (none-ne-some m e);
    }

-- what is allotted after asking
pub asked_first : {M M₁ M' : Meaning} {m : ℕ} → Same M M₁ → Extended M₁ M' m [] → Extended M M' m []
asked_first s x =
    let c = s.counts in
    let r = s.rooms in
    let l = s.leaves in
    let c' = x.counts in
    let r' = x.rooms in
    let k = x.shrinks in
    let p = x.spends in
    record {
      counts = omega (arith, c, c');
      rooms = omega (arith, r, r');
      shrinks = omega (arith, l, k);
      spends = omega (arith, l, p);
      allows = λ w. x.allows w ∙ ap (λ b. b && true) (s.allows w);
    }

-- with room left a variable is not refused
pub not_refused : (M : Meaning) (e : Fault) → fault_number e ≡ new_refusal M → 0 < M.room → ⊥
not_refused M e n h = no_fault e (n ∙ cond-false _ _ _ (ne_eqb M.room 0 (λ q. omega (arith, q, h))))

module _ {U : Type 0} {p : Problem} {S : State} {M M₁ : Meaning} {b : Bool} (new : IsNew M b) (same : Same M M₁) where
  pub refused_old : {s' : Session} → b ≡ false → Shows s' S → Began {U = U} p S M s' M₁ (Err NotNew)
  refused_old e h = record { state = S; begins = not_new (subst (IsNew M) e new) same; shows = h }

  pub refused_few : {s' : Session} {M' : Meaning} {r : Result U SessionFault} (n : ℕ) → b ≡ true → n ≡ length p.goals → M₁.room < n
      → Same M₁ M' → r ≡ Err (TooFewVariables NoVariable) → Shows s' S → Began {U = U} p S M s' M' r
  refused_few {s' = s'} {M' = M'} n e k few s is h =
      let new' = subst (IsNew M) e new in
      let rooms = same.rooms in
      subst (Began {U = U} p S M s' M') (sym is)
      (record { state = S; begins = too_few new'.0 new'.1 (omega (arith, k, few, rooms)) (same_same same s); shows = h })

  pub begun_so : {u : U} {M' : Meaning} {left : ℕ} (x : Begun) (n : ℕ) → Lawful p → b ≡ true → n ≡ length p.goals → n ≤ M₁.room
      → Extended M₁ M' n [] → left ≡ M'.left
      → ((N : Meaning) → N.count ≡ length p.goals → N.left ≡ left → ShowsBegun x (start p N))
      → Began {U = U} p S M (record { begun = Some x }) M' (Ok u)
  begun_so {M' = M'} x n lawful e k fits extends leaves shown =
      let is = subst (IsNew M) e new in
      let none_yet = is.0 in
      let r = same.rooms in
      let more : Extended M M' (length p.goals) [] = subst (λ m. Extended M M' m []) k (asked_first same extends) in
      let counts = more.counts in
      record {
        state = begun (start p M');
        begins = begins lawful is.0 is.1 (omega (arith, k, fits, r)) more;
        shows = shown M' (omega (arith, counts, none_yet)) (sym leaves);
      }

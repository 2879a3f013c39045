-- What the chooser's answers say of what the round asks. Assumes nothing.
use Rattle.std.proofs.Common.{◌≡◌, ℕ, true, List, length, subst, sym, ◌∙◌}
use Rattle.std.proofs.lemmas.Bool.{eq-eqb, cond-true}
use Rattle.chooser.specs.Ways.{lit, every, allotted, written}
use Rattle.chooser.specs.Meaning.{Meaning}
use Rattle.chooser.specs.Steps.{ask_refusal, Answered}
use Rattle.chooser.specs.Faults.{fault_number}
use Rattle.chooser.specs.declared.Fault.{Fault}
use Rattle.chooser.specs.declared.Answer.{Answer}
use Rattle.chooser.specs.declared.Answer.TheVariants.{Yes, No}
use Rattle.finder.specs.Asking.{Picks, Refuses}
use Rattle.recording.proofs.Clauses.{no_fault}

pub picked : (M : Meaning) (ls asked out : List ℕ) (a : Answer) → ls ≡ asked → a ≡ Yes → Answered M ls out a → Picks M asked (written out)
picked M ls asked out a same is h =
    let chosen = subst (Answered M ls out) is h in
    record {
      allowed = chosen.allowed;
      meets = subst (λ v. every (lit (written out)) v ≡ true) same chosen.meets;
    }

pub refused : (M : Meaning) (ls asked out : List ℕ) (a : Answer) → ls ≡ asked → a ≡ No → Answered M ls out a → Refuses M asked
refused M ls asked out a same is h = subst (Refuses M) same (subst (Answered M ls out) is h)

-- no fault, where the literals are allotted and the answer is as long as there are variables
pub answered : (M : Meaning) (ls asked out : List ℕ) (e : Fault) → ls ≡ asked → allotted M.count asked ≡ true → length out ≡ M.count
    → fault_number e ≡ ask_refusal M ls out → ⊥
answered M ls asked out e same named fits n =
    let named' = subst (λ v. allotted M.count v ≡ true) (sym same) named in
    no_fault e (n ∙ cond-true _ _ _ named' ∙ cond-true _ _ _ (eq-eqb (length out) M.count fits))

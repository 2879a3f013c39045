-- What a call that begins with a check tells of the bytes. Assumes nothing.
use Rattle.std.proofs.Common.{◌≡◌, ℕ, true, List, is_ok, Ok, Err, Result, refl, sym, ap, ◌∙◌}
use Rattle.std.proofs.lemmas.Bool.{true≢false, false≢true}
use Rattle.syntax.specs.declared.faults.Fault.{Fault}
use Rattle.syntax.specs.Problems.{Problem as Meaning}
use Rattle.verdict.specs.Verdict.{verdict, problem_in, decoded, checked}
use Rattle.problem.specs.Meant.{meant}
use Rattle.problem.proofs.Lawfulness.{was_accepted}
use Rattle.problem.specs.Taken.{Taken}
use Rattle.problem.specs.declared.problem.Problem.{Problem}
use Rattle.boundary.specs.declared.faults.LoadFault.{LoadFault}
use Rattle.boundary.specs.declared.faults.LoadFault.TheVariants.{BadProblem, NotSearched, NotReplayed, NotTold, NoAnswer, NoMemory}
use Rattle.boundary.specs.Loading.{LoadFailed}
use Rattle.boundary.specs.Texts.{ShowFailed}

pub refused_by : (v : Result Meaning Fault) (f : Fault) → Err f ≡ checked v → v ≡ Err f
refused_by (Ok p) f e = absurd (false≢true (ap is_ok e))
refused_by (Err g) f e = cc

pub accepted_by : (v : Result Meaning Fault) → Ok tt ≡ checked v → is_ok v ≡ true
accepted_by (Ok p) e = refl
accepted_by (Err g) e = absurd (true≢false (ap is_ok e))

pub loaded_so : (bs : List ℕ) (p : Problem) → is_ok (verdict bs) ≡ true → Taken bs p → verdict bs ≡ Ok (meant p)
loaded_so bs p ok t = was_accepted (verdict bs) ok ∙ ap Ok (sym t.means)

pub ok_of : (bs : List ℕ) (p : Problem) → verdict bs ≡ Ok (meant p) → is_ok (verdict bs) ≡ true
ok_of bs p e = ap is_ok e

pub meant_of : (bs : List ℕ) (p : Problem) → verdict bs ≡ Ok (meant p) → meant p ≡ decoded bs
meant_of bs p e = sym (ap problem_in e)

pub show_failed : (bs model before after : List ℕ) (f : LoadFault) → LoadFailed bs f → after ≡ before → ShowFailed bs model before after f
show_failed bs model before after (BadProblem f) h same = (h, same)
show_failed bs model before after (NotSearched f) h same = absurd h
show_failed bs model before after (NotReplayed f) h same = absurd h
show_failed bs model before after (NotTold f) h same = absurd h
show_failed bs model before after NoAnswer h same = absurd h
show_failed bs model before after NoMemory h same = (h, same)

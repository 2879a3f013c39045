-- Bytes are refused or a model, and not both.
use Rattle.std.proofs.Common.{◌≡◌, ℕ, List, Ok, Err, Result, sym, refl, ap, ◌∙◌, arith}
use Rattle.syntax.specs.declared.faults.Fault.{Fault}
use Rattle.syntax.specs.Problems.{Problem}
use Rattle.model.specs.Partial.{Partials, Writes}
use Rattle.model.specs.Reading.{reading}
use Rattle.model.specs.Exact.{ModelIn}
use Rattle.model.proofs.Exactness.{exact}
use Rattle.telling.specs.declared.faults.TellFault.{TellFault}
use Rattle.telling.specs.declared.faults.TellFault.TheVariants.{BadModel}
use Rattle.telling.specs.Told.{Told}
use Rattle.telling.specs.Shown.{model_text, Shown}

not_both : {B : Type 0} (roots : List ℕ) (e : Fault) (r : Result (List ℕ) Fault) → r ≡ Ok roots → r ≡ Err e → B
not_both roots e r ok err = let both : Ok roots ≡ Err e = sym ok ∙ err in let z : ◌≡◌ {A = ℕ} 0 1 = cc in absurd (omega arith)

module _ (p : Problem) (bytes : List ℕ) where
  pub shown_refused : (out : List ℕ) (e : Fault) (r : Result ℕ TellFault) → reading p bytes ≡ Err e → r ≡ Err (BadModel e) → Shown p bytes out out r
  shown_refused out e r refused is = record {
    refused = λ f h.
        let errs : ◌≡◌ {A = Result (List ℕ) Fault} (Err e) (Err f) = sym refused ∙ h in
        let same : e ≡ f = cc in
        (is ∙ ap (λ (x : Fault). Err (BadModel x)) same, refl);
    told = λ ps w. let read = (exact p bytes).1 (record { parts = ps; writes = w }) in not_both read.roots e (reading p bytes) read.reads refused;
  }

  pub shown_told : (before after roots : List ℕ) (r : Result ℕ TellFault) → reading p bytes ≡ Ok roots
      → ((ps : Partials) → Writes p bytes ps → Told (model_text ps) before after r) → Shown p bytes before after r
  shown_told before after roots r read told = record {
    refused = λ e h. not_both roots e (reading p bytes) read h;
    told = told;
  }

  pub model_in : (roots : List ℕ) → reading p bytes ≡ Ok roots → ModelIn p bytes
  model_in roots read = (exact p bytes).0 (record { roots = roots; reads = read })

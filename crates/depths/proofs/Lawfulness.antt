-- The types of a lawful problem have values and are closed: Bool's constructors take nothing, and each declared type's limits say it
-- of its constructors one by one. Assumes nothing.
use Rattle.std.proofs.Common.{ℕ, zero, suc, ◌<◌, List, [], ◌∷◌, length, get_or, arith}
use Rattle.syntax.specs.Typing.{Sig, Declared}
use Rattle.syntax.specs.Problems.{Problem, bool, sig_of, Each, FewTypes, LawfulType, Lawful}
use Rattle.depths.specs.Laws.{Closed, LawfulTypes}

pub each_at : {A : Type 0} (P : A → Type 0) (xs : List A) (d : A) → Each P xs → (i : ℕ) → i < length xs → P (get_or xs i d)
each_at P [] d e i l = absurd (omega (arith, l))
each_at P (x ∷ xs) d e zero l = e.0
each_at P (x ∷ xs) d e (suc i) l = each_at P xs d e.1 i (omega (arith, l))

-- one type: every argument type of its constructors is declared
abbrev ClosedType : Sig → List (List ℕ) → Type 0
ClosedType sig cs = (c j : ℕ) → c < length cs → j < length (get_or cs c []) → Declared sig (get_or (get_or cs c []) j 0)

of_lawful : (sig : Sig) (cs : List (List ℕ)) → LawfulType sig cs → ClosedType sig cs
of_lawful sig cs e c j l m = each_at (Declared sig) (get_or cs c []) 0 (each_at (FewTypes sig) cs [] e.2 c l).1 j m

of_bool : (sig : Sig) → ClosedType sig bool
of_bool sig zero j l m = absurd (omega (arith, m))
of_bool sig (suc zero) j l m = absurd (omega (arith, m))
of_bool sig (suc (suc c)) j l m = absurd (omega (arith, l))

closed : (p : Problem) → Lawful p → Closed (sig_of p)
closed p L zero c j d l m = of_bool (sig_of p) c j l m
closed p L (suc t) c j d l m =
    of_lawful (sig_of p) (get_or p.types t []) (each_at (LawfulType (sig_of p)) p.types [] L.of_types t (omega (arith, d))) c j l m

pub lawful_types : LawfulTypes
lawful_types p L = (L.inhabited, closed p L)

-- Reading the tables through what they stand for. Assumes nothing.
use Rattle.std.proofs.Common.{◌≡◌, ℕ, zero, suc, ◌<◌, List, [], ◌∷◌, map, length, get_or, sym, refl, ap, ◌∙◌, ⊎_elim, arith}
use Rattle.std.proofs.lemmas.List.{length-map, get_or_past}
use Rattle.std.proofs.lemmas.Bool.{cases_lt}
use Rattle.syntax.specs.declared.tables.Datatype.{Datatype}
use Rattle.syntax.specs.Tables.{cases_in}

pub same_length : {X Y Z : Type 0} (f : X → Z) (g : Y → Z) (xs : List X) (ys : List Y) → map f xs ≡ map g ys → length xs ≡ length ys
same_length f g xs ys e = sym (length-map xs f) ∙ ap length e ∙ length-map ys g

-- a part of an entry is the entry of the table of these parts
pub part_at : {X Y Z : Type 0} (g : X → Y) (h : Y → Z) (xs : List X) (i : ℕ) (d : Y) → get_or (map (λ x. h (g x)) xs) i (h d) ≡ h (get_or (map g xs) i d)
part_at g h [] i d = refl
part_at g h (x ∷ xs) zero d = refl
part_at g h (x ∷ xs) (suc i) d = part_at g h xs i d

-- a list with something in it stands in the table
pub inside : {X : Type 0} (xs : List (List X)) (i c : ℕ) → c < length (get_or xs i []) → i < length xs
inside xs i c h =
    ⊎_elim (λ lt. lt)
    (λ le. let none = ap length (get_or_past xs i [] le) in absurd (omega arith))
    (cases_lt i (length xs))

-- the types of the arguments of a constructor that is there
pub type_there : (ds : List Datatype) (tys : List (List (List ℕ))) (t c : ℕ) → map cases_in ds ≡ tys → c < length (get_or tys t []) → t < length ds
type_there ds tys t c e lt = let long = sym (length-map ds cases_in) ∙ ap length e in let low = inside tys t c lt in omega arith

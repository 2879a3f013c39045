-- Terms and the bytes that write them. Assumes nothing.
use Rattle.std.specs.Prelude.{List, [], ◌∷◌, ◌++◌, ℕ}

-- Types, constructors, functions, variables and unknowns are numbers.
-- Type 0 is Bool, whose constructor 0 is false and 1 is true.
infixr 67 ◌t∷◌
mutual
  pub data Term : Type 0 where
    var : ℕ → Term
    unknown : ℕ → Term
    con : (t c : ℕ) → Terms → Term  -- the constructor c of the type t, with its arguments
    call : (f : ℕ) → Terms → Term
    case : (t : ℕ) → Term → Terms → Term  -- the subject, of the type t, and a branch for each constructor in order
    both : Term → Term → Term  -- this and that
    not : Term → Term
    equal : (t : ℕ) → Term → Term → Term  -- of two terms of the type t

  pub data Terms : Type 0 where
    t[] : Terms
    ◌t∷◌ : Term → Terms → Terms

-- A tag, and then the parts one after another.
abbrev mutual
  pub encode : Term → List ℕ
  encode (var v) = 0 ∷ (v ∷ [])
  encode (unknown k) = 1 ∷ (k ∷ [])
  encode (con t c ts) = 2 ∷ (t ∷ (c ∷ encodes ts))
  encode (call f ts) = 3 ∷ (f ∷ encodes ts)
  encode (case t u us) = 4 ∷ (t ∷ (encode u ++ encodes us))
  encode (both a b) = 5 ∷ (encode a ++ encode b)
  encode (not a) = 6 ∷ encode a
  encode (equal t a b) = 7 ∷ (t ∷ (encode a ++ encode b))

  pub encodes : Terms → List ℕ
  encodes t[] = []
  encodes (t t∷ ts) = encode t ++ encodes ts

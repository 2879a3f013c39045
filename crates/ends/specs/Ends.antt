-- Where terms end: the table of ends, and how a part of a term is found by it. Assumes nothing.
use Rattle.std.specs.Prelude.{◌≡◌, ℕ, zero, suc, ◌+◌, ◌-◌, ◌<◌, ◌≤◌, cond, List, [], ◌∷◌, ◌++◌, length, drop, replicate, nat_lt, slice_index, slice_index_or, slice_set}
use Rattle.reading.specs.declared.parts.Tag.{Tag}
use Rattle.reading.specs.declared.parts.Tag.TheVariants.{Variable, Unknown, Constructor, Call, Case, And, Not, Equal, Other}
use Rattle.syntax.specs.Terms.{Term, Terms, var, unknown, con, call, case, both, not, equal, t[], ◌t∷◌, encode}
use Rattle.syntax.specs.Typing.{Sig, Want, want, each_of, branches_of, HasType, arguments, params_of, cases_of}
use Rattle.reading.specs.Reading.{tag_of}

-- where a typed term stands, from the place i on, the table has the place after it
abbrev pub Ends : Sig → List ℕ → List ℕ → ℕ → Type 0
Ends sig bytes next i =
    (p : ℕ) → i ≤ p → (scope : List ℕ) (ty : ℕ) (t : Term) (others : List ℕ) → HasType sig scope t ty
    → drop p bytes ≡ encode t ++ others → slice_index next p ≡ p + length (encode t)

-- the bytes before the first part of a term
abbrev pub head_of : Tag → ℕ
head_of Variable = 2
head_of Unknown = 2
head_of Constructor = 3
head_of Call = 2
head_of Case = 2
head_of And = 1
head_of Not = 1
head_of Equal = 2
head_of Other = 1

-- how many parts it has
abbrev pub parts_of : Sig → Tag → ℕ → ℕ → ℕ
parts_of sig Variable a b = 0
parts_of sig Unknown a b = 0
parts_of sig Constructor a b = length (arguments sig a b)
parts_of sig Call a b = length (params_of sig a)
parts_of sig Case a b = 1 + length (cases_of sig a)
parts_of sig And a b = 2
parts_of sig Not a b = 1
parts_of sig Equal a b = 2
parts_of sig Other a b = 0

-- the place after the term at q, and the place after n terms of which the first stands at q
abbrev pub hop : List ℕ → ℕ → ℕ
hop next q = cond (nat_lt q (length next)) (slice_index next q) q

abbrev pub hops : List ℕ → ℕ → ℕ → ℕ
hops next zero q = q
hops next (suc n) q = hops next n (hop next q)

-- the place after a term at p whose first bytes are a, b and c, from where its parts end
abbrev pub end_by : Sig → List ℕ → ℕ → ℕ → ℕ → ℕ → ℕ
end_by sig next p a b c = hops next (parts_of sig (tag_of a) b c) (p + head_of (tag_of a))

-- the place after the term at p; a missing byte counts as 0
abbrev pub end_at : Sig → List ℕ → List ℕ → ℕ → ℕ
end_at sig bytes next p = end_by sig next p (slice_index bytes p) (slice_index bytes (p + 1)) (slice_index bytes (p + 2))

abbrev pub at_most : ℕ → ℕ → ℕ
at_most n e = cond (nat_lt e n) e n

-- the table with its last k entries filled, each from those after it, and 0 in the others
abbrev pub filled : Sig → List ℕ → ℕ → List ℕ
filled sig bytes zero = replicate (length bytes) 0
filled sig bytes (suc k) =
    slice_set (filled sig bytes k) (length bytes - suc k) (at_most (length bytes) (end_at sig bytes (filled sig bytes k) (length bytes - suc k)))

abbrev pub ends_of : Sig → List ℕ → List ℕ
ends_of sig bytes = filled sig bytes (length bytes)

-- the parts of a term that are terms, what each is to be, and the bytes before the first
abbrev pub parts_in : Term → Terms
parts_in (var v) = t[]
parts_in (unknown k) = t[]
parts_in (con k c ts) = ts
parts_in (call f ts) = ts
parts_in (case k u us) = u t∷ us
parts_in (both a b) = a t∷ b t∷ t[]
parts_in (not a) = a t∷ t[]
parts_in (equal k a b) = a t∷ b t∷ t[]

abbrev pub wants_in : Sig → List ℕ → ℕ → Term → List Want
wants_in sig s ty (var v) = []
wants_in sig s ty (unknown k) = []
wants_in sig s ty (con k c ts) = each_of s (arguments sig k c)
wants_in sig s ty (call f ts) = each_of s (params_of sig f)
wants_in sig s ty (case k u us) = want s k ∷ branches_of s ty (cases_of sig k)
wants_in sig s ty (both a b) = want s 0 ∷ (want s 0 ∷ [])
wants_in sig s ty (not a) = want s 0 ∷ []
wants_in sig s ty (equal k a b) = want s k ∷ (want s k ∷ [])

abbrev pub head_in : Term → ℕ
head_in (var v) = 2
head_in (unknown k) = 2
head_in (con k c ts) = 3
head_in (call f ts) = 2
head_in (case k u us) = 2
head_in (both a b) = 1
head_in (not a) = 1
head_in (equal k a b) = 2

abbrev pub nth : Terms → ℕ → Term
nth t[] j = var 0
nth (t t∷ ts) zero = t
nth (t t∷ ts) (suc j) = nth ts j

-- a typed term stands at q
pub record StandsAt (sig : Sig) (bytes : List ℕ) (q : ℕ) (w : Want) (t : Term) : Type 0 where
  pub others : List ℕ
  pub has : HasType sig w.scope t w.ty
  pub is : drop q bytes ≡ encode t ++ others

-- the part j of a term at p stands j hops after its head
abbrev pub PartsStand : Sig → List ℕ → List ℕ → Type 0
PartsStand sig bytes next =
    (p : ℕ) (w : Want) (t : Term) → StandsAt sig bytes p w t → (j : ℕ) → j < length (wants_in sig w.scope w.ty t)
    → StandsAt sig bytes (hops next j (p + head_in t)) (slice_index_or (wants_in sig w.scope w.ty t) j (want [] 0)) (nth (parts_in t) j)

abbrev pub EndsGiveParts : Type 0
EndsGiveParts =
    (sig : Sig) (bytes next : List ℕ) → Ends sig bytes next 0 → length next ≡ length bytes → PartsStand sig bytes next

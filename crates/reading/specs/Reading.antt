-- The reading of a term, a byte at a time: the term, or the place of the first byte that fails or lacks. Assumes nothing.
use Rattle.std.specs.Prelude.{ℕ, zero, suc, ◌+◌, Bool, true, false, cond, ◌&&◌, List, [], ◌∷◌, ◌++◌, map, length, Ok, Err, Result, ◌==◌, nat_le, nat_lt}
use Rattle.syntax.specs.declared.faults.Fault.{Fault}
use Rattle.syntax.specs.declared.faults.Reason.TheVariants.{BadTerm}
use Rattle.syntax.specs.Faults.{fault}
use Rattle.syntax.specs.Terms.{Term, Terms, var, unknown, con, call, case, both, not, equal, t[], ◌t∷◌}
use Rattle.syntax.specs.Typing.{Sig, Want, want, stands, cases_of, arguments, params_of, result_of, each_of, branches_of}
use Rattle.reading.specs.declared.parts.Tag.{Tag}
use Rattle.reading.specs.declared.parts.Tag.TheVariants.{Variable, Unknown, Constructor, Call, Case, And, Not, Equal, Other}
use Rattle.reading.specs.declared.parts.Part.{Part}
use Rattle.reading.specs.declared.parts.Part.TheVariants.{Start, WhichVariable, WhichUnknown, OwnType, WhichConstructor, WhichFunction, SubjectType, SidesType}

abbrev pub tag_of : ℕ → Tag
tag_of b =
    cond (b == 0) Variable (cond (b == 1) Unknown (cond (b == 2) Constructor (cond (b == 3) Call
    (cond (b == 4) Case (cond (b == 5) And (cond (b == 6) Not (cond (b == 7) Equal Other)))))))

-- An item says what the next bytes are to be: a wanted term, from a part of it on.
pub record Item : Type 0 where
  pub part : Part
  pub want : Want

abbrev pub item : Part → List ℕ → ℕ → Item
item p s ty = record { part = p; want = want s ty }

abbrev pub start : Want → Item
start w = record { part = Start; want = w }

abbrev pub starts : List Want → List Item
starts ws = map start ws

-- may a term of the type ty begin so?
abbrev pub begins : ℕ → Tag → Bool
begins ty Variable = true
begins ty Unknown = true
begins ty Constructor = true
begins ty Call = true
begins ty Case = true
begins ty And = ty == 0
begins ty Not = ty == 0
begins ty Equal = ty == 0
begins ty Other = false

-- may the byte b stand at this part of a term of the type ty, with variables of the types s?
-- No term begins where over 64 variables are in scope.
abbrev pub allows : Sig → Part → List ℕ → ℕ → ℕ → Bool
allows sig Start s ty b = nat_le (length s) 64 && begins ty (tag_of b)
allows sig WhichVariable s ty v = stands s v ty
allows sig WhichUnknown s ty k = stands sig.unknowns k ty
allows sig OwnType s ty t = t == ty
allows sig WhichConstructor s ty c = nat_lt c (length (cases_of sig ty))
allows sig WhichFunction s ty f = nat_lt f (length sig.functions) && result_of sig f == ty
allows sig SubjectType s ty t = nat_lt t (length sig.types)
allows sig SidesType s ty t = nat_lt t (length sig.types)

abbrev pub tag_asks : List ℕ → ℕ → Tag → List Item
tag_asks s ty Variable = item WhichVariable s ty ∷ []
tag_asks s ty Unknown = item WhichUnknown s ty ∷ []
tag_asks s ty Constructor = item OwnType s ty ∷ []
tag_asks s ty Call = item WhichFunction s ty ∷ []
tag_asks s ty Case = item SubjectType s ty ∷ []
tag_asks s ty And = item Start s 0 ∷ (item Start s 0 ∷ [])
tag_asks s ty Not = item Start s 0 ∷ []
tag_asks s ty Equal = item SidesType s ty ∷ []
tag_asks s ty Other = []

-- what has to come after a byte that is allowed
abbrev pub asks : Sig → Part → List ℕ → ℕ → ℕ → List Item
asks sig Start s ty b = tag_asks s ty (tag_of b)
asks sig WhichVariable s ty v = []
asks sig WhichUnknown s ty k = []
asks sig OwnType s ty t = item WhichConstructor s ty ∷ []
asks sig WhichConstructor s ty c = starts (each_of s (arguments sig ty c))
asks sig WhichFunction s ty f = starts (each_of s (params_of sig f))
asks sig SubjectType s ty t = item Start s t ∷ starts (branches_of s ty (cases_of sig t))
asks sig SidesType s ty t = item Start s t ∷ (item Start s t ∷ [])

abbrev pub allowed : Sig → Item → ℕ → Bool
allowed sig i b = allows sig i.part i.want.scope i.want.ty b

abbrev pub asked : Sig → Item → ℕ → List Item
asked sig i b = asks sig i.part i.want.scope i.want.ty b

-- the first of some terms, and the others
abbrev pub first : Terms → Term
first t[] = var 0
first (t t∷ ts) = t

abbrev pub rest : Terms → Terms
rest t[] = t[]
rest (t t∷ ts) = ts

-- the first n of some terms, and the others
abbrev pub front : ℕ → Terms → Terms
front zero ts = t[]
front (suc n) t[] = t[]
front (suc n) (t t∷ ts) = t t∷ front n ts

abbrev pub after : ℕ → Terms → Terms
after zero ts = ts
after (suc n) t[] = t[]
after (suc n) (t t∷ ts) = after n ts

-- the term that a byte makes of the terms that it asked for
abbrev pub tag_makes : Tag → Terms → Term
tag_makes Variable ts = first ts
tag_makes Unknown ts = first ts
tag_makes Constructor ts = first ts
tag_makes Call ts = first ts
tag_makes Case ts = first ts
tag_makes And ts = both (first ts) (first (rest ts))
tag_makes Not ts = not (first ts)
tag_makes Equal ts = first ts
tag_makes Other ts = var 0

abbrev pub makes : Part → ℕ → ℕ → Terms → Term
makes Start ty b ts = tag_makes (tag_of b) ts
makes WhichVariable ty v ts = var v
makes WhichUnknown ty k ts = unknown k
makes OwnType ty t ts = first ts
makes WhichConstructor ty c ts = con ty c ts
makes WhichFunction ty f ts = call f ts
makes SubjectType ty t ts = case t (first ts) (rest ts)
makes SidesType ty t ts = equal t (first ts) (first (rest ts))

abbrev pub made : Item → ℕ → ℕ → Result Terms ℕ → Result Terms ℕ
made i b n (Ok ts) = Ok (makes i.part i.want.ty b (front n ts) t∷ after n ts)
made i b n (Err q) = Err q

-- the terms that the bytes are, one for each item, or the place of the first byte that fails or lacks; p is the first byte's place
abbrev pub reads : Sig → List Item → List ℕ → ℕ → Result Terms ℕ
reads sig [] [] p = Ok t[]
reads sig [] (b ∷ bs) p = Err p
reads sig (i ∷ is) [] p = Err p
reads sig (i ∷ is) (b ∷ bs) p =
    cond (allowed sig i b) (made i b (length (asked sig i b)) (reads sig (asked sig i b ++ is) bs (p + 1))) (Err p)

abbrev pub first_read : Result Terms ℕ → Result Term ℕ
first_read (Ok ts) = Ok (first ts)
first_read (Err p) = Err p

-- the term of the type ty, with variables of the types s, that the bytes are, and nothing after it; p is the first byte's place
abbrev pub reading : Sig → List ℕ → ℕ → ℕ → List ℕ → Result Term ℕ
reading sig s ty p bs = first_read (reads sig (item Start s ty ∷ []) bs p)

-- what a check of the bytes answers
abbrev pub verdict : Result Term ℕ → Result (Unit {0}) Fault
verdict (Ok t) = Ok tt
verdict (Err p) = Err (fault BadTerm p)

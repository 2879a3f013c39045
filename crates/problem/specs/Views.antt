-- What a view shows of the term that stands at its place. Assumes nothing.
use Rattle.std.specs.Prelude.{◌≡◌, ℕ, ◌+◌, ◌<◌, ◌≤◌, cond, List, [], ◌∷◌, length, nat_lt, slice_index}
use Rattle.syntax.specs.Terms.{Term, Terms, var, unknown, con, call, case, both, not, equal, t[], ◌t∷◌}
use Rattle.syntax.specs.Typing.{Sig, Want, want, each_of, branches_of, Declared, constructors, arguments, params_of, result_of, cases_of, Stands}
use Rattle.reading.specs.declared.parts.Tag.{Tag}
use Rattle.reading.specs.declared.parts.Tag.TheVariants as tag
use Rattle.reading.specs.Reading.{tag_of}
use Rattle.ends.specs.Ends.{hop, StandsAt}
use Rattle.problem.specs.declared.view.View.{View}
use Rattle.problem.specs.declared.view.View.TheVariants.{Variable, Unknown, Constructor, Call, Case, And, Not, Equal, Nothing}

-- the view of a term at p with this tag, which the bytes a and b follow
abbrev pub view_by : Sig → List ℕ → ℕ → Tag → ℕ → ℕ → View
view_by sig next p tag.Variable a b = Variable a
view_by sig next p tag.Unknown a b = Unknown a
view_by sig next p tag.Constructor a b = Constructor a b (length (arguments sig a b)) (p + 3)
view_by sig next p tag.Call a b = Call a (length (params_of sig a)) (p + 2)
view_by sig next p tag.Case a b = Case a (p + 2)
view_by sig next p tag.And a b = And (p + 1) (hop next (p + 1))
view_by sig next p tag.Not a b = Not (p + 1)
view_by sig next p tag.Equal a b = Equal (p + 2) (hop next (p + 2))
view_by sig next p tag.Other a b = Nothing

-- the view at p; past the end there is nothing, and a missing byte counts as 0
abbrev pub view_at : Sig → List ℕ → List ℕ → ℕ → View
view_at sig bytes next p =
    cond (nat_lt p (length bytes)) (view_by sig next p (tag_of (slice_index bytes p)) (slice_index bytes (p + 1)) (slice_index bytes (p + 2))) Nothing

-- terms that stand one after another, the first at q
abbrev pub Row : Sig → List ℕ → List ℕ → ℕ → List Want → Terms → Type 0
Row sig bytes next q [] t[] = Unit {0}
Row sig bytes next q (w ∷ ws) t[] = ⊥
Row sig bytes next q [] (t t∷ ts) = ⊥
Row sig bytes next q (w ∷ ws) (t t∷ ts) = StandsAt sig bytes q w t × Row sig bytes next (hop next q) ws ts

-- Each of these says that t, which was wanted as w, is a term of one kind, and where its parts stand.
pub record IsVariable (w : Want) (t : Term) (v : ℕ) : Type 0 where
  pub is : t ≡ var v
  pub known : Stands w.scope v w.ty

pub record IsUnknown (sig : Sig) (w : Want) (t : Term) (k : ℕ) : Type 0 where
  pub is : t ≡ unknown k
  pub known : Stands sig.unknowns k w.ty

pub record IsConstructor (sig : Sig) (bytes next : List ℕ) (w : Want) (t : Term) (ty c arity q : ℕ) : Type 0 where
  pub terms : Terms
  pub is : t ≡ con ty c terms
  pub own : ty ≡ w.ty
  pub known : c < constructors sig ty
  pub counts : arity ≡ length (arguments sig ty c)
  pub row : Row sig bytes next q (each_of w.scope (arguments sig ty c)) terms

pub record IsCall (sig : Sig) (bytes next : List ℕ) (w : Want) (t : Term) (f arity q : ℕ) : Type 0 where
  pub terms : Terms
  pub is : t ≡ call f terms
  pub known : f < length sig.functions
  pub gives : result_of sig f ≡ w.ty
  pub counts : arity ≡ length (params_of sig f)
  pub row : Row sig bytes next q (each_of w.scope (params_of sig f)) terms

pub record IsCase (sig : Sig) (bytes next : List ℕ) (w : Want) (t : Term) (ty q : ℕ) : Type 0 where
  pub subject : Term
  pub branches : Terms
  pub is : t ≡ case ty subject branches
  pub known : Declared sig ty
  pub stands : StandsAt sig bytes q (want w.scope ty) subject
  pub row : Row sig bytes next (hop next q) (branches_of w.scope w.ty (cases_of sig ty)) branches

pub record IsAnd (sig : Sig) (bytes : List ℕ) (w : Want) (t : Term) (l r : ℕ) : Type 0 where
  pub left : Term
  pub right : Term
  pub is : t ≡ both left right
  pub own : w.ty ≡ 0
  pub stands_left : StandsAt sig bytes l (want w.scope 0) left
  pub stands_right : StandsAt sig bytes r (want w.scope 0) right

pub record IsNot (sig : Sig) (bytes : List ℕ) (w : Want) (t : Term) (q : ℕ) : Type 0 where
  pub inner : Term
  pub is : t ≡ not inner
  pub own : w.ty ≡ 0
  pub stands : StandsAt sig bytes q (want w.scope 0) inner

pub record IsEqual (sig : Sig) (bytes : List ℕ) (w : Want) (t : Term) (l r : ℕ) : Type 0 where
  pub ty : ℕ
  pub left : Term
  pub right : Term
  pub is : t ≡ equal ty left right
  pub own : w.ty ≡ 0
  pub known : Declared sig ty
  pub stands_left : StandsAt sig bytes l (want w.scope ty) left
  pub stands_right : StandsAt sig bytes r (want w.scope ty) right

abbrev pub Shows : Sig → List ℕ → List ℕ → Want → Term → View → Type 0
Shows sig bytes next w t (Variable v) = IsVariable w t v
Shows sig bytes next w t (Unknown k) = IsUnknown sig w t k
Shows sig bytes next w t (Constructor ty c arity q) = IsConstructor sig bytes next w t ty c arity q
Shows sig bytes next w t (Call f arity q) = IsCall sig bytes next w t f arity q
Shows sig bytes next w t (Case ty q) = IsCase sig bytes next w t ty q
Shows sig bytes next w t (And l r) = IsAnd sig bytes w t l r
Shows sig bytes next w t (Not q) = IsNot sig bytes w t q
Shows sig bytes next w t (Equal l r) = IsEqual sig bytes w t l r
Shows sig bytes next w t Nothing = ⊥

-- what stands one after another in a view is at most six terms
abbrev pub FewParts : View → Type 0
FewParts (Variable v) = Unit {0}
FewParts (Unknown k) = Unit {0}
FewParts (Constructor ty c arity q) = arity ≤ 6
FewParts (Call f arity q) = arity ≤ 6
FewParts (Case ty q) = Unit {0}
FewParts (And l r) = Unit {0}
FewParts (Not q) = Unit {0}
FewParts (Equal l r) = Unit {0}
FewParts Nothing = Unit {0}

-- a view shows every term that stands at its place
abbrev pub AlwaysShows : Sig → List ℕ → List ℕ → ℕ → View → Type 0
AlwaysShows sig bytes next p v = (w : Want) (t : Term) → StandsAt sig bytes p w t → Shows sig bytes next w t v

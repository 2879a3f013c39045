-- How the places stand for environments and arguments, and go on doing so as they grow.
use Rattle.std.proofs.Common.{◌≡◌, ℕ, zero, suc, ◌+◌, ◌<◌, ◌≤◌, ◌≢◌, List, [], ◌∷◌, length, get_or, set, Some, None, Option, sym, refl, ap, ◌∙◌, subst, arith, get_or-set_other, get_or-set_same}
use Rattle.syntax.specs.Terms.{Term}
use Rattle.judging.specs.Held.{Held, hold, free, Helds, h[], ◌h∷◌, missing, bound, frees, ◌h++◌}
use Rattle.held.specs.declared.places.Held.{Held as Code}
use Rattle.held.specs.declared.places.Held.TheVariants.{Missing, Term as At, Unknown}
use Rattle.held.specs.declared.places.Place.{Place}
use Rattle.held.specs.Links.{above}
use Rattle.held.specs.Standing.{no_place, place_at, down, hlength, Stands, Binds, Env, Row, Same}

place_same : (m n : List Place) (top k : ℕ) → k < top → Same m n top → place_at n (Some k) ≡ place_at m (Some k)
place_same m n top k h same = same k h

module _ (R : ℕ → Term → Type 0) (m n : List Place) (top above : ℕ) (le : top ≤ above) (same : Same m n top) where
  mutual
    pub stands_grows : (x : Code) (h : Held ℕ) → Stands R m top x h → Stands R n above x h
    stands_grows x (free u) s = s
    stands_grows Missing (hold t ρ) s = s
    stands_grows (At p e) (hold t ρ) s = (s.0, binds_grows 0 None e ρ s.1)
    stands_grows (Unknown u) (hold t ρ) s = s

    pub binds_grows : (c : ℕ) (base l : Option ℕ) (ρ : Helds ℕ) → Binds R m top c base l ρ → Binds R n above c base l ρ
    binds_grows c base l h[] s = s
    binds_grows c base l (h h∷ ρ) s =
        let q = sym (place_same m n top s.0 s.2 same) in (
          s.0,
          s.1,
          omega arith,
          subst (λ (p : Place). p.next ≡ base) q s.3,
          subst (λ (p : Place). p.size ≡ c + 1) q s.4,
          stands_grows (place_at n (Some s.0)).held h (subst (λ (p : Place). Stands R m top p.held h) q s.5),
          binds_grows (c + 1) (Some s.0) l ρ s.6,
        )

  pub row_grows : (i : ℕ) (hs : Helds ℕ) → Row R m top i hs → Row R n above i hs
  row_grows i h[] s = s
  row_grows i (h h∷ hs) s = (
    omega arith,
    stands_grows (get_or n i no_place).held h (subst (λ (p : Place). Stands R m top p.held h) (sym (same i s.0)) s.1),
    row_grows (i + 1) hs s.2,
  )

module _ (R : ℕ → Term → Type 0) (m : List Place) (top : ℕ) where
  pub binds_append : (c : ℕ) (base k l : Option ℕ) (ρ xs : Helds ℕ) → Binds R m top c base k ρ → Binds R m top (c + hlength ρ) k l xs
      → Binds R m top c base l (ρ h++ xs)
  binds_append c base k l h[] xs b s =
      subst (λ (i : ℕ). Binds R m top i base l xs) (omega arith) (subst (λ (i : Option ℕ). Binds R m top (c + 0) i l xs) b s)
  binds_append c base k l (h h∷ ρ) xs b s = (
    b.0,
    b.1,
    b.2,
    b.3,
    b.4,
    b.5,
    binds_append (c + 1) (Some b.0) k l ρ xs b.6 (subst (λ (i : ℕ). Binds R m top i k l xs) (omega arith) s),
  )

  -- an environment's size stands at its link, and its link goes no lower
  pub binds_size : (c : ℕ) (base l : Option ℕ) (ρ : Helds ℕ) → (place_at m base).size ≡ c → c ≤ above base → above base ≤ top → Binds R m top c base l ρ
      → ((place_at m l).size ≡ c + hlength ρ) × (c + hlength ρ ≤ above l) × (above l ≤ top)
  binds_size c base l h[] size le low b =
      let same = ap above b in
      (ap (λ i. (place_at m i).size) b ∙ size ∙ omega arith, omega arith, omega arith)
  binds_size c base l (h h∷ ρ) size le low b =
      let r = binds_size (c + 1) (Some b.0) l ρ b.4 (omega arith) (omega arith) b.6 in
      (r.0 ∙ omega arith, omega arith, omega arith)

  pub env_size : (l : Option ℕ) (ρ : Helds ℕ) → Env R m top l ρ → ((place_at m l).size ≡ hlength ρ) × (hlength ρ ≤ above l) × (above l ≤ top)
  env_size l ρ b = let r = binds_size 0 None l ρ refl (omega arith) (omega arith) b in (r.0 ∙ omega arith, omega arith, r.2)

  binds_down : (c : ℕ) (base l : Option ℕ) (ρ : Helds ℕ) → Binds R m top c base l ρ → down m l (hlength ρ) ≡ base
  binds_down c base l h[] b = b
  binds_down c base l (h h∷ ρ) b = ap (λ i. (place_at m i).next) (binds_down (c + 1) (Some b.0) l ρ b.6) ∙ b.3

  pub found : (c : ℕ) (base l : Option ℕ) (j v : ℕ) (ρ : Helds ℕ) → j + v + 1 ≡ hlength ρ → Binds R m top c base l ρ
      → Stands R m top (place_at m (down m l j)).held (bound ρ v)
  found c base l j v h[] e b = absurd (omega arith)
  found c base l j zero (h h∷ ρ) e b =
      let is : j ≡ hlength ρ = omega arith in
      let q : down m l j ≡ Some b.0 = ap (down m l) is ∙ binds_down (c + 1) (Some b.0) l ρ b.6 in
      subst (λ (i : Option ℕ). Stands R m top (place_at m i).held h) (sym q) b.5
  found c base l j (suc v) (h h∷ ρ) e b = found (c + 1) (Some b.0) l j v ρ (omega arith) b.6

pub unbound : (ρ : Helds ℕ) (v : ℕ) → hlength ρ ≤ v → bound ρ v ≡ hold missing h[]
unbound h[] v h = refl
unbound (x h∷ ρ) zero h = absurd (omega arith)
unbound (x h∷ ρ) (suc v) h = unbound ρ v (omega arith)

pub same_set : (m : List Place) (top : ℕ) (p : Place) → Same m (set m top p) top
same_set m top p i h = let ne : i ≢ top = omega arith in get_or-set_other m top i p no_place ne

pub same_trans : (m n o : List Place) (a b : ℕ) → a ≤ b → Same m n a → Same n o b → Same m o a
same_trans m n o a b le p q i h = q i (omega arith) ∙ p i h

-- one more binding, in a place above all that there are
pub env_push : (R : ℕ → Term → Type 0) (m : List Place) (top : ℕ) (env : Option ℕ) (size : ℕ) (x : Code) (ρ : Helds ℕ) (h : Held ℕ) → top < length m
    → size ≡ hlength ρ + 1 → Env R m top env ρ → Stands R m top x h
    → Env R (set m top (record { held = x; next = env; size = size })) (top + 1) (Some top) (ρ h++ (h h∷ h[]))
env_push R m top env size x ρ h lt is b s =
    let p : Place = record { held = x; next = env; size = size } in
    let n : List Place = set m top p in
    let q : p ≡ place_at n (Some top) = sym (get_or-set_same m top p no_place lt) in
    let same : Same m n top = same_set m top p in
    let low = env_size R m top env ρ b in
    binds_append R n (top + 1) 0 None env (Some top) ρ (h h∷ h[]) (binds_grows R m n top (top + 1) (omega arith) same 0 None env ρ b) (
      top,
      omega arith,
      omega arith,
      subst (λ (y : Place). y.next ≡ env) q refl,
      subst (λ (y : Place). y.size ≡ 0 + hlength ρ + 1) q (omega arith),
      subst (λ (y : Place). Stands R n (top + 1) y.held h) q (stands_grows R m n top (top + 1) (omega arith) same x h s),
      refl,
    )

pub h++_assoc : (ρ xs ys : Helds ℕ) → (ρ h++ xs) h++ ys ≡ ρ h++ (xs h++ ys)
h++_assoc h[] xs ys = refl
h++_assoc (h h∷ ρ) xs ys = ap (λ r. h h∷ r) (h++_assoc ρ xs ys)

pub h++_none : (ρ : Helds ℕ) → ρ h++ h[] ≡ ρ
h++_none h[] = refl
h++_none (h h∷ ρ) = ap (λ r. h h∷ r) (h++_none ρ)

pub hlength-append : (xs ys : Helds ℕ) → hlength (xs h++ ys) ≡ hlength xs + hlength ys
hlength-append h[] ys = omega arith
hlength-append (x h∷ xs) ys = omega (arith, hlength-append xs ys)

-- what is bound of a row so far, and the row that is left, from the place `at` on
pub record Bound (R : ℕ → Term → Type 0) (m : List Place) (top : ℕ) (env : Option ℕ) (ρ xs : Helds ℕ) (at left : ℕ) : Type 0 where
  pub done : Helds ℕ
  pub rest : Helds ℕ
  pub all : done h++ rest ≡ xs
  pub many : hlength rest ≡ left
  pub row : Row R m top at rest
  pub bound : Env R m top env (ρ h++ done)

module _ (R : ℕ → Term → Type 0) where
  pub bound_none : (m : List Place) (top start left : ℕ) (env : Option ℕ) (xs ρ : Helds ℕ) → left ≡ hlength xs → Row R m top start xs → Env R m top env ρ
      → Bound R m top env ρ xs start left
  bound_none m top start left env xs ρ long row b = record {
    done = h[];
    rest = xs;
    all = refl;
    many = sym long;
    row = row;
    bound = subst (λ (r : Helds ℕ). Env R m top env r) (sym (h++_none ρ)) b;
  }

  next : (m : List Place) (top i : ℕ) (hs : Helds ℕ) → 0 < hlength hs → Row R m top i hs
      → (h : Held ℕ) × (rest : Helds ℕ) × (hs ≡ h h∷ rest) × Stands R m top (get_or m i no_place).held h × Row R m top (i + 1) rest
  next m top i h[] p row = absurd (omega arith)
  next m top i (h h∷ hs) p row = (h, hs, refl, row.1, row.2)

  pub bound_more : (m n : List Place) (top above at left after : ℕ) (env link : Option ℕ) (x : Code) (ρ xs : Helds ℕ) → top ≤ above → left ≡ after + 1
      → x ≡ (get_or m at no_place).held → Same m n top
      → ((σ : Helds ℕ) (h : Held ℕ) → Env R m top env σ → Stands R m top x h → Env R n above link (σ h++ (h h∷ h[])))
      → Bound R m top env ρ xs at left → Bound R n above link ρ xs (at + 1) after
  bound_more m n top above at left after env link x ρ xs le one_less is same pushed b =
      let r = next m top at b.rest (omega (arith, b.many)) b.row in
      let more = ap hlength r.2 in
      let one : Helds ℕ = r.0 h∷ h[] in
      record {
        done = b.done h++ one;
        rest = r.1;
        all = h++_assoc b.done one r.1 ∙ ap (λ (hs : Helds ℕ). b.done h++ hs) (sym r.2) ∙ b.all;
        many = omega (arith, b.many, more);
        row = row_grows R m n top above le same (at + 1) r.1 r.4;
        bound = subst (λ (σ : Helds ℕ). Env R n above link σ) (h++_assoc ρ b.done one)
            (pushed (ρ h++ b.done) r.0 b.bound (subst (λ (y : Code). Stands R m top y r.0) (sym is) r.3));
      }

  none_left : (hs : Helds ℕ) → hlength hs ≡ 0 → hs ≡ h[]
  none_left h[] z = refl
  none_left (h h∷ hs) z = absurd (omega arith)

  no_row_past : (m : List Place) (top i : ℕ) (hs : Helds ℕ) → top ≤ i → Row R m top i hs → hlength hs ≡ 0
  no_row_past m top i h[] le row = refl
  no_row_past m top i (h h∷ hs) le row = absurd (omega arith)

  -- nothing is left, or the row would go on past the places in use
  pub bound_all : (m : List Place) (top at left : ℕ) (env : Option ℕ) (ρ xs : Helds ℕ) → (0 < left → top ≤ at) → Bound R m top env ρ xs at left
      → Env R m top env (ρ h++ xs)
  bound_all m top at zero env ρ xs out b =
      let all = sym (h++_none b.done) ∙ ap (λ (hs : Helds ℕ). b.done h++ hs) (sym (none_left b.rest b.many)) ∙ b.all in
      subst (λ (hs : Helds ℕ). Env R m top env (ρ h++ hs)) all b.bound
  bound_all m top at (suc left) env ρ xs out b =
      let none = no_row_past m top at b.rest (out (omega arith)) b.row in
      let all = sym (h++_none b.done) ∙ ap (λ (hs : Helds ℕ). b.done h++ hs) (sym (none_left b.rest none)) ∙ b.all in
      subst (λ (hs : Helds ℕ). Env R m top env (ρ h++ hs)) all b.bound

  pub row_of_unknowns : (m : List Place) (top i : ℕ) (us : List ℕ) → i + length us ≤ top
      → ((k : ℕ) → k < length us → (get_or m (i + k) no_place).held ≡ Unknown (get_or us k 0)) → Row R m top i (frees us)
  row_of_unknowns m top i [] le at = tt
  row_of_unknowns m top i (u ∷ us) le at = (
    omega arith,
    subst (λ (x : Code). Stands R m top x (free u)) (sym (ap (λ (j : ℕ). (get_or m j no_place).held) (omega arith) ∙ at 0 (omega arith))) refl,
    row_of_unknowns m top (i + 1) us (omega arith)
        (λ k h. ap (λ (j : ℕ). (get_or m j no_place).held) (omega arith) ∙ at (suc k) (omega arith)),
  )

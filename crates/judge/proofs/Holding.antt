-- Terms that are held one after another: they stand in a row, and bound to the next variables.
use Rattle.std.proofs.Common.{◌≡◌, ℕ, suc, ◌+◌, ◌<◌, List, [], ◌∷◌, length, get_or, None, Option, sym, refl, ap, ◌∙◌, subst, arith}
use Rattle.syntax.specs.Terms.{Term, Terms, t[], ◌t∷◌}
use Rattle.judging.specs.Held.{Held, hold, Helds, h[], ◌h∷◌, holds, frees, ◌h++◌}
use Rattle.held.specs.Reading.{Text, Reads}
use Rattle.held.specs.Standing.{no_place, hlength, Stands, Env, Row, Same}
use Rattle.held.proofs.Standing.{binds_grows, row_grows, h++_assoc, h++_none, hlength-append}
use Rattle.held.specs.declared.places.Held.{Held as Code}
use Rattle.held.specs.declared.places.Held.TheVariants.{Term as At}
use Rattle.held.specs.declared.places.Place.{Place}
use Rattle.judge.specs.Texts.{ReadsAll, tlength}
use Rattle.judge.proofs.Texts.{first_of}

pub frees_length : (us : List ℕ) → length us ≡ hlength (frees us)
frees_length [] = refl
frees_length (u ∷ us) = ap suc (frees_length us)

module _ (R : ℕ → Term → Type 0) where
  -- one more at the end of a row
  pub row_append : (m : List Place) (top i at : ℕ) (hs : Helds ℕ) (h : Held ℕ) → at ≡ i + hlength hs → at < top
      → Stands R m top (get_or m at no_place).held h → Row R m top i hs → Row R m top i (hs h++ (h h∷ h[]))
  row_append m top i at h[] h is lt s row =
      let here : at ≡ i = omega arith in
      (omega arith, subst (λ (j : ℕ). Stands R m top (get_or m j no_place).held h) here s, tt)
  row_append m top i at (x h∷ hs) h is lt s row = (row.0, row.1, row_append m top (i + 1) at hs h (omega arith) lt s row.2)

-- What is held of the terms so far, and the terms that are left, from the place `at` on: `before` were the places, of which
-- `start` were in use, and `onto` was the environment that they are bound to, which is now `link`.
pub record Holding (x : Text) (before m : List Place) (start top at left : ℕ) (env onto link : Option ℕ) (ts : Terms) (ρ : Helds ℕ) : Type 0 where
  pub done : Helds ℕ
  pub rest : Terms
  pub all : done h++ holds rest ρ ≡ holds ts ρ
  pub many : tlength rest ≡ left
  pub reads : ReadsAll x at rest
  pub here : start + hlength done ≡ top
  pub env_is : Env (Reads x) m top env ρ
  pub row : Row (Reads x) m top start done
  pub bound : (σ : Helds ℕ) → Env (Reads x) before start onto σ → Env (Reads x) m top link (σ h++ done)

module _ (x : Text) where
  pub holding_none : (m : List Place) (top at left : ℕ) (env onto : Option ℕ) (ts : Terms) (ρ : Helds ℕ) → left ≡ tlength ts → ReadsAll x at ts
      → Env (Reads x) m top env ρ → Holding x m m top top at left env onto onto ts ρ
  holding_none m top at left env onto ts ρ long r b = record {
    done = h[];
    rest = ts;
    all = refl;
    many = sym long;
    reads = r;
    here = omega arith;
    env_is = b;
    row = tt;
    bound = λ σ e. subst (λ (hs : Helds ℕ). Env (Reads x) m top onto hs) (sym (h++_none σ)) e;
  }

  next : (at : ℕ) (ts : Terms) → 0 < tlength ts → ReadsAll x at ts → (t : Term) × (rest : Terms) × (ts ≡ t t∷ rest) × Reads x at t
  next at t[] p r = absurd (omega arith)
  next at (t t∷ ts) p r = (t, ts, refl, first_of r)

  module _ (before m n : List Place) (start top above at next_at left after : ℕ) (env onto link more_link : Option ℕ) (up : above ≡ top + 1)
      (one_less : left ≡ after + 1) (same : Same m n top) (is : (get_or n top no_place).held ≡ At at env) where
    pub holding_more : (ts : Terms) (ρ : Helds ℕ) → ((t : Term) (us : Terms) → ReadsAll x at (t t∷ us) → ReadsAll x next_at us)
        → ((σ : Helds ℕ) (h : Held ℕ) → Env (Reads x) m top link σ → Stands (Reads x) m top (At at env) h → Env (Reads x) n above more_link (σ h++ (h h∷ h[])))
        → Holding x before m start top at left env onto link ts ρ → Holding x before n start above next_at after env onto more_link ts ρ
    holding_more ts ρ go pushed h =
        let r = next at h.rest (omega (arith, h.many)) h.reads in
        let more = ap tlength r.2 in
        let one : Helds ℕ = hold r.0 ρ h∷ h[] in
        let e : Env (Reads x) n above env ρ = binds_grows (Reads x) m n top above (omega arith) same 0 None env ρ h.env_is in
        let s : Stands (Reads x) n above (get_or n top no_place).held (hold r.0 ρ) =
        subst (λ (y : Code). Stands (Reads x) n above y (hold r.0 ρ)) (sym is) (r.3, e) in
        record {
          done = h.done h++ one;
          rest = r.1;
          all = h++_assoc h.done one (holds r.1 ρ) ∙ ap (λ (us : Terms). h.done h++ holds us ρ) (sym r.2) ∙ h.all;
          many = omega (arith, h.many, more);
          reads = go r.0 r.1 (subst (λ (us : Terms). ReadsAll x at us) r.2 h.reads);
          here = omega (arith, h.here, hlength-append h.done one);
          env_is = e;
          row = row_append (Reads x) n above start top h.done (hold r.0 ρ) (omega (arith, h.here)) (omega arith) s
              (row_grows (Reads x) m n top above (omega arith) same start h.done h.row);
          bound = λ σ b.
              subst (λ (hs : Helds ℕ). Env (Reads x) n above more_link hs) (h++_assoc σ h.done one)
              (pushed (σ h++ h.done) (hold r.0 ρ) (h.bound σ b) (r.3, h.env_is));
        }

  none_left : (ts : Terms) → tlength ts ≡ 0 → ts ≡ t[]
  none_left t[] z = refl
  none_left (t t∷ ts) z = absurd (omega arith)

  pub holding_all : {before m : List Place} {start top at left : ℕ} {env onto link : Option ℕ} (ts : Terms) (ρ : Helds ℕ) → left ≡ 0
      → (h : Holding x before m start top at left env onto link ts ρ) → h.done ≡ holds ts ρ
  holding_all ts ρ z h =
      sym (h++_none h.done) ∙ ap (λ (us : Terms). h.done h++ holds us ρ) (sym (none_left h.rest (omega (arith, h.many)))) ∙ h.all

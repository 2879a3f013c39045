-- One step of the definition at a time, and what the code's answer to it gives to the next.
use Rattle.std.proofs.Common.{◌≡◌, ℕ, zero, suc, ◌+◌, ◌-◌, ◌<◌, ◌≤◌, min, List, [], ◌++◌, length, get_or, ◌≢◌, Some, None, Option, sym, refl, ap, ◌∙◌, subst, sub-one, arith}
use mathlib.Core.Option.{Option as Maybe, none, some}
use Rattle.syntax.specs.Terms.{Term, Terms, t[], ◌t∷◌}
use Rattle.syntax.specs.Problems.{Problem}
use Rattle.judging.specs.Held.{Held, hold, free, Helds, h[], ◌h∷◌, missing, holds}
use Rattle.judging.specs.Judging.{Unknowns, Head, is, Verdict, same, wait, Asks, Judging, go_on, give, join, join_verdict, and_right, and_true, and_waits, after_left, after_right, after_pair, pairs, headed, compared, judges}
use Rattle.held.specs.Explanations.{Adds}
use Rattle.held.specs.Reading.{Text}
use Rattle.held.specs.Standing.{no_place, hlength, Stands, Row, Env}
use Rattle.held.specs.declared.places.Held.{Held as Code}
use Rattle.held.specs.declared.places.Held.TheVariants.{Missing, Term as At, Unknown}
use Rattle.held.specs.declared.places.Place.{Place}
use Rattle.judge.specs.declared.left.Budget.{Budget}
use Rattle.judge.specs.declared.answers.Head.{Head as CodeHead}
use Rattle.judge.specs.declared.answers.Head.TheVariants.{Waits, Is}
use Rattle.judge.specs.declared.answers.Verdict.{Verdict as CodeVerdict}
use Rattle.judge.specs.declared.answers.Verdict.TheVariants.{Wait, Same as SameV, Differ}
use Rattle.judge.specs.declared.verdicts.Judgement.TheVariants.{False, True, Waiting}
use Rattle.judge.specs.Outcomes.{outcome}
use Rattle.judge.specs.Texts.{tlength}
use Rattle.judge.specs.Means.{HeadAs, Agrees, VerdictAs, Concurs}
use Rattle.judge.proofs.Sets.{adds_append}

module _ (p : Problem) (K : Unknowns ℕ) where
  pub opens : (d s : ℕ) (h : Held ℕ) → 0 < d → 0 < s → headed p K (judges p K (d - 1)) h (s - 1) ≡ (judges p K d).head h s
  unfolding judges
  opens zero s h q r = absurd (omega arith)
  opens (suc d) zero h q r = absurd (omega arith)
  opens (suc d) (suc s) h q r = simp sub-one

  pub shut : (d s : ℕ) (h : Held ℕ) → s ≡ 0 → (judges p K d).head h s ≡ none
  unfolding judges
  shut zero s h z = refl
  shut (suc d) zero h z = refl
  shut (suc d) (suc s) h z = absurd (omega arith)

  pub opens_comparing : (d s : ℕ) (h k : Held ℕ) → 0 < d → 0 < s → compared (judges p K (d - 1)) h k (s - 1) ≡ (judges p K d).comparing h k s
  unfolding judges
  opens_comparing zero s h k q r = absurd (omega arith)
  opens_comparing (suc d) zero h k q r = absurd (omega arith)
  opens_comparing (suc d) (suc s) h k q r = simp sub-one

  pub shut_comparing : (d s : ℕ) (h k : Held ℕ) → s ≡ 0 → (judges p K d).comparing h k s ≡ none
  unfolding judges
  shut_comparing zero s h k z = refl
  shut_comparing (suc d) zero h k z = refl
  shut_comparing (suc d) (suc s) h k z = absurd (omega arith)

-- which held term a code stands for
module _ (R : ℕ → Term → Type 0) (m : List Place) (top : ℕ) where
  pub stands_missing : (x : Code) (h : Held ℕ) → x ≡ Missing → Stands R m top x h → (ρ : Helds ℕ) × (h ≡ hold missing ρ)
  stands_missing x (free u) e s = absurd (subst (λ (y : Code). Stands R m top y (free u)) e s)
  stands_missing x (hold t ρ) e s = (ρ, ap (λ (u : Term). hold u ρ) (subst (λ (y : Code). Stands R m top y (hold t ρ)) e s))

  pub stands_unknown : (x : Code) (u : ℕ) (h : Held ℕ) → x ≡ Unknown u → Stands R m top x h → h ≡ free u
  stands_unknown x u (free v) e s = ap free (sym (subst (λ (y : Code). Stands R m top y (free v)) e s))
  stands_unknown x u (hold t ρ) e s = absurd (subst (λ (y : Code). Stands R m top y (hold t ρ)) e s)

  pub stands_term : (x : Code) (p : ℕ) (e : Option ℕ) (h : Held ℕ) → x ≡ At p e → Stands R m top x h
      → (t : Term) × (ρ : Helds ℕ) × (h ≡ hold t ρ) × R p t × Env R m top e ρ
  stands_term x p e (free u) q s = absurd (subst (λ (y : Code). Stands R m top y (free u)) q s)
  stands_term x p e (hold t ρ) q s = let r = subst (λ (y : Code). Stands R m top y (hold t ρ)) q s in (t, ρ, refl, r.0, r.1)

stands_is : (R : ℕ → Term → Type 0) (m : List Place) (top : ℕ) (h : Held ℕ) (x y : Code) → x ≡ y → Stands R m top y h → Stands R m top x h
stands_is R m top h x y e s = subst (λ (z : Code). Stands R m top z h) (sym e) s

pub by : {x : Text} {l : Budget} {a b : List ℕ} {r : Option CodeHead} {o q : Maybe (Head ℕ × ℕ)} → o ≡ q → Agrees x l a b r o → Agrees x l a b r q
by {x} {l} {a} {b} {r} e h = subst (λ (o : Maybe (Head ℕ × ℕ)). Agrees x l a b r o) e h

pub by_verdict : {l : Budget} {a b : List ℕ} {r : Option CodeVerdict} {o q : Maybe (Verdict ℕ × ℕ)} → o ≡ q → Concurs l a b r o → Concurs l a b r q
by_verdict {l} {a} {b} {r} e h = subst (λ (o : Maybe (Verdict ℕ × ℕ)). Concurs l a b r o) e h

-- none, for want of steps
pub lost : {x : Text} {l : Budget} {a b : List ℕ} {r : Option CodeHead} {o : Maybe (Head ℕ × ℕ)} → r ≡ None → o ≡ none → Agrees x l a b r o
lost {x} {l} {a} {b} {r} {o} e q = subst (λ (s : Option CodeHead). Agrees x l a b s o) (sym e) (record { means = q })

pub lost_verdict : {l : Budget} {a b : List ℕ} {r : Option CodeVerdict} {o : Maybe (Verdict ℕ × ℕ)} → r ≡ None → o ≡ none → Concurs l a b r o
lost_verdict {l} {a} {b} {r} {o} e q = subst (λ (s : Option CodeVerdict). Concurs l a b s o) (sym e) (record { means = q })

-- an answer of which the case is known
pub as_none : {x : Text} {l : Budget} {a b : List ℕ} {r : Option CodeHead} {o : Maybe (Head ℕ × ℕ)} → r ≡ None → Agrees x l a b r o → o ≡ none
as_none {x} {l} {a} {b} {r} {o} e h = subst (λ (s : Option CodeHead). HeadAs x l a b s o) e h.means

pub as_head : {x : Text} {l : Budget} {a b : List ℕ} {r q : CodeHead} {o : Maybe (Head ℕ × ℕ)} → r ≡ q → Agrees x l a b (Some r) o → HeadAs x l a b (Some q) o
as_head {x} {l} {a} {b} {r} {q} {o} e h = subst (λ (s : CodeHead). HeadAs x l a b (Some s) o) e h.means

pub as_verdict : {l : Budget} {a b : List ℕ} {r q : CodeVerdict} {o : Maybe (Verdict ℕ × ℕ)} → r ≡ q → Concurs l a b (Some r) o → VerdictAs l a b (Some q) o
as_verdict {l} {a} {b} {r} {q} {o} e h = subst (λ (s : CodeVerdict). VerdictAs l a b (Some s) o) e h.means

-- the right side of a comparing whose left side is at hand: it is lost, or the left side waits
pub lost_right : {x : Text} {l : Budget} {a b : List ℕ} {o : Maybe (Head ℕ × ℕ)} (A : Asks ℕ) (k : Held ℕ) (r : CodeHead) → Agrees x l a b (Some r) o
    → A.head k l.steps ≡ none → go_on (after_left A k) o ≡ none
lost_right A k (Waits u) h q = ap (go_on (after_left A k)) h.means ∙ ap (go_on (λ c. give (wait u))) q
lost_right A k (Is i c n) h q = ap (go_on (after_left A k)) h.means.2 ∙ ap (go_on (after_right A c h.means.0 h.means.1)) q

pub still_waits : {x : Text} {l : Budget} {a b : List ℕ} {o : Maybe (Head ℕ × ℕ)} (u : ℕ) (r : CodeHead) → Agrees x l a b (Some r) o
    → go_on (λ c. give (wait u)) o ≡ some (wait u, l.steps)
still_waits u (Waits v) h = ap (go_on (λ c. give (wait u))) h.means
still_waits u (Is i c n) h = ap (go_on (λ c. give (wait u))) h.means.2

-- an explanation before that of the answer
pub agrees_join : {x : Text} {l : Budget} {a b c E : List ℕ} (r : Option CodeHead) {o : Maybe (Head ℕ × ℕ)} → Adds a b E
    → Agrees x l b c r o → Agrees x l a c r (go_on (λ h. give (join E h)) o)
agrees_join {x} {l} {a} {b} {c} {E} None s h = record { means = ap (go_on (λ h. give (join E h))) h.means }
agrees_join {x} {l} {a} {b} {c} {E} (Some (Waits u)) s h = record { means = ap (go_on (λ h. give (join E h))) h.means }
agrees_join {x} {l} {a} {b} {c} {E} (Some (Is i k n)) s h = record {
  means = (h.means.0, E ++ h.means.1, ap (go_on (λ h. give (join E h))) h.means.2, h.means.3, h.means.4, adds_append s h.means.5);
}

pub concurs_join : {l : Budget} {a b c E : List ℕ} (r : Option CodeVerdict) {o : Maybe (Verdict ℕ × ℕ)} → Adds a b E
    → Concurs l b c r o → Concurs l a c r (go_on (λ v. give (join_verdict E v)) o)
concurs_join {l} {a} {b} {c} {E} None s h = record { means = ap (go_on (λ v. give (join_verdict E v))) h.means }
concurs_join {l} {a} {b} {c} {E} (Some (Wait u)) s h = record { means = ap (go_on (λ v. give (join_verdict E v))) h.means }
concurs_join {l} {a} {b} {c} {E} (Some SameV) s h = record {
  means = (E ++ h.means.0, ap (go_on (λ v. give (join_verdict E v))) h.means.1, adds_append s h.means.2);
}
concurs_join {l} {a} {b} {c} {E} (Some Differ) s h = record {
  means = (E ++ h.means.0, ap (go_on (λ v. give (join_verdict E v))) h.means.1, adds_append s h.means.2);
}

pub holds_length : (ts : Terms) (ρ : Helds ℕ) → tlength ts ≡ hlength (holds ts ρ)
holds_length t[] ρ = refl
holds_length (t t∷ ts) ρ = ap suc (holds_length ts ρ)

pub both_true : (E : List ℕ) (c s : ℕ) (xs : Helds ℕ) (F : List ℕ) → 0 < c → give (and_true E (is c xs F)) s ≡ some (is 1 h[] (E ++ F), s)
both_true E zero s xs F z = absurd (omega arith)
both_true E (suc c) s xs F z = refl

-- a head that is not false, and one that is
pub not_false : {o : Maybe (Head ℕ × ℕ)} {c s : ℕ} {xs : Helds ℕ} {E : List ℕ} → o ≡ some (is c xs E, s) → outcome o ≢ False → 0 < c
not_false {c = zero} e other = absurd (other (ap outcome e))
not_false {c = suc c} e other = omega arith

pub false_head : {x : Text} {l : Budget} {a b : List ℕ} {o : Maybe (Head ℕ × ℕ)} (r : CodeHead) → Agrees x l a b (Some r) o → outcome o ≡ False
    → (xs : Helds ℕ) × (E : List ℕ) × (o ≡ some (is 0 xs E, l.steps)) × Adds a b E
false_head (Waits u) h f = let z : Waiting u ≡ False = sym (ap outcome h.means) ∙ f in absurd (cc)
false_head (Is i zero n) h f = (h.means.0, h.means.1, h.means.2, h.means.5)
false_head (Is i (suc c) n) h f = let z : True ≡ False = sym (ap outcome h.means.2) ∙ f in absurd (cc)

-- an `and` whose left side is not false
pub and_left_true : (right : Judging (Head ℕ)) (c s : ℕ) (xs : Helds ℕ) (E : List ℕ) → 0 < c
    → go_on (λ h. give (and_true E h)) (right s) ≡ and_right right (is c xs E) s
and_left_true right zero s xs E z = absurd (omega arith)
and_left_true right (suc c) s xs E z = refl

pub lost_and : {x : Text} {l : Budget} {a b : List ℕ} {o : Maybe (Head ℕ × ℕ)} (right : Judging (Head ℕ)) (r : CodeHead) → Agrees x l a b (Some r) o
    → outcome o ≢ False → right l.steps ≡ none → go_on (and_right right) o ≡ none
lost_and right (Waits u) h other q = ap (go_on (and_right right)) h.means ∙ ap (go_on (λ r. give (and_waits u r))) q
lost_and {l = l} right (Is i c n) h other q =
    let v = h.means in
    ap (go_on (and_right right)) v.2 ∙ sym (and_left_true right c l.steps v.0 v.1 (not_false v.2 other)) ∙ ap (go_on (λ r. give (and_true v.1 r))) q

module _ (R : ℕ → Term → Type 0) (A : Asks ℕ) (m : List Place) (top : ℕ) where
  pub pairs_none : (i j count s : ℕ) (xs ys : Helds ℕ) → (0 < count → i < length m → j < length m → ⊥) → top ≤ length m
      → count ≡ min (hlength xs) (hlength ys) → Row R m top i xs → Row R m top j ys → pairs A xs ys s ≡ some (same [], s)
  pairs_none i j count s h[] ys stop le long rx ry = refl
  pairs_none i j count s (x h∷ xs) h[] stop le long rx ry = refl
  pairs_none i j count s (x h∷ xs) (y h∷ ys) stop le long rx ry = absurd (stop (omega arith) (omega arith) (omega arith))

  pub pairs_more : (i j count s : ℕ) (xs ys : Helds ℕ) (l : Budget) (a b : List ℕ) (r : Option CodeVerdict) (v w : Code)
      → v ≡ (get_or m i no_place).held → w ≡ (get_or m j no_place).held → 0 < count
      → count ≡ min (hlength xs) (hlength ys) → Row R m top i xs → Row R m top j ys
      → ((h k : Held ℕ) (hs ks : Helds ℕ) → Stands R m top v h → Stands R m top w k
      → count - 1 ≡ min (hlength hs) (hlength ks) → Row R m top (i + 1) hs → Row R m top (j + 1) ks
      → Concurs l a b r (go_on (after_pair (pairs A hs ks)) (A.comparing h k s)))
      → Concurs l a b r (pairs A xs ys s)
  pairs_more i j count s h[] ys l a b r v w p q pos long rx ry go = absurd (omega arith)
  pairs_more i j count s (x h∷ xs) h[] l a b r v w p q pos long rx ry go = absurd (omega arith)
  pairs_more i j count s (x h∷ xs) (y h∷ ys) l a b r v w p q pos long rx ry go =
      go x y xs ys (stands_is R m top x v _ p rx.1) (stands_is R m top y w _ q ry.1) (omega arith) rx.2 ry.2

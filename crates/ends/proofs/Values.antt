-- The values of a type are its terms of constructors alone, one each. Assumes nothing.
use Rattle.std.proofs.Common.{◌≡◌, ℕ, ◌≤◌, List, [], ◌∷◌, length, sym, refl, ap, ◌∙◌, subst, arith}
use Rattle.syntax.specs.Terms.{Term, Terms, var, unknown, con, call, case, both, not, equal, t[], ◌t∷◌}
use Rattle.syntax.specs.Typing.{Sig, Typed, AllTyped, each_of, arguments}
use Rattle.syntax.specs.Values.{Value, Values, build, v[], ◌v∷◌, OfType, OfTypes, of_type, of[], ◌of∷◌, as_term, as_terms, OnlyBuilt, AllBuilt}
use Rattle.ends.specs.Laws.{ValuesAreTerms}

module _ (sig : Sig) (s : List ℕ) (few : length s ≤ 64) where
  mutual
    from : (v : Value) (ty : ℕ) → OfType sig ty v → Typed sig s ty (as_term sig ty v) × OnlyBuilt (as_term sig ty v)
    from (build c vs) ty (of_type lt os) = let r = froms vs (arguments sig ty c) os in ((refl, lt, r.0), r.1)

    froms : (vs : Values) (ts : List ℕ) → OfTypes sig ts vs → AllTyped sig (each_of s ts) (as_terms sig ts vs) × AllBuilt (as_terms sig ts vs)
    froms v[] [] of[] = (tt, tt)
    froms v[] (t ∷ ts) o = elim o [ ]
    froms (v v∷ vs) [] o = elim o [ ]
    froms (v v∷ vs) (t ∷ ts) (o of∷ os) =
        let a = from v t o in
        let b = froms vs ts os in
        ((few, a.0, b.0), (a.1, b.1))

  mutual
    to : (t : Term) (ty : ℕ) → Typed sig s ty t → OnlyBuilt t → (v : Value) × OfType sig ty v × (as_term sig ty v ≡ t)
    to (var v) ty h m = absurd m
    to (unknown k) ty h m = absurd m
    to (con t c ts) ty h m =
        let r = tos ts (arguments sig ty c) h.2 m in
        (build c r.0, of_type h.1 r.1, ap (con ty c) r.2 ∙ ap (λ k. con k c ts) (sym h.0))
    to (call f ts) ty h m = absurd m
    to (case t u us) ty h m = absurd m
    to (both a b) ty h m = absurd m
    to (not a) ty h m = absurd m
    to (equal t a b) ty h m = absurd m

    tos : (us : Terms) (ts : List ℕ) → AllTyped sig (each_of s ts) us → AllBuilt us → (vs : Values) × OfTypes sig ts vs × (as_terms sig ts vs ≡ us)
    tos t[] [] h m = (v[], of[], refl)
    tos t[] (t ∷ ts) h m = absurd h
    tos (u t∷ us) [] h m = absurd h
    tos (u t∷ us) (t ∷ ts) h m =
        let a = to u t h.1 m.0 in
        let b = tos us ts h.2 m.1 in
        (a.0 v∷ b.0, a.1 of∷ b.1, ap (λ x. x t∷ as_terms sig ts b.0) a.2 ∙ ap (λ xs. u t∷ xs) b.2)

-- two values with one term
mutual
  only : (sig : Sig) (v w : Value) (ty : ℕ) → OfType sig ty v → OfType sig ty w → as_term sig ty v ≡ as_term sig ty w → v ≡ w
  only sig (build c vs) (build d ws) ty (of_type lt os) (of_type lt' os') e =
      let same : c ≡ d = cc in
      let terms : as_terms sig (arguments sig ty c) vs ≡ as_terms sig (arguments sig ty d) ws = cc in
      let os'' : OfTypes sig (arguments sig ty c) ws = subst (λ k. OfTypes sig (arguments sig ty k) ws) (sym same) os' in
      let terms' : as_terms sig (arguments sig ty c) vs ≡ as_terms sig (arguments sig ty c) ws = subst (λ k. as_terms sig (arguments sig ty c) vs ≡ as_terms sig (arguments sig ty k) ws) (sym same) terms in
      ap (λ k. build k vs) same ∙ ap (build d) (onlies sig vs ws (arguments sig ty c) os os'' terms')

  onlies : (sig : Sig) (vs ws : Values) (ts : List ℕ) → OfTypes sig ts vs → OfTypes sig ts ws → as_terms sig ts vs ≡ as_terms sig ts ws → vs ≡ ws
  onlies sig v[] v[] [] of[] of[] e = refl
  onlies sig v[] v[] (t ∷ ts) o o' e = elim o [ ]
  onlies sig v[] (w v∷ ws) ts o o' e = absurd (let z : ◌≡◌ {A = ℕ} 0 1 = cc in omega arith)
  onlies sig (v v∷ vs) v[] ts o o' e = absurd (let z : ◌≡◌ {A = ℕ} 0 1 = cc in omega arith)
  onlies sig (v v∷ vs) (w v∷ ws) [] o o' e = elim o [ ]
  onlies sig (v v∷ vs) (w v∷ ws) (t ∷ ts) (o of∷ os) (o' of∷ os') e =
      let head : as_term sig t v ≡ as_term sig t w = cc in
      let rest : as_terms sig ts vs ≡ as_terms sig ts ws = cc in
      ap (λ x. x v∷ vs) (only sig v w t o o' head) ∙ ap (λ xs. w v∷ xs) (onlies sig vs ws ts os os' rest)

pub values_are_terms_lem : ValuesAreTerms
values_are_terms_lem sig s few = record {
  from = λ v ty o. let r = from sig s few v ty o in (record { few = few; typed = r.0 }, r.1);
  to = λ t ty h m. to sig s few t ty h.typed m;
  only = λ v w ty o o' e. only sig v w ty o o' e;
}

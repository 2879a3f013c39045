-- What is found in the tables is what the definitions find in the records.
use Rattle.std.proofs.Common.{◌≡◌, ℕ, zero, suc, ◌+◌, ◌<◌, ◌≤◌, ◌∷◌, length, get_or, Some, None, Ok, Err, sym, ap, ◌∙◌, subst, arith}
use Rattle.std.proofs.lemmas.List.{get_or-map, length-map}
use Rattle.syntax.specs.declared.faults.Reason.TheVariants.{Undeclared, NoValue}
use Rattle.syntax.specs.Faults.{fault}
use Rattle.syntax.specs.declared.tables.Datatype.{Datatype}
use Rattle.syntax.specs.declared.tables.Signature.{Signature}
use Rattle.syntax.specs.Tables.{cases_in, declared_in}
use Rattle.syntax.specs.Typing.{Declared}
use Rattle.syntax.specs.Values.{build, v[], of_type, of[], Shallow}
use Rattle.syntax.specs.Least.{least_of}
use Rattle.syntax.specs.Problems.{bool, encode_type}
use Rattle.records.specs.Raw.{Raw}
use Rattle.tables.specs.Tabled.{places_of, mark_at, declared_by, Declares}
use Rattle.declarations.specs.Numbers.{first_from, of_tables, undeclared}
use Rattle.declarations.proofs.Tables.{tables_agree}
use Rattle.depths.specs.Laws.{Inhabited}
use Rattle.depths.specs.Least.{FirstWithout}
use Rattle.verdict.specs.Verdict.{deep, unless, types_in}
use Rattle.verdict.proofs.Examining.{declared_same}
use Rattle.verdict.proofs.Deep.{shallow_low, low_shallow, deep_none, deep_first}

module _ (sig : Signature) (start : ℕ) (raw : Raw) (h : Declares raw sig.types.now sig.functions.now sig.unknowns.now start) where
  same_declared : declared_in sig ≡ declared_by raw
  same_declared = declared_same raw sig.types.now sig.functions.now sig.unknowns.now start h

  same_count : length sig.types.now ≡ length (bool ∷ raw.types)
  same_count = sym (length-map sig.types.now cases_in) ∙ ap length h.of_types

  same_undeclared : first_from (length sig.types.now) (of_tables sig start) ≡ undeclared raw
  same_undeclared =
      ap (λ n. first_from n (of_tables sig start)) same_count
      ∙ ap (first_from (length (bool ∷ raw.types))) (tables_agree sig start raw h)

  pub types_undeclared : (p : ℕ) → Some p ≡ first_from (length sig.types.now) (of_tables sig start) → Err (fault Undeclared p) ≡ types_in raw
  types_undeclared p e = ap (λ o. unless o Undeclared (unless (deep raw) NoValue (Ok tt))) (e ∙ same_undeclared)

  all_known : None ≡ first_from (length sig.types.now) (of_tables sig start) → unless (deep raw) NoValue (Ok tt) ≡ types_in raw
  all_known e = ap (λ o. unless o Undeclared (unless (deep raw) NoValue (Ok tt))) (e ∙ same_undeclared)

  pub types_fine : None ≡ first_from (length sig.types.now) (of_tables sig start) → Inhabited (declared_in sig) → Ok tt ≡ types_in raw
  types_fine e i =
      let low : deep raw ≡ None =
      deep_none (declared_by raw) 1 raw.types 0
      (λ k l. let d : 1 + k < length (bool ∷ raw.types) = omega arith in
      shallow_low (declared_by raw) (1 + k) (subst (λ s. (t : ℕ) → Declared s t → Shallow s t 8) same_declared i (1 + k) d)) in
      ap (λ o. unless o NoValue (Ok tt)) (sym low) ∙ all_known e

  bool_shallow : Shallow (declared_by raw) 0 8
  bool_shallow = record { value = build 0 v[]; of = of_type (omega arith) of[]; low = omega arith }

  deep_at : (t : ℕ) → t < length (bool ∷ raw.types) → (Shallow (declared_by raw) t 8 → ⊥) → ((u : ℕ) → u < t → Shallow (declared_by raw) u 8)
      → deep raw ≡ Some (get_or (0 ∷ places_of mark_at encode_type 0 raw.types) t 0)
  deep_at zero d n f = absurd (n bool_shallow)
  deep_at (suc k) d n f =
      let e : 1 + k ≡ suc k = omega arith in
      deep_first (declared_by raw) 1 raw.types 0 k (omega arith)
      (λ l. n (low_shallow (declared_by raw) (suc k) (subst (λ t. least_of (declared_by raw) t ≤ 8) e l)))
      (λ j l. let q : suc j ≡ 1 + j = omega arith in
      subst (λ t. least_of (declared_by raw) t ≤ 8) q (shallow_low (declared_by raw) (suc j) (f (suc j) (omega arith))))

  pub types_deep : None ≡ first_from (length sig.types.now) (of_tables sig start) → (t : ℕ) → FirstWithout (declared_in sig) (Some t) → (d : Datatype)
      → Err (fault NoValue (get_or sig.types.now t d).at) ≡ types_in raw
  types_deep e t w d =
      let v = subst (λ s. FirstWithout s (Some t)) same_declared w in
      let long = same_count in
      let low : t < length sig.types.now = let a = v.0 in omega arith in
      let at = deep_at t v.0 v.1 v.2 in
      let here : (get_or sig.types.now t d).at ≡ get_or (0 ∷ places_of mark_at encode_type 0 raw.types) t 0 =
      sym (get_or-map (λ x. x.at) sig.types.now t d 0 low) ∙ ap (λ xs. get_or xs t 0) h.types_at in
      ap (λ p. unless (Some p) NoValue (Ok tt)) here ∙ (ap (λ o. unless o NoValue (Ok tt)) (sym at) ∙ all_known e)

-- The sections one after another are the records, and their tables hold them. Assumes nothing.
use Rattle.std.proofs.Common.{◌≡◌, ℕ, ◌+◌, ◌<◌, ◌≤◌, Bool, true, false, cond, leb, List, [], ◌∷◌, ◌++◌, map, length, get_or, take, drop, Ok, Err, Result, sym, refl, ap, ◌∙◌, subst, arith}
use Rattle.std.proofs.lemmas.List.{length-take, get_or-take}
use Rattle.syntax.specs.declared.faults.Fault.{Fault}
use Rattle.syntax.specs.declared.faults.Reason.TheVariants.{NoMark, BytesAfter}
use Rattle.syntax.specs.Faults.{fault}
use Rattle.syntax.specs.declared.tables.Datatype.{Datatype}
use Rattle.syntax.specs.declared.tables.Callable.{Callable}
use Rattle.syntax.specs.declared.tables.Span.{Span}
use Rattle.syntax.specs.Tables.{profile_in}
use Rattle.syntax.specs.Problems.{concat, encode_type, encode_unknown}
use Rattle.records.specs.Raw.{Raw, RawFunction, write_function, write_goal, write}
use Rattle.records.specs.Reading.{and_then, many, type_of, function_of, byte_of, part_of, starts, end_of, records}
use Rattle.records.specs.declared.reader.Reader.{Reader}
use Rattle.tables.specs.declared.filling.Counts.{Counts}
use Rattle.records.specs.Readers.{ahead_of}
use Rattle.tables.specs.Tabled.{places_of, mark_at, functions_start, unknowns_start, goals_start, Inside, function_in, Tabled}
use Rattle.tables.specs.Sections.{Section}
use Rattle.tables.proofs.Held.{TypesHeld, FunctionsHeld, UnknownsHeld, GoalsHeld}
use Rattle.tables.proofs.Exactness.{after_goals, after_unknowns, after_functions, after_types, short_enough, end_sound, within_limits}
use Rattle.records.proofs.Passed.{place_after}

same_faults : {A B : Type 0} {f g : Fault} → ◌≡◌ {A = Result A Fault} (Err f) (Err g) → ◌≡◌ {A = Result B Fault} (Err f) (Err g)
same_faults {f = f} {g = g} e = let h : f ≡ g = cc in ap Err h

-- the end is refused alike, whatever was read before it
end_refused : {A B : Type 0} (x : A) (y : B) (xs : List ℕ) (p : ℕ) {f : Fault} → end_of x xs p ≡ Err f → end_of y xs p ≡ Err f
end_refused {A} {B} x y xs p {f} e = by (starts 0x45 0x4E xs) (leb (length xs) 2) e
  where
    by : (t u : Bool) → ◌≡◌ {A = Result A Fault} (cond t (cond u (Ok x) (Err (fault BytesAfter (p + 2)))) (Err (fault NoMark p))) (Err f) →
        ◌≡◌ {A = Result B Fault} (cond t (cond u (Ok y) (Err (fault BytesAfter (p + 2)))) (Err (fault NoMark p))) (Err f)
    by false u e = same_faults e
    by true false e = same_faults e
    by true true e = cc

end_there : {A B : Type 0} (x : A) (y : B) (xs : List ℕ) (p : ℕ) → end_of x xs p ≡ Ok x → end_of y xs p ≡ Ok y
end_there {A} {B} x y xs p e = ap (λ k. end_of y k p) (end_sound x x xs p e).1

-- the profiles in a table of functions
profiles : (bs : List ℕ) (table : List Callable) → map profile_in table ≡ map (λ f. f.profile) (map (function_in bs) table)
profiles bs [] = refl
profiles bs (t ∷ ts) = ap (λ k. profile_in t ∷ k) (profiles bs ts)

-- what holds of the first n entries holds of the table cut to them
each_of_front : {T : Type 0} (P : T → Type 0) (table : List T) (n : ℕ) → ((k : ℕ) (d : T) → k < n → P (get_or table k d)) → (k : ℕ) (d : T) → k < length (take n table) → P (get_or (take n table) k d)
each_of_front P table n h k d low =
    let less : k < n = omega (arith, length-take n table) in
    subst P (sym (get_or-take n table k d less)) (h k d less)

module _ (bs : List ℕ) (short : length bs ≤ 16384) (r₀ : Reader) (whole : r₀.bytes.now ≡ bs) (start : r₀.at ≡ 0) where
  all_ahead : ahead_of r₀ ≡ bs
  all_ahead = ap (λ k. drop k r₀.bytes.now) start ∙ whole

  first_section : records bs ≡ and_then (many type_of 0x44 0x54 31 (ahead_of r₀) r₀.at) after_types
  first_section =
      short_enough bs short
      ∙ ap (λ k. and_then (many type_of 0x44 0x54 31 k 0) after_types) (sym all_ahead)
      ∙ ap (λ k. and_then (many type_of 0x44 0x54 31 (ahead_of r₀) k) after_types) (sym start)

  pub types_refused : {f : Fault} → many type_of 0x44 0x54 31 (ahead_of r₀) r₀.at ≡ Err f → records bs ≡ Err f
  types_refused e = first_section ∙ ap (λ d. and_then d after_types) e

  module _ {r₁ : Reader} {ts : List (List (List ℕ))} (s₁ : Section type_of encode_type 0x44 0x54 31 r₀ r₁ ts) where
    types_read : records bs ≡ after_types (record { value = ts; rest = ahead_of r₁; at = r₁.at })
    types_read = first_section ∙ ap (λ d. and_then d after_types) s₁.is

    pub functions_refused : {f : Fault} → many function_of 0x46 0x4E 64 (ahead_of r₁) r₁.at ≡ Err f → records bs ≡ Err f
    functions_refused e = types_read ∙ ap (λ d. and_then d (after_functions ts)) e

    module _ {r₂ : Reader} {fs : List RawFunction} (s₂ : Section function_of write_function 0x46 0x4E 64 r₁ r₂ fs) where
      functions_read : records bs ≡ after_functions ts (record { value = fs; rest = ahead_of r₂; at = r₂.at })
      functions_read = types_read ∙ ap (λ d. and_then d (after_functions ts)) s₂.is

      pub unknowns_refused : {f : Fault} → many byte_of 0x55 0x4B 16 (ahead_of r₂) r₂.at ≡ Err f → records bs ≡ Err f
      unknowns_refused e = functions_read ∙ ap (λ d. and_then d (after_unknowns ts fs)) e

      module _ {r₃ : Reader} {us : List ℕ} (s₃ : Section byte_of encode_unknown 0x55 0x4B 16 r₂ r₃ us) where
        unknowns_read : records bs ≡ after_unknowns ts fs (record { value = us; rest = ahead_of r₃; at = r₃.at })
        unknowns_read = functions_read ∙ ap (λ d. and_then d (after_unknowns ts fs)) s₃.is

        pub goals_refused : {f : Fault} → many part_of 0x47 0x4C 32 (ahead_of r₃) r₃.at ≡ Err f → records bs ≡ Err f
        goals_refused e = unknowns_read ∙ ap (λ d. and_then d (after_goals ts fs us)) e

        module _ {r₄ : Reader} {gs : List (List ℕ)} (s₄ : Section part_of write_goal 0x47 0x4C 32 r₃ r₄ gs) where
          abbrev all_read : Raw
          all_read = record { types = ts; functions = fs; unknowns = us; goals = gs }

          goals_read : records bs ≡ end_of all_read (ahead_of r₄) r₄.at
          goals_read = unknowns_read ∙ ap (λ d. and_then d (after_goals ts fs us)) s₄.is

          pub end_is_refused : {f : Fault} → end_of (tt {0}) (ahead_of r₄) r₄.at ≡ Err f → records bs ≡ Err f
          end_is_refused e = goals_read ∙ end_refused (tt {0}) all_read (ahead_of r₄) r₄.at e

          module _ (e : end_of (tt {0}) (ahead_of r₄) r₄.at ≡ Ok (tt {0})) where
            pub whole_read : records bs ≡ Ok all_read
            whole_read = goals_read ∙ end_there (tt {0}) all_read (ahead_of r₄) r₄.at e

            pub whole_written : write all_read ≡ bs
            whole_written =
                sym (sym all_ahead ∙ s₁.front
                ∙ ap (λ k. concat encode_type ts ++ k) (s₂.front
                ∙ ap (λ k. concat write_function fs ++ k) (s₃.front
                ∙ ap (λ k. concat encode_unknown us ++ k) (s₄.front
                ∙ ap (λ k. concat write_goal gs ++ k) (end_sound (tt {0}) (tt {0}) (ahead_of r₄) r₄.at e).1))))

            pub at_functions : r₁.at ≡ functions_start all_read
            at_functions = omega (arith, place_after r₀ r₁ (concat encode_type ts) s₁.same s₁.front, start)

            pub at_unknowns : r₂.at ≡ unknowns_start all_read
            at_unknowns = place_after r₁ r₂ (concat write_function fs) s₂.same s₂.front ∙ ap (λ k. k + length (concat write_function fs)) at_functions

            pub at_goals : r₃.at ≡ goals_start all_read
            at_goals = place_after r₂ r₃ (concat encode_unknown us) s₃.same s₃.front ∙ ap (λ k. k + length (concat encode_unknown us)) at_unknowns

            pub bytes_of_functions : r₁.bytes.now ≡ bs
            bytes_of_functions = s₁.same ∙ whole

            pub bytes_of_goals : r₃.bytes.now ≡ bs
            bytes_of_goals = s₃.same ∙ s₂.same ∙ bytes_of_functions

            pub tabled : {types : List Datatype} {functions : List Callable} {unknowns : List ℕ} {goals : List Span} (n : Counts) →
                TypesHeld r₀.at types n.types ts → FunctionsHeld r₁.bytes.now r₁.at functions n.functions fs → UnknownsHeld unknowns n.unknowns us →
                GoalsHeld r₃.bytes.now r₃.at goals n.goals gs → n.start ≡ r₂.at → Tabled bs all_read types functions unknowns goals n
            tabled {types} {functions} {unknowns} {goals} n h₁ h₂ h₃ h₄ place =
                let k₂ = subst (λ p. FunctionsHeld bs p functions n.functions fs) at_functions (subst (λ b. FunctionsHeld b r₁.at functions n.functions fs) bytes_of_functions h₂) in
                let k₄ = subst (λ p. GoalsHeld bs p goals n.goals gs) at_goals (subst (λ b. GoalsHeld b r₃.at goals n.goals gs) bytes_of_goals h₄) in
                record {
                  read = whole_read;
                  written = whole_written;
                  within = within_limits bs all_read whole_read whole_written;
                  types_count = h₁.long;
                  functions_count = h₂.long;
                  unknowns_count = h₃.long;
                  goals_count = h₄.long;
                  declares = record {
                    of_types = h₁.cases;
                    types_at = h₁.marks ∙ ap (λ p. 0 ∷ places_of mark_at encode_type p ts) start;
                    of_functions = profiles bs (take n.functions functions) ∙ ap (map (λ f. f.profile)) k₂.are;
                    functions_at = k₂.marks;
                    of_unknowns = h₃.are;
                    starts = place ∙ at_unknowns;
                  };
                  locates = record {
                    of_bodies = k₂.are;
                    bodies_at = k₂.bodies;
                    bodies_inside = each_of_front (λ f. Inside bs f.body) functions n.functions k₂.inside;
                    of_goals = k₄.are;
                    goals_at = k₄.terms;
                    goals_inside = each_of_front (Inside bs) goals n.goals k₄.inside;
                  };
                }

-- The tables hold the records' type numbers at the records' places.
use Rattle.std.proofs.Common.{◌≡◌, ℕ, ◌+◌, List, [], ◌∷◌, ◌++◌, map, length, refl, ap, ◌∙◌}
use Rattle.syntax.specs.declared.tables.Datatype.{Datatype}
use Rattle.syntax.specs.declared.tables.Callable.{Callable}
use Rattle.syntax.specs.declared.tables.Signature.{Signature}
use Rattle.syntax.specs.Tables.{listed, cases_in, profile_in}
use Rattle.syntax.specs.Typing.{Profile}
use Rattle.syntax.specs.Problems.{bool, encode_type}
use Rattle.records.specs.Raw.{Raw, RawFunction, write_function}
use Rattle.tables.specs.Tabled.{places_of, mark_at, functions_start, Declares}
use Rattle.declarations.specs.Numbers.{in_cases, in_types, in_profile, in_functions, in_unknowns, numbers_in, of_types, of_functions, of_tables}

types_agree : (ds : List Datatype) (ts : List (List (List ℕ))) (p : ℕ) → map cases_in ds ≡ ts → map (λ d. d.at) ds ≡ places_of mark_at encode_type p ts
    → of_types ds ≡ in_types p ts
types_agree [] [] p e f = refl
types_agree [] (t ∷ ts) p e f = cc
types_agree (d ∷ ds) [] p e f = cc
types_agree (d ∷ ds) (t ∷ ts) p e f =
    let same : cases_in d ≡ t = cc in
    let rest : map cases_in ds ≡ ts = cc in
    let at : d.at ≡ p = cc in
    let later : map (λ x. x.at) ds ≡ places_of mark_at encode_type (p + length (encode_type t)) ts = cc in
    ap (λ q. in_cases (q + 3) (cases_in d) ++ of_types ds) at
    ∙ (ap (λ cs. in_cases (p + 3) cs ++ of_types ds) same ∙ ap (λ xs. in_cases (p + 3) t ++ xs) (types_agree ds ts (p + length (encode_type t)) rest later))

functions_agree : (fs : List Callable) (rs : List RawFunction) (p : ℕ) → map profile_in fs ≡ map (λ f. f.profile) rs
    → map (λ f. f.at) fs ≡ places_of mark_at write_function p rs → of_functions fs ≡ in_functions p rs
functions_agree [] [] p e f = refl
functions_agree [] (r ∷ rs) p e f = cc
functions_agree (d ∷ ds) [] p e f = cc
functions_agree (d ∷ ds) (r ∷ rs) p e f =
    let same : profile_in d ≡ r.profile = cc in
    let rest : map profile_in ds ≡ map (λ x. x.profile) rs = cc in
    let at : d.at ≡ p = cc in
    let later : map (λ x. x.at) ds ≡ places_of mark_at write_function (p + length (write_function r)) rs = cc in
    ap (λ q. in_profile q (listed d.params) d.result ++ of_functions ds) at
    ∙ (ap (λ (x : Profile). in_profile p x.params x.result ++ of_functions ds) same
    ∙ ap (λ xs. in_profile p r.profile.params r.profile.result ++ xs) (functions_agree ds rs (p + length (write_function r)) rest later))

-- Bool stands first in the table, at place 0, and takes no types
with_bool : (ds : List Datatype) (ts : List (List (List ℕ))) → map cases_in ds ≡ bool ∷ ts → map (λ d. d.at) ds ≡ 0 ∷ places_of mark_at encode_type 0 ts
    → of_types ds ≡ in_types 0 ts
with_bool [] ts e f = cc
with_bool (d ∷ ds) ts e f =
    let same : cases_in d ≡ bool = cc in
    let rest : map cases_in ds ≡ ts = cc in
    let later : map (λ x. x.at) ds ≡ places_of mark_at encode_type 0 ts = cc in
    ap (λ cs. in_cases (d.at + 3) cs ++ of_types ds) same ∙ types_agree ds ts 0 rest later

pub tables_agree : (sig : Signature) (start : ℕ) (r : Raw) → Declares r sig.types.now sig.functions.now sig.unknowns.now start → of_tables sig start ≡ numbers_in r
tables_agree sig start r h =
    ap (λ xs. xs ++ (of_functions sig.functions.now ++ in_unknowns start sig.unknowns.now)) (with_bool sig.types.now r.types h.of_types h.types_at)
    ∙ (ap (λ xs. in_types 0 r.types ++ (xs ++ in_unknowns start sig.unknowns.now)) (functions_agree sig.functions.now r.functions _ h.of_functions h.functions_at)
    ∙ (ap (λ us. in_types 0 r.types ++ (in_functions (functions_start r) r.functions ++ in_unknowns start us)) h.of_unknowns
    ∙ ap (λ p. in_types 0 r.types ++ (in_functions (functions_start r) r.functions ++ in_unknowns p r.unknowns)) h.starts))

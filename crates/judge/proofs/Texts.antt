-- Terms in the bytes of a problem: from what its queries promise to what a view shows.
use Rattle.std.proofs.Common.{◌≡◌, ℕ, zero, suc, ◌<◌, ◌≤◌, List, [], ◌∷◌, ◌++◌, length, sym, refl, ap, ◌∙◌, subst, arith}
use lib.ListN.{length-map}
use Rattle.syntax.specs.Terms.{Term, Terms, t[], ◌t∷◌}
use Rattle.syntax.specs.Typing.{Sig, Want, want, each_of, branches_of, arguments, params_of, cases_of}
use Rattle.syntax.specs.Problems.{Function}
use Rattle.ends.specs.Ends.{StandsAt, hop, hops, ends_of}
use Rattle.problem.specs.declared.problem.Problem.{Problem}
use Rattle.problem.specs.declared.view.View.{View}
use Rattle.problem.specs.declared.view.View.TheVariants.{Variable, Unknown, Constructor, Call, Case, And, Not, Equal, Nothing}
use Rattle.problem.specs.Meant.{held, sig, ends}
use Rattle.problem.specs.Views as views
use Rattle.problem.specs.Views.{Row, AlwaysShows}
use Rattle.judging.specs.Held.{branch, missing}
use Rattle.held.specs.Reading.{Text, Reads}
use Rattle.judge.specs.Texts.{text_of, sig_in, ReadsAll, tlength}
use Rattle.judge.specs.Views.{Shows}
use Rattle.problem.proofs.Lawfulness.{lawful}
use Rattle.judge.proofs.Limits.{arguments_few, params_few}

pub reads : {x : Text} {place : ℕ} {w : Want} {t : Term} → StandsAt (sig_in x) x.bytes place w t → Reads x place t
reads {x} {place} {w} {t} s = record { scope = w.scope; ty = w.ty; others = s.others; here = s.is; typed = s.has }

stands : {x : Text} {place : ℕ} {t : Term} (r : Reads x place t) → StandsAt (sig_in x) x.bytes place (want r.scope r.ty) t
stands r = record { others = r.others; has = r.typed; is = r.here }

first_row : (x : Text) (place : ℕ) (t : Term) (ts : Terms) (ws : List Want) → Row (sig_in x) x.bytes (ends_of (sig_in x) x.bytes) place ws (t t∷ ts)
    → Reads x place t
first_row x place t ts [] r = absurd r
first_row x place t ts (w ∷ ws) r = reads r.0

pub first_of : {x : Text} {place : ℕ} {t : Term} {ts : Terms} → ReadsAll x place (t t∷ ts) → Reads x place t
first_of {x} {place} {t} {ts} r = first_row x place t ts r.wants r.row

rest_row : (x : Text) (place q : ℕ) (t : Term) (ts : Terms) (ws : List Want) → q ≡ hop (ends_of (sig_in x) x.bytes) place
    → Row (sig_in x) x.bytes (ends_of (sig_in x) x.bytes) place ws (t t∷ ts) → ReadsAll x q ts
rest_row x place q t ts [] e r = absurd r
rest_row x place q t ts (w ∷ ws) e r = subst (λ (i : ℕ). ReadsAll x i ts) (sym e) (record { wants = ws; row = r.1 })

pub rest_of : (p : Problem) (place q : ℕ) → q ≡ hop (ends p) place → (t : Term) (ts : Terms) → ReadsAll (text_of p) place (t t∷ ts) → ReadsAll (text_of p) q ts
rest_of p place q e t ts r = rest_row (text_of p) place q t ts r.wants e r.row

row_length : (sig : Sig) (bytes next : List ℕ) (q : ℕ) (ws : List Want) (ts : Terms) → Row sig bytes next q ws ts → length ws ≡ tlength ts
row_length sig bytes next q [] t[] r = refl
row_length sig bytes next q [] (t t∷ ts) r = absurd r
row_length sig bytes next q (w ∷ ws) t[] r = absurd r
row_length sig bytes next q (w ∷ ws) (t t∷ ts) r = ap suc (row_length sig bytes next (hop next q) ws ts r.1)

by_view : (p : Problem) (place : ℕ) (t : Term) (w : Want) (v : View) → views.Shows (sig p) (held p) (ends p) w t v → Shows (text_of p) v t
by_view p place t w (Variable v) s = s.is
by_view p place t w (Unknown k) s = s.is
by_view p place t w (Constructor ty c n q) s =
    let len = row_length (sig p) (held p) (ends p) q _ s.terms s.row in
    let same : length (each_of w.scope (arguments (sig p) ty c)) ≡ length (arguments (sig p) ty c) = length-map (arguments (sig p) ty c) (want w.scope) in
    let few = arguments_few (lawful p) ty c in
    (s.terms, s.is, s.counts ∙ sym same ∙ len, omega (arith, s.counts), record { wants = each_of w.scope (arguments (sig p) ty c); row = s.row })
by_view p place t w (Call f n q) s =
    let len = row_length (sig p) (held p) (ends p) q _ s.terms s.row in
    let same : length (each_of w.scope (params_of (sig p) f)) ≡ length (params_of (sig p) f) = length-map (params_of (sig p) f) (want w.scope) in
    let few = params_few (lawful p) f in
    let all = length-map (text_of p).problem.functions (λ (f : Function). f.profile) in
    (s.terms, s.is, s.counts ∙ sym same ∙ len, omega (arith, s.counts), omega (arith, s.known), record { wants = each_of w.scope (params_of (sig p) f); row = s.row })
by_view p place t w (Case ty q) s =
    let bs = branches_of w.scope w.ty (cases_of (sig p) ty) in
    let len = row_length (sig p) (held p) (ends p) (hop (ends p) q) bs s.branches s.row in
    let same : length bs ≡ length (cases_of (sig p) ty) = length-map (cases_of (sig p) ty) (λ (tys : List ℕ). want (w.scope ++ tys) w.ty) in
    (s.subject, s.branches, s.is, sym same ∙ len, reads s.stands, record { wants = want w.scope ty ∷ bs; row = (s.stands, s.row) })
by_view p place t w (And l r) s = (s.left, s.right, s.is, reads s.stands_left, reads s.stands_right)
by_view p place t w (Not q) s = (s.inner, s.is, reads s.stands)
by_view p place t w (Equal l r) s = (s.ty, s.left, s.right, s.is, reads s.stands_left, reads s.stands_right)
by_view p place t w Nothing s = s

-- what a view of a problem shows of a term that is written at its place
pub shown : (p : Problem) (place : ℕ) (v : View) → AlwaysShows (sig p) (held p) (ends p) place v → (t : Term) → Reads (text_of p) place t → Shows (text_of p) v t
shown p place v h t r = by_view p place t (want r.scope r.ty) v (h (want r.scope r.ty) t (stands r))

-- the branch for a constructor stands as many hops after the first
pub branch_reads : (p : Problem) (place k : ℕ) (ts : Terms) → k < tlength ts → ReadsAll (text_of p) place ts
    → Reads (text_of p) (hops (ends p) k place) (branch ts k)
branch_reads p place k t[] lt r = absurd (omega arith)
branch_reads p place zero (t t∷ ts) lt r = first_of r
branch_reads p place (suc k) (t t∷ ts) lt r =
    branch_reads p (hop (ends p) place) k ts (omega arith) (rest_of p place (hop (ends p) place) refl t ts r)

pub no_branch : (ts : Terms) (c : ℕ) → tlength ts ≤ c → branch ts c ≡ missing
no_branch t[] c h = refl
no_branch (t t∷ ts) zero h = absurd (omega arith)
no_branch (t t∷ ts) (suc c) h = no_branch ts c (omega arith)

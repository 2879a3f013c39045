-- What a view of a place says of the term that is written there. Assumes nothing.
use Rattle.std.specs.Prelude.{◌≡◌, ℕ, ◌<◌, ◌≤◌, length}
use Rattle.syntax.specs.Terms.{Term, var, unknown, con, call, case, both, not, equal, Terms, ◌t∷◌}
use Rattle.syntax.specs.Typing.{constructors}
use Rattle.syntax.specs.Problems.{sig_of}
use Rattle.problem.specs.declared.view.View.{View}
use Rattle.problem.specs.declared.view.View.TheVariants.{Variable, Unknown, Constructor, Call, Case, And, Not, Equal, Nothing}
use Rattle.held.specs.Reading.{Text, Reads}
use Rattle.judge.specs.Texts.{ReadsAll, tlength}

-- By cases on the view, so that a known view gives the term's equation at once.
abbrev pub Shows : Text → View → Term → Type 0
Shows x (Variable v) t = t ≡ var v
Shows x (Unknown k) t = t ≡ unknown k
Shows x (Constructor ty c n at) t = (ts : Terms) × (t ≡ con ty c ts) × (n ≡ tlength ts) × (n ≤ 6) × ReadsAll x at ts
Shows x (Call f n at) t =
    (ts : Terms) × (t ≡ call f ts) × (n ≡ tlength ts) × (n ≤ 6) × (f < length x.problem.functions) × ReadsAll x at ts
Shows x (Case ty s) t =
    (u : Term) × (us : Terms) × (t ≡ case ty u us) × (constructors (sig_of x.problem) ty ≡ tlength us) × Reads x s u × ReadsAll x s (u t∷ us)
Shows x (And l r) t = (a b : Term) × (t ≡ both a b) × Reads x l a × Reads x r b
Shows x (Not s) t = (a : Term) × (t ≡ not a) × Reads x s a
Shows x (Equal l r) t = (ty : ℕ) × (a b : Term) × (t ≡ equal ty a b) × Reads x l a × Reads x r b
Shows x Nothing t = ⊥

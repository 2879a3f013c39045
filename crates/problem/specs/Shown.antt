-- How the head of a term is written for a reader. Assumes nothing.
use Rattle.std.specs.Prelude.{ℕ, List, ◌++◌, codes}
use Rattle.std.specs.Fmt.{decimal}
use Rattle.problem.specs.declared.view.View.{View}
use Rattle.problem.specs.declared.view.View.TheVariants.{Variable, Unknown, Constructor, Call, Case, And, Not, Equal, Nothing}

abbrev pub view_text : View → List ℕ
view_text (Variable v) = codes "variable " ++ decimal v
view_text (Unknown k) = codes "unknown " ++ decimal k
view_text (Constructor ty c arity q) = codes "constructor " ++ decimal c ++ codes " of type " ++ decimal ty ++ codes ", " ++ decimal arity ++ codes " from " ++ decimal q
view_text (Call f arity q) = codes "call of " ++ decimal f ++ codes ", " ++ decimal arity ++ codes " from " ++ decimal q
view_text (Case ty q) = codes "case of type " ++ decimal ty ++ codes ", subject " ++ decimal q
view_text (And l r) = codes "and of " ++ decimal l ++ codes " and " ++ decimal r
view_text (Not q) = codes "not of " ++ decimal q
view_text (Equal l r) = codes "equal of " ++ decimal l ++ codes " and " ++ decimal r
view_text Nothing = codes "nothing"

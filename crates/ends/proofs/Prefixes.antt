-- A place in bytes has at most one typed term: by the table of ends two of them have one length. Assumes nothing.
use Rattle.std.proofs.Common.{◌≡◌, ℕ, ◌≤◌, List, ◌++◌, length, take, drop, sym, refl, ap, ◌∙◌, arith}
use Rattle.std.proofs.lemmas.List.{take_at, drop_at}
use Rattle.syntax.specs.Terms.{Term, encode}
use Rattle.syntax.specs.Typing.{Sig, HasType}
use Rattle.reading.proofs.Verdicts.{unique}
use Rattle.ends.specs.Laws.{PrefixFree}
use Rattle.ends.proofs.Filling.{ends_stand}

pub same_long : (sig : Sig) (s s' : List ℕ) (ty ty' : ℕ) (t u : Term) (xs ys : List ℕ) → HasType sig s t ty → HasType sig s' u ty'
    → encode t ++ xs ≡ encode u ++ ys → length (encode t) ≡ length (encode u)
same_long sig s s' ty ty' t u xs ys h g e =
    let bytes = encode t ++ xs in
    let first : 0 ≤ 0 = omega arith in
    let a = ends_stand sig bytes 0 first s ty t xs h refl in
    let b = ends_stand sig bytes 0 first s' ty' u ys g e in
    omega arith

pub prefix_free_lem : PrefixFree
prefix_free_lem sig s ty t u xs ys h g e =
    let n = same_long sig s s ty ty t u xs ys h g e in
    let same = sym (take_at (encode t) xs (length (encode u)) n) ∙ ap (take (length (encode u))) e ∙ take_at (encode u) ys (length (encode u)) refl in (
      unique sig s ty (encode u) u t g refl h same,
      sym (drop_at (encode t) xs (length (encode u)) n) ∙ ap (drop (length (encode u))) e ∙ drop_at (encode u) ys (length (encode u)) refl,
    )

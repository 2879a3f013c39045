-- A link, seen as the index of the place that it goes to, if there is one. Assumes nothing.
use Rattle.std.specs.Prelude.{◌≡◌, ℕ, zero, suc, Some, None, Option, refl}
use Rattle.std.proofs.Common.{ap}
use Rattle.held.specs.declared.links.Link.TheInside.{Inside}

abbrev pub index_of : ℕ → Option ℕ
index_of zero = None
index_of (suc i) = Some i

-- how many places there are up to the one that a link goes to
abbrev pub above : Option ℕ → ℕ
above None = 0
above (Some i) = suc i

abbrev pub link_view : Inside → Option ℕ
link_view a = index_of a.above

abbrev pub link_inverse : Option ℕ → Inside
link_inverse o = record { above = above o }

above_index : (n : ℕ) → above (index_of n) ≡ n
above_index zero = refl
above_index (suc i) = refl

pub link_inverse_ok : (a : Inside) → link_inverse (link_view a) ≡ a
link_inverse_ok a =
    let with_above : ℕ → Inside = λ n. record { above = n } in
    ap with_above (above_index a.above)

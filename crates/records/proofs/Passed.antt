-- Where a reader stands after bytes that it passed. Assumes nothing.
use Rattle.std.proofs.Common.{◌≡◌, ℕ, ◌+◌, ◌-◌, ◌≤◌, List, ◌++◌, length, take, drop, sym, ap, ◌∙◌, arith}
use Rattle.std.proofs.lemmas.List.{length-append, length-drop, drop-drop, take-append-drop}
use Rattle.records.specs.declared.reader.Reader.{Reader}
use Rattle.records.specs.Readers.{ahead_of}

-- the place after the bytes xs
pub place_after : (r s : Reader) (xs : List ℕ) → s.bytes.now ≡ r.bytes.now → ahead_of r ≡ xs ++ ahead_of s → s.at ≡ r.at + length xs
place_after r s xs same e =
    let long = ap length e ∙ length-append xs (ahead_of s) in
    let whole = ap length same in
    omega (arith, long, whole, length-drop r.at r.bytes.now, length-drop s.at s.bytes.now, r.within, s.within)

-- the bytes between two places
pub between_places : (r s : Reader) → s.bytes.now ≡ r.bytes.now → r.at ≤ s.at → ahead_of r ≡ take (s.at - r.at) (ahead_of r) ++ ahead_of s
between_places r s same low =
    let sum : r.at + (s.at - r.at) ≡ s.at = omega arith in
    sym (take-append-drop (s.at - r.at) (ahead_of r))
    ∙ ap (λ k. take (s.at - r.at) (ahead_of r) ++ k)
    (drop-drop (s.at - r.at) r.at r.bytes.now ∙ ap (λ k. drop k r.bytes.now) sum ∙ ap (drop s.at) (sym same))

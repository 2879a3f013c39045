-- Writing one list and then another is writing both, and what was written first stays. Assumes nothing.
use Rattle.std.proofs.Common.{◌≡◌, ℕ, zero, suc, ◌≤◌, List, [], ◌∷◌, ◌++◌, length, take, sym, refl, ap, ◌∙◌, arith, append_assoc, length-append}
use Rattle.std.proofs.lemmas.List.{take_all, take-take, take_at, length-take-le}
use Rattle.assuming.specs.declared.writer.LiteralWriter.{LiteralWriter}
use Rattle.assuming.specs.Written.{written, Pushed}

-- to cut off what would be cut off anyway changes nothing
take_behind : (n : ℕ) (xs ys : List ℕ) → take n (take n xs ++ ys) ≡ take n (xs ++ ys)
take_behind zero xs ys = refl
take_behind (suc n) [] ys = refl
take_behind (suc n) (x ∷ xs) ys = ap (λ (zs : List ℕ). x ∷ zs) (take_behind n xs ys)

pub pushed_both : (a b c : LiteralWriter) (ls ms : List ℕ) → Pushed a b ls → Pushed b c ms → Pushed a c (ls ++ ms)
pushed_both a b c ls ms p q =
    let room = length a.literals.now in
    record {
      long = q.long ∙ p.long;
      up = omega (arith, p.up, q.up);
      within = λ h. omega (arith, p.long, q.within (omega (arith, p.long, p.within h)));
      holds =
          q.holds
          ∙ ap (λ (n : ℕ). take n (written b ++ ms)) p.long
          ∙ ap (λ (zs : List ℕ). take room (zs ++ ms)) p.holds
          ∙ take_behind room (written a ++ ls) ms
          ∙ ap (take room) (append_assoc (written a) ls ms);
    }

-- first ls, then ms, where there is room for both
module _ (a b c : LiteralWriter) (ls ms : List ℕ) (empty : a.len ≡ 0) (p : Pushed a b ls) (q : Pushed b c ms) (room : length (ls ++ ms) ≤ length a.literals.now) where
  begun : written a ≡ []
  begun = ap (λ (n : ℕ). take n a.literals.now) empty

  first : written b ≡ ls
  first =
      p.holds
      ∙ ap (λ (zs : List ℕ). take (length a.literals.now) (zs ++ ls)) begun
      ∙ take_all (length a.literals.now) ls (omega (arith, length-append ls ms))

  pub all_written : written c ≡ ls ++ ms
  all_written =
      q.holds
      ∙ ap (λ (n : ℕ). take n (written b ++ ms)) p.long
      ∙ ap (λ (zs : List ℕ). take (length a.literals.now) (zs ++ ms)) first
      ∙ take_all (length a.literals.now) (ls ++ ms) room

  long_first : length ls ≡ b.len
  long_first =
      sym (ap length first)
      ∙ length-take-le b.len b.literals.now (omega (arith, p.long, p.within (omega (arith, empty))))

  pub first_written : take b.len c.literals.now ≡ ls
  first_written =
      sym (take-take b.len c.len c.literals.now q.up)
      ∙ ap (take b.len) all_written
      ∙ take_at ls ms b.len long_first

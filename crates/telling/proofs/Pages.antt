-- Texts that are added one after another are added as one, and what a page holds that was empty.
use Rattle.std.proofs.Common.{◌≡◌, ◌≤◌, List, ℕ, [], ◌∷◌, ◌++◌, length, drop, sym, refl, ap, subst, append_assoc}
use Rattle.telling.specs.declared.page.Page.{Page}
use Rattle.telling.specs.Pages.{Holds, Adds}

pub adds_then : {a b c : Page} (t u : List ℕ) → Adds a t b → Adds b u c → Adds a (t ++ u) c
adds_then {a} {b} {c} t u first then before held h =
    subst (λ l. Holds before l c) (append_assoc held t u) (then before (held ++ t) (first before held h))

pub measured : {a b : Page} (t before : List ℕ) → Holds before [] a → Adds a t b → b.length ≡ length t
measured t before empty adds = (adds before [] empty).counted

pub in_full : {a b : Page} (t before : List ℕ) → Holds before [] a → Adds a t b → length t ≤ length before
    → b.output.now ≡ t ++ drop (length t) before
in_full t before empty adds = (adds before [] empty).written

append_none : (xs : List ℕ) → xs ++ [] ≡ xs
append_none [] = refl
append_none (x ∷ xs) = ap (λ l. x ∷ l) (append_none xs)

pub adds_none : (p : Page) → Adds p [] p
adds_none p before held h = subst (λ l. Holds before l p) (sym (append_none held)) h

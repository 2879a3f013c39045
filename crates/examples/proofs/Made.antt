-- Searches that are accepted and make rounds. Assumes nothing.
use Rattle.std.proofs.Common.{◌≡◌, ℕ, Bool, true, false, sym, refl, ◌∙◌}
use mathlib.Core.Option.{none, none-ne-some}
use Rattle.std.proofs.lemmas.Bool.{and_from, eq-eqb, cond-true, both_ways}
use Rattle.chooser.specs.Meaning.{Meaning}
use Rattle.finder.specs.Levels.{measures, too_shallow}
use Rattle.finder.specs.Ways.{Way}
use Rattle.histories.specs.States.{Session, State, begun}
use Rattle.histories.specs.Rounds.{Answer, Known, Runs}
use Rattle.histories.specs.Calls.{between, seen, search_refusal, Reply, answered, after_search, known, search_refused, search_shallow, search_made}
use Rattle.examples.specs.Sessions.{Fresh, Search}
use Rattle.examples.proofs.Turns.{At}

-- a search that is not refused, and is not too shallow
pub record Made (n : ℕ) (s : Session) (M : Meaning) (r : Reply) (S' : State) (M' : Meaning) : Type 0 where
  pub answer : Answer
  pub knows : Known
  pub replies : r ≡ answered answer
  pub comes_to : S' ≡ begun (after_search s knows M' n 512 answer.outcome)
  pub runs : Runs s.problem s.force n 512 1000 (known s) M answer knows M'

pub accepted : (n : ℕ) (s : Session) (M : Meaning) → between 1 64 n ≡ true → M.count ≡ s.count → M.left ≡ s.left
    → search_refusal (begun s) M n 1000 512 true ≡ none
accepted n s M b c l =
    cond-true (between 1 64 n) _ _ b ∙ cond-true (seen (begun s) M) _ _ (and_from _ _ (eq-eqb M.count s.count c) (eq-eqb M.left s.left l))

pub made : {n : ℕ} {s : Session} {M M' : Meaning} {r : Reply} {S' : State} → Search n (begun s) M r S' M'
    → between 1 64 n ≡ true → M.count ≡ s.count → M.left ≡ s.left
    → too_shallow s.problem (measures s.problem) n ≡ false → Made n s M r S' M'
made {n} {s} {M} (search_refused {r = r} e same) b c l deep = absurd (none-ne-some r (sym (accepted n s M b c l) ∙ e))
made (search_shallow e shallow same) b c l deep = absurd (both_ways _ deep shallow)
made (search_made {X = X} {a = a} e deep' run) b c l deep =
    record { answer = a; knows = X; replies = refl; comes_to = refl; runs = run }

-- a new chooser allows every way
abbrev pub F₀ : Way → Bool
F₀ w = true

pub fresh_at : {goals : ℕ} {M : Meaning} → Fresh goals M → At goals F₀ 100 1000 M
fresh_at f = record { counts = f.counts; allows = f.allows; rooms = f.rooms; leaves = f.leaves }

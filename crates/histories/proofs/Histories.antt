-- Every history keeps the invariant. Assumes nothing.
use Rattle.std.proofs.Common.{◌≡◌, ℕ, Bool, true, false, List, [], length, sym, refl, ◌∙◌, subst, arith}
use mathlib.Core.Option.{Option, none, some, none-ne-some, some-injective}
use Rattle.std.proofs.lemmas.Bool.{and_from}
use Rattle.chooser.specs.Meaning.{Meaning, Same}
use Rattle.syntax.specs.Problems.{Problem, Lawful}
use Rattle.finder.specs.Tables.{first_table}
use Rattle.finder.specs.Ways.{Way, decided}
use Rattle.finder.specs.Invariant.{Sound}
use Rattle.finder.specs.Claims.{ModelRight}
use Rattle.finder.proofs.Invariant.{begins_sound}
use Rattle.histories.specs.States.{AtHand, Session, State, not_begun, begun, start}
use Rattle.histories.specs.Rounds.{Outcome, model, none_within, never, foreign, spent_rounds, spent_steps, spent_unknowns, spent_chooser, Known}
use Rattle.histories.specs.Calls.{Refusal, Begins, not_new, too_few, begins, with_force, forcing, refused_state, put_refusal, put_in, give_back_refusal, given_back, Reply, after_search, known, Searches, search_refused, search_shallow, search_made}
use Rattle.histories.specs.Histories.{Event, History, new, any_chooser, begin_accepted, begin_refused, begin_refused_other, put_called, give_back_called, search_called, model_called, chooser_used}
use Rattle.histories.proofs.Rounds.{Holds, sound_same, Means, runs_right}

abbrev pub HandRight : Session → Type 0
HandRight s =
    (m : AtHand) → s.model ≡ some m
    → ModelRight s.problem (decided s.problem s.table m.way) m.depth s.force m.steps

pub record Stood (s : Session) (M : Meaning) : Type 0 where
  pub lawful : Lawful s.problem
  pub holds : Holds s.problem (known s) M
  pub hand : HandRight s

abbrev pub Stands : State → Meaning → Type 0
Stands not_begun M = Unit {0}
Stands (begun s) M = Stood s M

no_hand : (s : Session) → s.model ≡ none → HandRight s
no_hand s e m f = absurd (none-ne-some m (sym e ∙ f))

stood_same : (s : Session) (M M' : Meaning) → Same M M' → Stood s M → Stood s M'
stood_same s M M' same q =
    record { lawful = q.lawful; holds = sound_same s.problem (known s) M M' same q.holds; hand = q.hand }

stands_same : (S : State) (M M' : Meaning) → Same M M' → Stands S M → Stands S M'
stands_same not_begun M M' same q = tt
stands_same (begun s) M M' same q = stood_same s M M' same q

-- begin
begin_stands : {p : Problem} {S S' : State} {M M' : Meaning} → Begins p S M none S' M' → Stands S' M'
begin_stands {p} {M = M} {M' = M'} (begins L empty open' room ext) =
    record { lawful = L; holds = sound; hand = no_hand (start p M') refl }
  where
    every_way : (w : Way) → M'.ways w ≡ true
    every_way w = ext.allows w ∙ and_from (M.ways w) true (open' w) refl

    few : length p.goals ≡ M'.count
    few = let c = ext.counts in omega (arith, c, empty)

    sound : Holds p (known (start p M')) M'
    sound = subst (λ x. Sound p (first_table p) [] x M'.ways) few (begins_sound p M'.ways every_way)

pub refused_same : {p : Problem} {S S' : State} {r : Refusal} {M M' : Meaning} → Begins p S M (some r) S' M' → Same M M' × (S ≡ S')
refused_same (not_new q same) = (same, refl)
refused_same (too_few e a l same) = (same, refl)

-- put and give back
forced_stands : (s : Session) (M : Meaning) (f : ℕ → Bool) → Stood s M → Stood (with_force s f) M
forced_stands s M f q = record { lawful = q.lawful; holds = q.holds; hand = no_hand (with_force s f) refl }

refused_stands : (r : Option Refusal) (S S' : State) (M : Meaning) → Stands S M → Stands S' M → Stands (refused_state r S S') M
refused_stands none S S' M q q' = q'
refused_stands (some r) S S' M q q' = q

put_stands : (S : State) (M : Meaning) (g : ℕ) → Stands S M → Stands (put_in S g) M
put_stands not_begun M g q = tt
put_stands (begun s) M g q = forced_stands s M (forcing s.force g true) q

give_back_stands : (S : State) (M : Meaning) (slip : Option ℕ) → Stands S M → Stands (given_back S slip) M
give_back_stands not_begun M slip q = tt
give_back_stands (begun s) M none q = q
give_back_stands (begun s) M (some g) q = forced_stands s M (forcing s.force g false) q

-- search
hand_after : (s : Session) (X : Known) (M : Meaning) (n steps : ℕ) (o : Outcome) → Means s.problem s.force n steps X.table o
    → HandRight (after_search s X M n steps o)
hand_after s X M n steps (model w) q m e =
    let same = some-injective _ m e in
    subst (λ (y : AtHand). ModelRight s.problem (decided s.problem X.table y.way) y.depth s.force y.steps) same q
hand_after s X M n steps none_within q m e = absurd (none-ne-some m e)
hand_after s X M n steps never q m e = absurd (none-ne-some m e)
hand_after s X M n steps foreign q m e = absurd (none-ne-some m e)
hand_after s X M n steps spent_rounds q m e = absurd (none-ne-some m e)
hand_after s X M n steps (spent_steps g) q m e = absurd (none-ne-some m e)
hand_after s X M n steps spent_unknowns q m e = absurd (none-ne-some m e)
hand_after s X M n steps spent_chooser q m e = absurd (none-ne-some m e)

search_stands : {n rounds steps : ℕ} {buffers : Bool} {S S' : State} {M M' : Meaning} {r : Reply}
    → Searches n rounds steps buffers S M r S' M' → Stands S M → Stands S' M'
search_stands {S = S} {M = M} {M' = M'} (search_refused e same) q = stands_same S M M' same q
search_stands {n = n} {steps = steps} {M = M} {M' = M'} (search_shallow {s = s} e shallow same) q =
    record {
      lawful = q.lawful;
      holds = sound_same s.problem (known s) M M' same q.holds;
      hand = no_hand (after_search s (known s) M' n steps none_within) refl;
    }
search_stands {n = n} {steps = steps} {M' = M'} (search_made {s = s} {X = X} {a = a} e deep run) q =
    let r = runs_right s.problem q.lawful s.force n steps deep run q.holds in
    record { lawful = q.lawful; holds = r.holds; hand = hand_after s X M' n steps a.outcome r.means }

pub stands : {es : List Event} {S : State} {M : Meaning} → History es S M → Stands S M
stands new = tt
stands (any_chooser h) = tt
stands (begin_accepted h b) = begin_stands b
stands (begin_refused {S = S} {S' = S'} {M = M} {M' = M'} h b) =
    let q = refused_same b in
    subst (λ x. Stands x M') q.1 (stands_same S M M' q.0 (stands h))
stands (begin_refused_other {S = S} {S' = S'} {M₀ = M₀} h b) = subst (λ x. Stands x M₀) (refused_same b).1 (stands h)
stands (put_called {S = S} {M = M} g h) =
    refused_stands (put_refusal S g) S (put_in S g) M (stands h) (put_stands S M g (stands h))
stands (give_back_called {S = S} {M = M} slip h) =
    refused_stands (give_back_refusal S slip) S (given_back S slip) M (stands h) (give_back_stands S M slip (stands h))
stands (search_called h s) = search_stands s (stands h)
stands (model_called room h) = stands h
stands (chooser_used {S = S} {M = M} {M' = M'} h same) = stands_same S M M' same (stands h)

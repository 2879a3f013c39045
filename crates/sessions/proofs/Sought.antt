-- A search that is not refused: the session after it shows what the relation of that call has. Assumes nothing.
use Rattle.std.proofs.Common.{◌≡◌, ℕ, Bool, true, false, List, get_or, eqb, refl, sym, ap, ◌∙◌, subst}
use Rattle.std.proofs.Math.Option.{Option, none, some, none-ne-some}
use Rattle.std.proofs.Math.Path.{fun_ext}
use Rattle.std.proofs.lemmas.Bool.{and_parts, eqb-true, false≢true}
use Rattle.chooser.specs.Meaning.{Meaning}
use Rattle.syntax.specs.Problems.{Problem}
use Rattle.finder.specs.Levels.{measures, too_shallow}
use Rattle.finder.specs.Tables.{Table}
use Rattle.finder.specs.Ways.{Way}
use Rattle.finder.specs.Conflicts.{Conflict}
use Rattle.finder.proofs.Extended.{same_self}
use Rattle.unknowns.specs.Listing.{Stands, DecidesAs}
use Rattle.histories.specs.Rounds.{Outcome, model, none_within, never, foreign, spent_rounds, spent_steps, spent_unknowns, spent_chooser, Known, no_round}
use Rattle.histories.specs.States.{AtHand, Session as Abstract, begun}
use Rattle.histories.specs.Calls.{seen, in_hand, after_search, known, search_shallow, search_made}
use Rattle.histories.specs.Histories.{is_model, some?}
use Rattle.answers.specs.declared.answer.Answer.{Answer}
use Rattle.answers.specs.Told.{outcome_of}
use Rattle.rounds.specs.declared.search.Limits.{Limits}
use Rattle.rounds.specs.Turns.{known as knowing}
use Rattle.rounds.specs.Run.{RanTo}
use Rattle.sessions.specs.declared.session.Begun.{Begun}
use Rattle.sessions.specs.Shown.{ShowsBegun}
use Rattle.sessions.specs.Searching.{is_model_found, Sought}

-- a model at hand is of the way that the outcome has
hand_way : (n steps : ℕ) (o : Outcome) (m : AtHand) → in_hand n steps o ≡ some m → o ≡ model m.way
hand_way n steps (model w) m e = ap (λ h. model (way_in h)) e
  where
    way_in : Option AtHand → Way
    way_in none = w
    way_in (some h) = h.way
hand_way n steps none_within m e = absurd (none-ne-some m e)
hand_way n steps never m e = absurd (none-ne-some m e)
hand_way n steps foreign m e = absurd (none-ne-some m e)
hand_way n steps spent_rounds m e = absurd (none-ne-some m e)
hand_way n steps (spent_steps g) m e = absurd (none-ne-some m e)
hand_way n steps spent_unknowns m e = absurd (none-ne-some m e)
hand_way n steps spent_chooser m e = absurd (none-ne-some m e)

found_hand : (n steps : ℕ) (o : Outcome) → is_model_found (outcome_of o) ≡ some? (in_hand n steps o)
found_hand n steps (model w) = refl
found_hand n steps none_within = refl
found_hand n steps never = refl
found_hand n steps foreign = refl
found_hand n steps spent_rounds = refl
found_hand n steps (spent_steps g) = refl
found_hand n steps spent_unknowns = refl
found_hand n steps spent_chooser = refl

module _ (l : Limits) (s : Abstract) (M : Meaning) (b b' : Begun) (shown : ShowsBegun b s) (goals : b'.goals ≡ b.goals) (force : b'.force ≡ b.force) where
  shows_after : (X : Known) (M' : Meaning) (o : Outcome) → Stands s.problem b'.table X.table M'.count → b'.count ≡ M'.count → b'.left ≡ M'.left
      → b'.model ≡ some? (in_hand l.depth l.steps o) → ((w : Way) → o ≡ model w → DecidesAs s.problem b'.table X.table w b'.cases)
      → ShowsBegun b' (after_search s X M' l.depth l.steps o)
  shows_after X M' o stands count left found decides =
      record {
        goals = goals ∙ shown.goals;
        force = λ g. ap (λ (f : List Bool). get_or f g false) force ∙ shown.force g;
        stands = stands;
        count = count;
        left = left;
        model = found;
        decides = λ m e. decides m.way (hand_way l.depth l.steps o m e);
      }

  module _ (as_seen : seen (begun s) M ≡ true) where
    same_count : M.count ≡ s.count
    same_count = eqb-true M.count s.count (and_parts (eqb M.count s.count) (eqb M.left s.left) as_seen).0

    same_left : M.left ≡ s.left
    same_left = eqb-true M.left s.left (and_parts (eqb M.count s.count) (eqb M.left s.left) as_seen).1

    module _ {p : Problem} (own : s.problem ≡ p) where
      pub sought_shallow : too_shallow p (measures p) l.depth ≡ true → b'.table ≡ b.table → b'.count ≡ b.count → b'.left ≡ b.left
          → b'.model ≡ false → (a : Answer) → a ≡ record { outcome = outcome_of none_within; rounds = 0; opened = 0; recorded = 0 } → Sought l s M b' M a
      sought_shallow shallow table count left found a is =
          record {
            after = after_search s (known s) M l.depth l.steps none_within;
            answer = no_round none_within;
            tells = is;
            shows =
                shows_after (known s) M none_within
                (subst (λ t. Stands s.problem t s.table M.count) (sym table) (subst (Stands s.problem b.table s.table) (sym same_count) shown.stands))
                (count ∙ shown.count ∙ sym same_count) (left ∙ shown.left ∙ sym same_left) found (λ w e. absurd (false≢true (ap is_model e)));
            searches = λ buffers e. search_shallow e (subst (λ q. too_shallow q (measures q) l.depth ≡ true) (sym own) shallow) same_self;
          }

      pub sought_made : {M' : Meaning} (r : Answer) → too_shallow p (measures p) l.depth ≡ false → b'.count ≡ M'.count → b'.left ≡ M'.left
          → b'.model ≡ is_model_found r.outcome
          → ((T : Table) (R : List Conflict) → Stands p b.table T M.count
          → RanTo p (λ g. get_or b.force g false) l.depth l.rounds l.steps (knowing T R) M b'.table M' b'.cases r)
          → Sought l s M b' M' r
      sought_made {M'} r deep count left found ran =
          record {
            after = after_search s ran_so.known_then M' l.depth l.steps ran_so.answer.outcome;
            answer = ran_so.answer;
            tells = ran_so.told;
            shows =
                shows_after ran_so.known_then M' ran_so.answer.outcome ran_so.stands count left
                (found ∙ ap (λ a. is_model_found a.outcome) ran_so.told ∙ found_hand l.depth l.steps ran_so.answer.outcome) ran_so.decides;
            searches = λ buffers e. search_made e (subst (λ q. too_shallow q (measures q) l.depth ≡ false) (sym own) deep) ran_so.runs;
          }
        where
          RanSo : Problem → (ℕ → Bool) → Type 0
          RanSo q f = RanTo q f l.depth l.rounds l.steps (knowing s.table s.conflicts) M b'.table M' b'.cases r

          ran_so : RanSo s.problem s.force
          ran_so =
              subst (RanSo s.problem) (fun_ext shown.force)
              (subst (λ q. Stands q b.table s.table M.count → RanSo q (λ g. get_or b.force g false)) (sym own) (ran s.table s.conflicts)
              (subst (Stands s.problem b.table s.table) (sym same_count) shown.stands))

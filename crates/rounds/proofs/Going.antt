-- Round after round: what was gone through, with one more round, and when the search ends. Assumes nothing.
use Rattle.std.proofs.Common.{◌≡◌, ℕ, suc, ◌+◌, ◌-◌, ◌<◌, Bool, List, Option, refl, subst, arith}
use Rattle.chooser.specs.Meaning.{Meaning}
use Rattle.syntax.specs.Problems.{Problem}
use Rattle.finder.proofs.Extended.{same_self}
use Rattle.histories.specs.Rounds.{Outcome, spent_rounds, Answer as Told, no_round, closes, one_opened, one_recorded, Known, Runs, rounds_spent}
use Rattle.answers.specs.declared.answer.Outcome.{Outcome as CodeOutcome}
use Rattle.answers.specs.declared.answer.Outcome.TheVariants.{SpentRounds}
use Rattle.answers.specs.declared.answer.Answer.{Answer}
use Rattle.unknowns.specs.Listing.{Stands, DecidesAs}
use Rattle.unknowns.specs.declared.table.Table.{Table as Code}
use Rattle.unknowns.specs.declared.table.Case.{Case}
use Rattle.rounds.specs.declared.search.Search.{Search}
use Rattle.rounds.specs.declared.turn.Turn.TheVariants.{Closed, Recorded, Opened}
use Rattle.rounds.specs.Turns.{GoesOn, Closes, Turned}
use Rattle.rounds.specs.Going.{added, Gone, Going}
use Rattle.rounds.specs.Run.{RanTo, Ran}
use Rattle.rounds.proofs.Turning.{no_model}

told_as : {o : Outcome} {i j k i' j' k' : ℕ} → i ≡ i' → j ≡ j' → k ≡ k'
    → (λ (a : Told). a) (record { outcome = o; rounds = i; opened = j; recorded = k }) ≡ record { outcome = o; rounds = i'; opened = j'; recorded = k' }
told_as {o} a b c = λ x. record { outcome = o; rounds = a x; opened = b x; recorded = c x }

answer_as : {o o' : CodeOutcome} {i j k i' j' k' : ℕ} → o ≡ o' → i ≡ i' → j ≡ j' → k ≡ k'
    → (λ (a : Answer). a) (record { outcome = o; rounds = i; opened = j; recorded = k }) ≡ record { outcome = o'; rounds = i'; opened = j'; recorded = k' }
answer_as e a b c = λ x. record { outcome = e x; rounds = a x; opened = b x; recorded = c x }

module _ {p : Problem} {force : ℕ → Bool} {n steps : ℕ} {X : Known} {M : Meaning} where
  runs_as : {k k' : ℕ} {a a' : Told} {X' : Known} {M' : Meaning} → k ≡ k' → a ≡ a' → Runs p force n steps k X M a X' M'
      → Runs p force n steps k' X M a' X' M'
  runs_as {k} {k'} {a} {a'} {X'} {M'} e f r =
      subst (λ v. Runs p force n steps k' X M v X' M') f (subst (λ v. Runs p force n steps v X M a X' M') e r)

  pub gone_none : {t : Code} → Stands p t X.table M.count → Gone p force n steps 0 0 0 X M t M
  gone_none s =
      record {
        now_known = X;
        stands = s;
        more = λ k a X'' M'' r. runs_as (omega arith) (told_as (omega arith) (omega arith) (omega arith)) r;
      }

  module _ {i opened recorded : ℕ} {t : Code} {M₁ : Meaning} (g : Gone p force n steps i opened recorded X M t M₁) {t' : Code} {M' : Meaning} where
    pub gone_opened : GoesOn p force n steps g.now_known M₁ t' M' one_opened → Gone p force n steps (i + 1) (opened + 1) recorded X M t' M'
    gone_opened s =
        record {
          now_known = s.now_known;
          stands = s.stands;
          more =
              λ k a X'' M'' r.
              runs_as (omega arith) (told_as (omega arith) (omega arith) refl) (g.more (suc k) (one_opened a) X'' M'' (s.more k a X'' M'' r));
        }

    pub gone_recorded : GoesOn p force n steps g.now_known M₁ t' M' one_recorded → Gone p force n steps (i + 1) opened (recorded + 1) X M t' M'
    gone_recorded s =
        record {
          now_known = s.now_known;
          stands = s.stands;
          more =
              λ k a X'' M'' r.
              runs_as (omega arith) (told_as (omega arith) refl (omega arith)) (g.more (suc k) (one_recorded a) X'' M'' (s.more k a X'' M'' r));
        }

    pub ran_closed : {rounds : ℕ} {cases : List (Option Case)} (o : CodeOutcome) → i < rounds → Closes p force n steps g.now_known M₁ t' M' cases o
        → RanTo p force n rounds steps X M t' M' cases (record { outcome = o; rounds = i + 1; opened = opened; recorded = recorded })
    ran_closed {rounds} o l c =
        record {
          known_then = g.now_known;
          answer = added i opened recorded (closes c.outcome);
          told = answer_as c.told refl (omega arith) (omega arith);
          runs = runs_as (omega (arith, l)) refl (g.more (suc (rounds - (i + 1))) (closes c.outcome) g.now_known M' (c.ends (rounds - (i + 1))));
          stands = c.stands;
          decides = c.decides;
        }

  pub ran_out : {rounds i opened recorded : ℕ} {t : Code} {M₁ : Meaning} {cases : List (Option Case)} → i ≡ rounds
      → Gone p force n steps i opened recorded X M t M₁
      → RanTo p force n rounds steps X M t M₁ cases (record { outcome = SpentRounds; rounds = rounds; opened = opened; recorded = recorded })
  ran_out {rounds} {i} {opened} {recorded} {t} {M₁} {cases} e g =
      record {
        known_then = g.now_known;
        answer = added i opened recorded (no_round spent_rounds);
        told = answer_as refl (omega (arith, e)) (omega arith) (omega arith);
        runs = runs_as (omega (arith, e)) refl (g.more 0 (no_round spent_rounds) g.now_known M₁ (rounds_spent same_self));
        stands = g.stands;
        decides = no_model (λ w. DecidesAs p t g.now_known.table w cases) spent_rounds refl;
      }

pub going_none : (s : Search) (t : Code) (M : Meaning) → Going s 0 0 0 M t t M
going_none s t M = record { counts = refl; gone = λ T R h. gone_none h }

-- one more round
module _ {s : Search} {i opened recorded : ℕ} {M : Meaning} {t t₁ : Code} {M₁ : Meaning} (g : Going s i opened recorded M t t₁ M₁)
    {t' : Code} {M' : Meaning} {cases : List (Option Case)} where
  pub going_opened : Turned s M₁ t₁ t' M' cases Opened → Going s (i + 1) (opened + 1) recorded M t t' M'
  going_opened u =
      let counts = g.counts in
      record {
        counts = omega (arith, counts);
        gone = λ T R h. let k = g.gone T R h in gone_opened k (u.goes k.now_known.table k.now_known.conflicts k.stands);
      }

  pub going_recorded : Turned s M₁ t₁ t' M' cases Recorded → Going s (i + 1) opened (recorded + 1) M t t' M'
  going_recorded u =
      let counts = g.counts in
      record {
        counts = omega (arith, counts);
        gone = λ T R h. let k = g.gone T R h in gone_recorded k (u.goes k.now_known.table k.now_known.conflicts k.stands);
      }

  pub ended : (o : CodeOutcome) → i < s.limits.rounds → Turned s M₁ t₁ t' M' cases (Closed o)
      → Ran s M t t' M' cases (record { outcome = o; rounds = i + 1; opened = opened; recorded = recorded })
  ended o l u =
      record { from = λ T R h. let k = g.gone T R h in ran_closed k o l (u.goes k.now_known.table k.now_known.conflicts k.stands) }

pub all_spent : {s : Search} {i opened recorded : ℕ} {M : Meaning} {t t₁ : Code} {M₁ : Meaning} {cases : List (Option Case)}
    → Going s i opened recorded M t t₁ M₁ → i ≡ s.limits.rounds
    → Ran s M t t₁ M₁ cases (record { outcome = SpentRounds; rounds = s.limits.rounds; opened = opened; recorded = recorded })
all_spent g e = record { from = λ T R h. ran_out e (g.gone T R h) }

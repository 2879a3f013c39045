-- A replay whose answer is the first bytes of a longer one, with memory for at most the most steps. Assumes nothing.
use Rattle.std.proofs.Common.{min, Err, ◌≡◌, ℕ, ◌*◌, ◌<◌, ◌≤◌, List, ◌++◌, length, take, drop, Ok, refl, sym, ◌∙◌, subst, arith, length-append, length-drop, length-take}
use Rattle.std.proofs.Math.ListN.{get_or-append}
use Rattle.std.proofs.lemmas.Grind.{common_steps}
use Rattle.std.proofs.lemmas.Slice.{drop-append-drop}
use Rattle.std.proofs.lemmas.Bool.Decides.{nat_tests}
use Rattle.syntax.specs.Problems.{Problem as Meaning}
use Rattle.replay.specs.Replays.{accepted, Replayed}
use Rattle.replay.specs.declared.faults.ReplayFault.{ReplayFault}
use Rattle.boundary.specs.Replaying.{goal_bytes, JudgedBy}

module _ (p : Meaning) (model : List ℕ) (steps : ℕ) where
  -- beyond the most steps the memory does not matter
  pub places_enough : (places n : ℕ) → (steps ≤ 4096 → places ≡ 6 * steps) → accepted p model steps places n ≡ accepted p model steps (6 * steps) n
  places_enough places n enough = grind (arith, nat_tests, common_steps)

  -- an answer has a byte for each goal
  pub answer_for_each : (places n : ℕ) (roots : List ℕ) → accepted p model steps places n ≡ Ok roots → n ≡ length p.goals
  answer_for_each places n roots e = grind (arith, nat_tests, common_steps)

  pub refused_front : (before : List ℕ) (places room : ℕ) (f : ReplayFault) → (steps ≤ 4096 → places ≡ 6 * steps) → room ≡ min (length p.goals) (length before)
      → accepted p model steps places (length (take room before)) ≡ Err f → accepted p model steps (6 * steps) (goal_bytes p before) ≡ Err f
  refused_front before places room f enough front e =
      let long : length (take room before) ≡ goal_bytes p before = grind (arith, nat_tests, length-take room before) in
      subst (λ n. accepted p model steps (6 * steps) n ≡ Err f) long (sym (places_enough places (length (take room before)) enough) ∙ e)

  pub judged_front : (u : Unit {0}) (before part : List ℕ) (places room : ℕ) → (steps ≤ 4096 → places ≡ 6 * steps) → room ≤ length before
      → length part ≡ room → Replayed p model steps places (take room before) part (Ok u)
      → JudgedBy p model steps before (part ++ drop room before) (length p.goals)
  judged_front u before part places room enough within long r =
      let front : length (take room before) ≡ room = omega (arith, length-take room before) in
      let each : length (take room before) ≡ length p.goals = answer_for_each places (length (take room before)) r.0 r.1 in
      let goals : room ≡ length p.goals = sym front ∙ each in
      record {
        counts = refl;
        roots = r.0;
        reads = sym (places_enough places (length p.goals) enough) ∙ subst (λ n. accepted p model steps places n ≡ Ok r.0) each r.1;
        judged = λ g below. let within : g < length part = omega arith in get_or-append part (drop room before) 0 g within ∙ r.2 g below;
        rest = drop-append-drop room before part (length p.goals) (omega arith) long;
        long = omega (arith, length-append part (drop room before), length-drop room before);
      }

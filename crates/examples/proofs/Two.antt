-- "The unknown is 2", round by round. Assumes nothing.
use Rattle.std.proofs.Common.{◌≡◌, ℕ, Bool, true, false, not, cond, ◌&&◌, ◌||◌, List, [], ◌∷◌, sym, refl, ap, ◌∙◌, subst, arith}
use mathlib.Core.Option.{Option, none, some}
use Rattle.std.proofs.lemmas.Bool.{and_parts, and_from, false≢true}
use Rattle.chooser.specs.Meaning.{Meaning}
use Rattle.judging.specs.Judging.{judges}
use Rattle.judging.specs.Paths.{Path, root, child}
use Rattle.judging.specs.Examples.{is_two}
use Rattle.finder.specs.Ways.{Way, decided}
use Rattle.finder.specs.Clauses.{all_met, opening_clauses}
use Rattle.finder.specs.Findings.{waiting_goal, false_goal, all_true}
use Rattle.finder.specs.Models.{ModelOf, shows_built, s[], ◌s∷◌}
use Rattle.histories.specs.States.{AtHand, Session, State, begun}
use Rattle.histories.specs.Rounds.{model, none_within, Answer, closes, one_opened, one_recorded, Known, with_opened, with_conflict, finds, conflict_in, Runs}
use Rattle.histories.specs.Calls.{forcing, in_hand, Reply, answered}
use Rattle.examples.specs.Sessions.{Fresh, Search, reply, forced, two_written, TwoFound}
use Rattle.examples.proofs.Turns.{mk, Is, At, at_same, OneWay, open_round, record_round, none_round, model_round}
use Rattle.examples.proofs.Made.{made, F₀, fresh_at}
use Rattle.examples.proofs.Values.{one_1, none_1, one_2, one_2_opened, none_2, one_3}

abbrev pub force : ℕ → Bool
force = forcing (λ g. false) 0 true

abbrev pub kid : Path
kid = child (root 0) 1 0

abbrev pub X₀ : Known
X₀ = record { table = record { path = root 0; first = none } ∷ []; conflicts = [] }

abbrev pub X₁ : Known
X₁ = with_opened is_two X₀ (root 0) 1

abbrev pub X₂ : Known
X₂ = with_conflict X₁ (conflict_in is_two X₁ (mk (true ∷ (true ∷ (false ∷ [])))) 0 (root 0 ∷ []))

abbrev pub F₁ : Way → Bool
F₁ w = F₀ w && all_met w (opening_clauses 1 2)

abbrev pub F₂ : Way → Bool
F₂ w = F₁ w && all_met w ((1 ∷ (3 ∷ [])) ∷ [])

abbrev pub X₃ : Known
X₃ = with_opened is_two X₂ kid 3

abbrev pub X₄ : Known
X₄ = with_conflict X₃ (conflict_in is_two X₃ (mk (true ∷ (false ∷ (true ∷ (true ∷ (false ∷ [])))))) 0 (root 0 ∷ (kid ∷ [])))

abbrev pub X₅ : Known
X₅ = with_opened is_two X₄ (child kid 1 0) 5

abbrev pub F₃ : Way → Bool
F₃ w = F₂ w && all_met w (opening_clauses 3 2)

abbrev pub F₄ : Way → Bool
F₄ w = F₃ w && all_met w ((1 ∷ (5 ∷ (7 ∷ []))) ∷ [])

abbrev pub F₅ : Way → Bool
F₅ w = F₄ w && all_met w (opening_clauses 5 2)

-- the session as it comes by
abbrev session : Meaning → Known → Option AtHand → Session
session M X m =
    record {
      problem = is_two;
      table = X.table;
      conflicts = X.conflicts;
      force = force;
      count = M.count;
      left = M.left;
      model = m;
    }

-- depth 1
round_1 : OneWay is_two force 1 1 X₀ F₀ (true ∷ [])
round_1 =
    record { long = refl; can = refl; meets = refl; inside = refl; decides = refl; only = λ w e f. ((and_parts (w 0) true f).0, tt) }

pub waits_first : finds is_two force 512 X₀ (mk (true ∷ [])) ≡ waiting_goal 0 (root 0)
unfolding judges
waits_first = refl

round_2 : OneWay is_two force 1 3 X₁ F₁ (true ∷ (true ∷ (false ∷ [])))
round_2 =
    record { long = refl; can = refl; meets = refl; inside = refl; decides = refl; only = λ w e f. one_1 (w 0) (w 1) (w 2) e f }

pub false_first : finds is_two force 512 X₁ (mk (true ∷ (true ∷ (false ∷ [])))) ≡ false_goal 0 (root 0 ∷ [])
unfolding judges
false_first = refl

search_1 : (M M' : Meaning) (a : Answer) (X' : Known) → At 1 F₀ 100 1000 M → Runs is_two force 1 512 1000 X₀ M a X' M'
    → (a ≡ record { outcome = none_within; rounds = 3; opened = 1; recorded = 1 }) × (X₂ ≡ X') × At 3 F₂ 98 991 M'
search_1 M M' a X' q run =
    let r = open_round {k = 999} run 1 F₀ (true ∷ []) round_1 0 (root 0) waits_first 98 994 q (omega arith) (omega arith) in
    let s = record_round {k = 998} r.4 3 F₁ (true ∷ (true ∷ (false ∷ []))) round_2 0 (root 0 ∷ []) false_first 98 991 (1 ∷ (3 ∷ [])) refl refl r.3 in
    let t = none_round {k = 997} s.4 3 98 991 F₂ s.3 (λ w e f. none_1 (w 0) (w 1) (w 2) e f) (mk (true ∷ (false ∷ (true ∷ [])))) refl refl in
    (r.2 ∙ ap one_opened (s.2 ∙ ap one_recorded t.answers), t.known, at_same t.meant s.3)

-- depth 2
round_3 : OneWay is_two force 2 3 X₂ F₂ (true ∷ (false ∷ (true ∷ [])))
round_3 =
    record { long = refl; can = refl; meets = refl; inside = refl; decides = refl; only = λ w e f. one_2 (w 0) (w 1) (w 2) e f }

pub waits_second : finds is_two force 512 X₂ (mk (true ∷ (false ∷ (true ∷ [])))) ≡ waiting_goal 0 kid
unfolding judges
waits_second = refl

round_4 : OneWay is_two force 2 5 X₃ F₃ (true ∷ (false ∷ (true ∷ (true ∷ (false ∷ [])))))
round_4 =
    record {
      long = refl;
      can = refl;
      meets = refl;
      inside = refl;
      decides = refl;
      only = λ w e f. one_2_opened (w 0) (w 1) (w 2) (w 3) (w 4) e f;
    }

pub false_second : finds is_two force 512 X₃ (mk (true ∷ (false ∷ (true ∷ (true ∷ (false ∷ [])))))) ≡ false_goal 0 (root 0 ∷ (kid ∷ []))
unfolding judges
false_second = refl

search_2 : (M M' : Meaning) (a : Answer) (X' : Known) → At 3 F₂ 98 991 M → Runs is_two force 2 512 1000 X₂ M a X' M'
    → (a ≡ record { outcome = none_within; rounds = 3; opened = 1; recorded = 1 }) × (X₄ ≡ X') × At 5 F₄ 96 981 M'
search_2 M M' a X' q run =
    let r = open_round {k = 999} run 3 F₂ (true ∷ (false ∷ (true ∷ []))) round_3 0 kid waits_second 96 985 q (omega arith) (omega arith) in
    let s = record_round {k = 998} r.4 5 F₃ (true ∷ (false ∷ (true ∷ (true ∷ (false ∷ []))))) round_4 0 (root 0 ∷ (kid ∷ [])) false_second 96 981
    (1 ∷ (5 ∷ (7 ∷ []))) refl refl r.3 in
    let t = none_round {k = 997} s.4 5 96 981 F₄ s.3 (λ w e f. none_2 (w 0) (w 1) (w 2) (w 3) (w 4) e f)
    (mk (true ∷ (false ∷ (true ∷ (false ∷ (true ∷ [])))))) refl refl in
    (r.2 ∙ ap one_opened (s.2 ∙ ap one_recorded t.answers), t.known, at_same t.meant s.3)

-- depth 3: the bits of the way that is left in the end
abbrev bits : List Bool
bits = true ∷ (false ∷ (true ∷ (false ∷ (true ∷ (true ∷ (false ∷ []))))))

round_5 : OneWay is_two force 3 5 X₄ F₄ (true ∷ (false ∷ (true ∷ (false ∷ (true ∷ [])))))
round_5 =
    record {
      long = refl;
      can = refl;
      meets = refl;
      inside = refl;
      decides = refl;
      only = λ w e f. one_3 (w 0) (w 1) (w 2) (w 3) (w 4) e f;
    }

pub waits_third : finds is_two force 512 X₄ (mk (true ∷ (false ∷ (true ∷ (false ∷ (true ∷ [])))))) ≡ waiting_goal 0 (child kid 1 0)
unfolding judges
waits_third = refl

last_two : (b5 b6 : Bool) → ((b5 || (b6 || false)) && ((not b5 || (not b6 || false)) && true)) ≡ true → not b6 ≡ true → (b5 ≡ true) × (b6 ≡ false)
last_two true true e f = absurd (false≢true f)
last_two true false e f = (refl, refl)
last_two false true e f = absurd (false≢true f)
last_two false false e f = absurd (false≢true e)

round_6 : OneWay is_two force 3 7 X₅ F₅ bits
round_6 =
    record {
      long = refl;
      can = refl;
      meets = refl;
      inside = refl;
      decides = refl;
      only = λ w e f.
          let x = and_parts (F₄ w) (all_met w (opening_clauses 5 2)) e in
          let y = and_parts (w 0) (not (w 6) && true) f in
          let q = one_3 (w 0) (w 1) (w 2) (w 3) (w 4) x.0 (and_from (w 0) true y.0 refl) in
          let z = last_two (w 5) (w 6) x.1 (and_parts (not (w 6)) true y.1).0 in
          (q.0, (q.1.0, (q.1.1.0, (q.1.1.1.0, (q.1.1.1.1.0, (z.0, (z.1, tt)))))));
    }

pub true_third : finds is_two force 512 X₅ (mk bits) ≡ all_true
unfolding judges
true_third = refl

search_3 : (M M' : Meaning) (a : Answer) (X' : Known) → At 5 F₄ 96 981 M → Runs is_two force 3 512 1000 X₄ M a X' M'
    → (w : Way) × (a ≡ record { outcome = model w; rounds = 2; opened = 1; recorded = 0 }) × (X₅ ≡ X') × At 7 F₅ 94 975 M' × Is w 0 bits
search_3 M M' a X' q run =
    let r = open_round {k = 999} run 5 F₄ (true ∷ (false ∷ (true ∷ (false ∷ (true ∷ []))))) round_5 0 (child kid 1 0) waits_third 94 975 q (omega arith)
    (omega arith) in
    let t = model_round {k = 998} r.4 7 94 975 F₅ bits round_6 true_third r.3 in
    (t.0, r.2 ∙ ap one_opened t.2.answers, t.2.known, at_same t.2.meant r.3, t.1)

-- the model that a way with these bits writes
second_case : (x y : Bool) → y ≡ true → ◌≡◌ {A = Option ℕ} (cond y (some 1) (cond x (some 0) none)) (some 1)
second_case x true e = refl
second_case x false e = absurd (false≢true e)

first_case : (x y : Bool) → x ≡ true → y ≡ false → ◌≡◌ {A = Option ℕ} (cond y (some 1) (cond x (some 0) none)) (some 0)
first_case true true e f = absurd (false≢true (sym f))
first_case true false e f = refl
first_case false y e f = absurd (false≢true e)

written : (w : Way) → Is w 0 bits → ModelOf is_two (decided is_two X₅.table w) two_written
written w q =
    shows_built (second_case (w 1) (w 2) q.1.1.0)
    (shows_built (second_case (w 3) (w 4) q.1.1.1.1.0)
    (shows_built (first_case (w 5) (w 6) q.1.1.1.1.1.0 q.1.1.1.1.1.1.0) s[] s∷ s[]) s∷ s[]) s∷ s[]

-- depth 1 once more
search_again : (M M' : Meaning) (a : Answer) (X' : Known) → At 7 F₅ 94 975 M → Runs is_two force 1 512 1000 X₅ M a X' M' → a ≡ closes none_within
search_again M M' a X' q run =
    (none_round {k = 999} run 7 94 975 F₅ q
    (λ w e f.
    let x = and_parts (F₄ w) (all_met w (opening_clauses 5 2)) e in
    let y = and_parts (F₃ w) (all_met w ((1 ∷ (5 ∷ (7 ∷ []))) ∷ [])) x.0 in
    let z = and_parts (F₂ w) (all_met w (opening_clauses 3 2)) y.0 in
    none_1 (w 0) (w 1) (w 2) z.0 f)
    (mk bits) refl refl).answers

-- the searches one after another
comes : (M : Meaning) (n : ℕ) (S : State) (a b : Answer) (X X' : Known) → S ≡ begun (session M X' (in_hand n 512 a.outcome)) → a ≡ b → X ≡ X'
    → S ≡ begun (session M X (in_hand n 512 b.outcome))
comes M n S a b X X' e f g = e ∙ (λ i. begun (session M (sym g i) (in_hand n 512 (f i).outcome)))

after_1 : (M M₁ : Meaning) (S₁ : State) (r : Reply) → Fresh 1 M → Search 1 (forced is_two M) M r S₁ M₁
    → (r ≡ reply none_within 3 1 1) × (S₁ ≡ begun (session M₁ X₂ none)) × At 3 F₂ 98 991 M₁
after_1 M M₁ S₁ r f s =
    let m = made {n = 1} {s = session M X₀ none} s refl refl refl refl in
    let q = search_1 M M₁ m.answer m.knows (fresh_at f) m.runs in
    (m.replies ∙ ap answered q.0, comes M₁ 1 S₁ m.answer _ X₂ m.knows m.comes_to q.0 q.1, q.2)

after_2 : (M M' : Meaning) (S S' : State) (r : Reply) → S ≡ begun (session M X₂ none) → At 3 F₂ 98 991 M → Search 2 S M r S' M'
    → (r ≡ reply none_within 3 1 1) × (S' ≡ begun (session M' X₄ none)) × At 5 F₄ 96 981 M'
after_2 M M' S S' r e at s =
    let m = made {n = 2} {s = session M X₂ none} (subst (λ x. Search 2 x M r S' M') e s) refl refl refl refl in
    let q = search_2 M M' m.answer m.knows at m.runs in
    (m.replies ∙ ap answered q.0, comes M' 2 S' m.answer _ X₄ m.knows m.comes_to q.0 q.1, q.2)

after_3 : (M M' : Meaning) (S S' : State) (r : Reply) → S ≡ begun (session M X₄ none) → At 5 F₄ 96 981 M → Search 3 S M r S' M'
    → (w : Way) × (r ≡ reply (model w) 2 1 0) × (S' ≡ begun (session M' X₅ (in_hand 3 512 (model w)))) × At 7 F₅ 94 975 M'
    × Is w 0 bits
after_3 M M' S S' r e at s =
    let m = made {n = 3} {s = session M X₄ none} (subst (λ x. Search 3 x M r S' M') e s) refl refl refl refl in
    let q = search_3 M M' m.answer m.knows at m.runs in
    (q.0, m.replies ∙ ap answered q.1, comes M' 3 S' m.answer _ X₅ m.knows m.comes_to q.1 q.2, q.3, q.4)

after_again : (M M' : Meaning) (S S' : State) (r : Reply) (h : Option AtHand) → S ≡ begun (session M X₅ h) → At 7 F₅ 94 975 M → Search 1 S M r S' M'
    → r ≡ reply none_within 1 0 0
after_again M M' S S' r h e at s =
    let m = made {n = 1} {s = session M X₅ h} (subst (λ x. Search 1 x M r S' M') e s) refl refl refl refl in
    m.replies ∙ ap answered (search_again M M' m.answer m.knows at m.runs)

pub two_found : TwoFound
two_found =
    record {
      depth_1 = λ M M₁ S₁ r f s. (after_1 M M₁ S₁ r f s).0;
      depth_2 = λ M M₁ M₂ S₁ S₂ r₁ r f s₁ s.
          let a = after_1 M M₁ S₁ r₁ f s₁ in
          (after_2 M₁ M₂ S₁ S₂ r a.1 a.2 s).0;
      depth_3 = λ M M₁ M₂ M₃ S₁ S₂ S₃ r₁ r₂ r f s₁ s₂ s.
          let a = after_1 M M₁ S₁ r₁ f s₁ in
          let b = after_2 M₁ M₂ S₁ S₂ r₂ a.1 a.2 s₂ in
          let c = after_3 M₂ M₃ S₂ S₃ r b.1 b.2 s in (
            c.0,
            c.1,
            record {
              session = session M₃ X₅ (in_hand 3 512 (model c.0));
              hand = record { way = c.0; depth = 3; steps = 512 };
              begun_as = c.2;
              at_hand = refl;
              written = written c.0 c.4;
            },
          );
      again = λ M M₁ M₂ M₃ M₄ S₁ S₂ S₃ S₄ r₁ r₂ r₃ r f s₁ s₂ s₃ s.
          let a = after_1 M M₁ S₁ r₁ f s₁ in
          let b = after_2 M₁ M₂ S₁ S₂ r₂ a.1 a.2 s₂ in
          let c = after_3 M₂ M₃ S₂ S₃ r₃ b.1 b.2 s₃ in
          after_again M₃ M₄ S₃ S₄ r (in_hand 3 512 (model c.0)) c.2 c.3 s;
    }

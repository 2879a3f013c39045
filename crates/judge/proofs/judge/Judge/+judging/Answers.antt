use Rattle.std.proofs.Common.{◌≡◌, ℕ, ◌+◌, ◌-◌, Bool, [], ◌++◌, sym, refl, ap, ◌∙◌, arith}
use Rattle.std.proofs.lemmas.Bool.{eq-eqb, ne_eqb}
use Rattle.syntax.specs.Terms.{Term}
use Rattle.judging.specs.Held.{Held, hold, h[], branch, no_function, body_of, bound, holds, ◌h++◌}
use Rattle.judging.specs.Judging.{Unknowns, Head, Asks, Judging, go_on, give, negation, truth, after_same, after_wait, of_unknown, after_pair, pairs, by_constructors, after_right, after_left, after_subject, and_right, headed, judges}
use Rattle.held.specs.Reading.{Text, Reads}
use Rattle.judge.specs.Texts.{text_of, tlength}
use Rattle.judge.proofs.Texts.{reads, shown}
use Rattle.problem.specs.declared.view.View.TheVariants as view
use Rattle.judge.proofs.Sets.{adds_none, adds_append, adds_only, explains}
use Rattle.judge.proofs.Agreeing.{opens, shut, opens_comparing, shut_comparing, stands_missing, stands_unknown, stands_term, by, by_verdict, lost, lost_verdict, lost_right, still_waits, as_none, as_head, as_verdict, agrees_join, concurs_join, not_false, false_head, and_left_true, lost_and, pairs_none, pairs_more}
use Rattle.judge.proofs.Keeping.{stands_kept, env_kept, row_kept}
use Rattle.judge.proofs.judge.Judge.+judging.Goals as goal

pub arguments-returns-then-count-eq0-clause-pairs : goal.arguments-returns-then-count-eq0-clause-pairs
arguments-returns-then-count-eq0-clause-pairs g t c d xs ys le long rx ry =
    let x : Text = text_of c.args.self.now.problem.now in
    let K : Unknowns ℕ = g.D.Decides.unknowns c.args.self.now.decider.now in
    let l = c.args.left.now in
    let A : Asks ℕ = judges x.problem K d in
    let ways = c.then-count-eq0.either in
    record {
      means = ([], pairs_none (Reads x) A l.memory.places.now l.memory.top c.args.xs c.args.ys c.args.count l.steps xs ys (λ p q r. omega (arith, ways)) (omega arith) long rx ry, adds_none);
    }

pub arguments-returns-in_err-compare-clause-pairs : goal.arguments-returns-in_err-compare-clause-pairs
arguments-returns-in_err-compare-clause-pairs g t c d xs ys le long rx ry =
    let x : Text = text_of c.args.self.now.problem.now in
    let K : Unknowns ℕ = g.D.Decides.unknowns c.args.self.now.decider.now in
    let l = c.args.left.now in
    let A : Asks ℕ = judges x.problem K d in
    pairs_more (Reads x) A l.memory.places.now l.memory.top c.args.xs c.args.ys c.args.count l.steps xs ys _ _ _ _ _ _ c.argument-x.ensures c.argument-y.ensures (omega arith) long rx ry
    (λ h k hs ks sh sk less rhs rks.
    let rest = after_pair (pairs A hs ks) in
    lost_verdict c.from_residual.ensures (ap (go_on rest) (c.in_err-compare.ensures.compares d h k le sh sk).means))

pub arguments-returns-in_err-rest-in-Same-clause-pairs : goal.arguments-returns-in_err-rest-in-Same-clause-pairs
arguments-returns-in_err-rest-in-Same-clause-pairs g t c d xs ys le long rx ry =
    let x : Text = text_of c.args.self.now.problem.now in
    let K : Unknowns ℕ = g.D.Decides.unknowns c.args.self.now.decider.now in
    let l = c.args.left.now in
    let A : Asks ℕ = judges x.problem K d in
    pairs_more (Reads x) A l.memory.places.now l.memory.top c.args.xs c.args.ys c.args.count l.steps xs ys _ _ _ _ _ _ c.argument-x.ensures c.argument-y.ensures (omega arith) long rx ry
    (λ h k hs ks sh sk less rhs rks.
    let rest = after_pair (pairs A hs ks) in
    let v = as_verdict c.in-Same.is (c.in_ok-compare.ensures.compares d h k le sh sk) in
    let later = c.in_err-rest-in-Same.ensures.pairs d hs ks (omega arith) less (row_kept (Reads x) c.compare.ensures.kept (c.args.xs + 1) hs rhs) (row_kept (Reads x) c.compare.ensures.kept (c.args.ys + 1) ks rks) in
    lost_verdict c.from_residual-in_err-rest-in-Same.ensures (ap (go_on rest) v.1 ∙ ap (go_on (λ w. give (after_same v.0 w))) later.means))

pub arguments-returns-in_err-rest-in-Wait-clause-pairs : goal.arguments-returns-in_err-rest-in-Wait-clause-pairs
arguments-returns-in_err-rest-in-Wait-clause-pairs g t c d xs ys le long rx ry =
    let x : Text = text_of c.args.self.now.problem.now in
    let K : Unknowns ℕ = g.D.Decides.unknowns c.args.self.now.decider.now in
    let l = c.args.left.now in
    let A : Asks ℕ = judges x.problem K d in
    pairs_more (Reads x) A l.memory.places.now l.memory.top c.args.xs c.args.ys c.args.count l.steps xs ys _ _ _ _ _ _ c.argument-x.ensures c.argument-y.ensures (omega arith) long rx ry
    (λ h k hs ks sh sk less rhs rks.
    let rest = after_pair (pairs A hs ks) in
    let v = as_verdict c.in-Wait.is (c.in_ok-compare.ensures.compares d h k le sh sk) in
    let later = c.in_err-rest-in-Wait.ensures.pairs d hs ks (omega arith) less (row_kept (Reads x) c.compare.ensures.kept (c.args.xs + 1) hs rhs) (row_kept (Reads x) c.compare.ensures.kept (c.args.ys + 1) ks rks) in
    lost_verdict c.from_residual-in_err-rest-in-Wait.ensures (ap (go_on rest) v ∙ ap (go_on (λ w. give (after_wait c.in-Wait.unknown w))) later.means))

pub arguments-returns-in_ok-rest-in-Same-clause-pairs : goal.arguments-returns-in_ok-rest-in-Same-clause-pairs
arguments-returns-in_ok-rest-in-Same-clause-pairs g t c d xs ys le long rx ry =
    let x : Text = text_of c.args.self.now.problem.now in
    let K : Unknowns ℕ = g.D.Decides.unknowns c.args.self.now.decider.now in
    let l = c.args.left.now in
    let A : Asks ℕ = judges x.problem K d in
    pairs_more (Reads x) A l.memory.places.now l.memory.top c.args.xs c.args.ys c.args.count l.steps xs ys _ _ _ _ _ _ c.argument-x.ensures c.argument-y.ensures (omega arith) long rx ry
    (λ h k hs ks sh sk less rhs rks.
    let rest = after_pair (pairs A hs ks) in
    let v = as_verdict c.in-Same.is (c.in_ok-compare.ensures.compares d h k le sh sk) in
    by_verdict (ap (go_on rest) (sym v.1))
    (c.past_same.ensures c.arguments.new.left c.args.because.now.words v.0 _ (explains c.nothing-own.result.words c.compare.new.because.words c.nothing-own.ensures v.2)
    (c.in_ok-rest-in-Same.ensures.pairs d hs ks (omega arith) less (row_kept (Reads x) c.compare.ensures.kept (c.args.xs + 1) hs rhs) (row_kept (Reads x) c.compare.ensures.kept (c.args.ys + 1) ks rks))))

pub arguments-returns-in-Differ-clause-pairs : goal.arguments-returns-in-Differ-clause-pairs
arguments-returns-in-Differ-clause-pairs g t c d xs ys le long rx ry =
    let x : Text = text_of c.args.self.now.problem.now in
    let K : Unknowns ℕ = g.D.Decides.unknowns c.args.self.now.decider.now in
    let l = c.args.left.now in
    let A : Asks ℕ = judges x.problem K d in
    pairs_more (Reads x) A l.memory.places.now l.memory.top c.args.xs c.args.ys c.args.count l.steps xs ys _ _ _ _ _ _ c.argument-x.ensures c.argument-y.ensures (omega arith) long rx ry
    (λ h k hs ks sh sk less rhs rks.
    let rest = after_pair (pairs A hs ks) in
    let v = as_verdict c.in-Differ.is (c.in_ok-compare.ensures.compares d h k le sh sk) in
    record {
      means = (v.0, ap (go_on rest) v.1, adds_only _ c.compare.new.because.words (explains c.nothing-own.result.words c.compare.new.because.words c.nothing-own.ensures v.2) c.join.ensures);
    })

pub arguments-returns-in_ok-rest-in-Wait-clause-pairs : goal.arguments-returns-in_ok-rest-in-Wait-clause-pairs
arguments-returns-in_ok-rest-in-Wait-clause-pairs g t c d xs ys le long rx ry =
    let x : Text = text_of c.args.self.now.problem.now in
    let K : Unknowns ℕ = g.D.Decides.unknowns c.args.self.now.decider.now in
    let l = c.args.left.now in
    let A : Asks ℕ = judges x.problem K d in
    pairs_more (Reads x) A l.memory.places.now l.memory.top c.args.xs c.args.ys c.args.count l.steps xs ys _ _ _ _ _ _ c.argument-x.ensures c.argument-y.ensures (omega arith) long rx ry
    (λ h k hs ks sh sk less rhs rks.
    let rest = after_pair (pairs A hs ks) in
    let v = as_verdict c.in-Wait.is (c.in_ok-compare.ensures.compares d h k le sh sk) in
    by_verdict (ap (go_on rest) (sym v))
    (c.past_wait.ensures c.arguments-in-Wait.new.left c.args.because.now.words c.arguments-in-Wait.new.because.words _
    (c.in_ok-rest-in-Wait.ensures.pairs d hs ks (omega arith) less (row_kept (Reads x) c.compare.ensures.kept (c.args.xs + 1) hs rhs) (row_kept (Reads x) c.compare.ensures.kept (c.args.ys + 1) ks rks))))

pub compare-returns-then-left-eq0-clause-compares : goal.compare-returns-then-left-eq0-clause-compares
compare-returns-then-left-eq0-clause-compares g t c d h k le sh sk =
    let x : Text = text_of c.args.self.now.problem.now in
    let K : Unknowns ℕ = g.D.Decides.unknowns c.args.self.now.decider.now in
    let l = c.args.left.now in
    record { means = shut_comparing x.problem K d l.steps h k (omega arith) }

pub compare-returns-clause-compares : goal.compare-returns-clause-compares
compare-returns-clause-compares g t c d h k le sh sk =
    let x : Text = text_of c.args.self.now.problem.now in
    let K : Unknowns ℕ = g.D.Decides.unknowns c.args.self.now.decider.now in
    let l = c.args.left.now in
    by_verdict (opens_comparing x.problem K d l.steps h k (omega arith) (omega arith)) (c.compared.ensures.compared (d - 1) h k (omega arith) sh sk)

pub compared-returns-in_err-second-clause-compared : goal.compared-returns-in_err-second-clause-compared
compared-returns-in_err-second-clause-compared g t c d h k le sh sk =
    let x : Text = text_of c.args.self.now.problem.now in
    let K : Unknowns ℕ = g.D.Decides.unknowns c.args.self.now.decider.now in
    let l = c.args.left.now in
    let A : Asks ℕ = judges x.problem K d in
    lost_verdict c.from_residual-in_err-second.ensures
    (lost_right A k c.in_ok-first.first (c.in_ok-first.ensures.heads d h le sh) (as_none c.in_err-second.was (c.head-2.ensures.heads d k (omega arith) (stands_kept (Reads x) c.head.ensures.kept c.args.b k sk))))

pub compared-returns-then-c-d-clause-compared : goal.compared-returns-then-c-d-clause-compared
compared-returns-then-c-d-clause-compared g t c d h k le sh sk =
    let x : Text = text_of c.args.self.now.problem.now in
    let K : Unknowns ℕ = g.D.Decides.unknowns c.args.self.now.decider.now in
    let l = c.args.left.now in
    let A : Asks ℕ = judges x.problem K d in
    let v = as_head c.in-Is-Is.is-0 (c.in_ok-first.ensures.heads d h le sh) in
    let w = as_head c.in-Is-Is.is-1 (c.in_ok-second.ensures.heads d k (omega arith) (stands_kept (Reads x) c.head.ensures.kept c.args.b k sk)) in
    let one = ap (go_on (after_left A k)) (sym v.2) in
    let two = ap (go_on (after_right A c.in-Is-Is.c v.0 v.1)) (sym w.2) in
    let three = ap (λ (q : Bool). by_constructors A q v.0 w.0 (v.1 ++ w.1) c.head-2.new.left.steps) (sym (eq-eqb c.in-Is-Is.c c.in-Is-Is.d c.if-c-d.true)) in
    by_verdict (three ∙ two ∙ one)
    (concurs_join c.arguments.result (adds_append v.5 w.5)
    (c.arguments.ensures.pairs d v.0 w.0 (omega arith) (omega (arith, c.min.ensures, v.3, w.3)) (row_kept (Reads x) c.head-2.ensures.kept c.in-Is-Is.xs v.0 v.4) w.4))

pub compared-returns-else-c-d-clause-compared : goal.compared-returns-else-c-d-clause-compared
compared-returns-else-c-d-clause-compared g t c d h k le sh sk =
    let x : Text = text_of c.args.self.now.problem.now in
    let K : Unknowns ℕ = g.D.Decides.unknowns c.args.self.now.decider.now in
    let l = c.args.left.now in
    let A : Asks ℕ = judges x.problem K d in
    let v = as_head c.in-Is-Is.is-0 (c.in_ok-first.ensures.heads d h le sh) in
    let w = as_head c.in-Is-Is.is-1 (c.in_ok-second.ensures.heads d k (omega arith) (stands_kept (Reads x) c.head.ensures.kept c.args.b k sk)) in
    let one = ap (go_on (after_left A k)) (sym v.2) in
    let two = ap (go_on (after_right A c.in-Is-Is.c v.0 v.1)) (sym w.2) in
    let three = ap (λ (q : Bool). by_constructors A q v.0 w.0 (v.1 ++ w.1) c.head-2.new.left.steps) (sym (ne_eqb c.in-Is-Is.c c.in-Is-Is.d c.if-c-d.false)) in
    record { means = (v.1 ++ w.1, sym (three ∙ two ∙ one), adds_append v.5 w.5) }

pub compared-returns-in-Is-Waits-clause-compared : goal.compared-returns-in-Is-Waits-clause-compared
compared-returns-in-Is-Waits-clause-compared g t c d h k le sh sk =
    let x : Text = text_of c.args.self.now.problem.now in
    let K : Unknowns ℕ = g.D.Decides.unknowns c.args.self.now.decider.now in
    let l = c.args.left.now in
    let A : Asks ℕ = judges x.problem K d in
    let v = as_head c.in-Is-Waits.is-0 (c.in_ok-first.ensures.heads d h le sh) in
    let w = as_head c.in-Is-Waits.is-1 (c.in_ok-second.ensures.heads d k (omega arith) (stands_kept (Reads x) c.head.ensures.kept c.args.b k sk)) in
    record { means = ap (go_on (after_left A k)) v.2 ∙ ap (go_on (after_right A c.in-Is-Waits.constructor-0 v.0 v.1)) w }

pub compared-returns-in-Waits-default-clause-compared : goal.compared-returns-in-Waits-default-clause-compared
compared-returns-in-Waits-default-clause-compared g t c d h k le sh sk =
    let x : Text = text_of c.args.self.now.problem.now in
    let K : Unknowns ℕ = g.D.Decides.unknowns c.args.self.now.decider.now in
    let l = c.args.left.now in
    let A : Asks ℕ = judges x.problem K d in
    let v = as_head c.in-Waits-default.is-0 (c.in_ok-first.ensures.heads d h le sh) in
    record {
      means = ap (go_on (after_left A k)) v ∙ still_waits c.in-Waits-default.unknown c.in_ok-second.second (c.in_ok-second.ensures.heads d k (omega arith) (stands_kept (Reads x) c.head.ensures.kept c.args.b k sk));
    }

pub head-returns-then-left-eq0-clause-heads : goal.head-returns-then-left-eq0-clause-heads
head-returns-then-left-eq0-clause-heads g t c d h le s =
    let x : Text = text_of c.args.self.now.problem.now in
    let K : Unknowns ℕ = g.D.Decides.unknowns c.args.self.now.decider.now in
    let l = c.args.left.now in
    record { means = shut x.problem K d l.steps h (omega arith) }

pub head-returns-in-Missing-clause-heads : goal.head-returns-in-Missing-clause-heads
head-returns-in-Missing-clause-heads g t c d h le s =
    let x : Text = text_of c.args.self.now.problem.now in
    let K : Unknowns ℕ = g.D.Decides.unknowns c.args.self.now.decider.now in
    let l = c.args.left.now in
    let q = stands_missing (Reads x) l.memory.places.now l.memory.top c.args.at h c.in-Missing.is s in
    record { means = (h[], [], sym (opens x.problem K d l.steps h (omega arith) (omega arith)) ∙ ap (λ (k : Held ℕ). headed x.problem K (judges x.problem K (d - 1)) k (l.steps - 1)) q.1, refl, tt, adds_none) }

pub head-returns-in-Unknown-clause-heads : goal.head-returns-in-Unknown-clause-heads
head-returns-in-Unknown-clause-heads g t c d h le s =
    let x : Text = text_of c.args.self.now.problem.now in
    let K : Unknowns ℕ = g.D.Decides.unknowns c.args.self.now.decider.now in
    let l = c.args.left.now in
    let q = stands_unknown (Reads x) l.memory.places.now l.memory.top c.args.at c.in-Unknown.unknown h c.in-Unknown.is s in
    by (ap (λ (k : Held ℕ). headed x.problem K (judges x.problem K (d - 1)) k (l.steps - 1)) (sym q) ∙ opens x.problem K d l.steps h (omega arith) (omega arith)) (c.decided.ensures.agrees x)

pub head-returns-in-Term-clause-heads : goal.head-returns-in-Term-clause-heads
head-returns-in-Term-clause-heads g t c d h le s =
    let x : Text = text_of c.args.self.now.problem.now in
    let K : Unknowns ℕ = g.D.Decides.unknowns c.args.self.now.decider.now in
    let l = c.args.left.now in
    let q = stands_term (Reads x) l.memory.places.now l.memory.top c.args.at c.in-Term.place c.in-Term.env h c.in-Term.is s in
    by (ap (λ (k : Held ℕ). headed x.problem K (judges x.problem K (d - 1)) k (l.steps - 1)) (sym q.2) ∙ opens x.problem K d l.steps h (omega arith) (omega arith)) (c.head_of_term.ensures.heads (d - 1) q.0 q.1 (omega arith) q.3 q.4)

pub head_of_and-returns-then-is_false-clause-heads : goal.head_of_and-returns-then-is_false-clause-heads
head_of_and-returns-then-is_false-clause-heads g fuel c d t u ρ le rt ru b =
    let x : Text = text_of c.args.self.now.problem.now in
    let K : Unknowns ℕ = g.D.Decides.unknowns c.args.self.now.decider.now in
    let l = c.args.left.now in
    let right : Judging (Head ℕ) = (judges x.problem K d).head (hold u ρ) in
    let a = c.in_ok-first.ensures.heads d (hold t ρ) le (rt, b) in
    let v = false_head c.in_ok-first.first a (c.is_false.ensures.yes c.if-is_false.true x _ _ _ _ a) in
    record {
      means = (h[], v.1, ap (go_on (and_right right)) v.2, refl, tt, adds_only _ c.head.new.because.words (explains c.nothing-own.result.words c.head.new.because.words c.nothing-own.ensures v.3) c.join.ensures);
    }

pub head_of_and-returns-in_err-right-clause-heads : goal.head_of_and-returns-in_err-right-clause-heads
head_of_and-returns-in_err-right-clause-heads g fuel c d t u ρ le rt ru b =
    let x : Text = text_of c.args.self.now.problem.now in
    let K : Unknowns ℕ = g.D.Decides.unknowns c.args.self.now.decider.now in
    let l = c.args.left.now in
    let right : Judging (Head ℕ) = (judges x.problem K d).head (hold u ρ) in
    let a = c.in_ok-first.ensures.heads d (hold t ρ) le (rt, b) in
    lost c.from_residual-in_err-right.ensures (lost_and right c.in_ok-first.first a (c.is_false.ensures.no c.if-is_false.false x _ _ _ _ a)
    (c.in_err-right.ensures.heads d (hold u ρ) (omega arith) (ru, env_kept (Reads x) c.head.ensures.kept c.args.env ρ b)).means)

pub head_of_and-returns-in-Is-clause-heads : goal.head_of_and-returns-in-Is-clause-heads
head_of_and-returns-in-Is-clause-heads g fuel c d t u ρ le rt ru b =
    let x : Text = text_of c.args.self.now.problem.now in
    let K : Unknowns ℕ = g.D.Decides.unknowns c.args.self.now.decider.now in
    let l = c.args.left.now in
    let right : Judging (Head ℕ) = (judges x.problem K d).head (hold u ρ) in
    let a = c.in_ok-first.ensures.heads d (hold t ρ) le (rt, b) in
    let v = as_head c.in-Is.is a in
    by (and_left_true right c.in-Is.constructor _ v.0 v.1 (not_false v.2 (c.is_false.ensures.no c.if-is_false.false x _ _ _ _ a)) ∙ ap (go_on (and_right right)) (sym v.2))
    (c.and_true.ensures.agrees x c.head-2.new.left c.args.because.now.words v.1 _ (explains c.nothing-own.result.words c.head.new.because.words c.nothing-own.ensures v.5) (c.in_ok-right.ensures.heads d (hold u ρ) (omega arith) (ru, env_kept (Reads x) c.head.ensures.kept c.args.env ρ b)))

pub head_of_and-returns-in-Waits-clause-heads : goal.head_of_and-returns-in-Waits-clause-heads
head_of_and-returns-in-Waits-clause-heads g fuel c d t u ρ le rt ru b =
    let x : Text = text_of c.args.self.now.problem.now in
    let K : Unknowns ℕ = g.D.Decides.unknowns c.args.self.now.decider.now in
    let l = c.args.left.now in
    let right : Judging (Head ℕ) = (judges x.problem K d).head (hold u ρ) in
    let a = c.in_ok-first.ensures.heads d (hold t ρ) le (rt, b) in
    by (ap (go_on (and_right right)) (sym (as_head c.in-Waits.is a)))
    (c.and_waits.ensures.agrees x c.head-2.new.left _ _ _ (c.in_ok-right.ensures.heads d (hold u ρ) (omega arith) (ru, env_kept (Reads x) c.head.ensures.kept c.args.env ρ b)))

pub head_of_case-returns-in-Is-clause-heads : goal.head_of_case-returns-in-Is-clause-heads
head_of_case-returns-in-Is-clause-heads g fuel c d t ts ρ le long rt rts b =
    let x : Text = text_of c.args.self.now.problem.now in
    let K : Unknowns ℕ = g.D.Decides.unknowns c.args.self.now.decider.now in
    let l = c.args.left.now in
    let A : Asks ℕ = judges x.problem K d in
    let v = as_head c.in-Is.is (c.in_ok-start.ensures.heads d (hold t ρ) le (rt, b)) in
    let env = c.bind-env.ensures.bound x v.0 ρ v.3 v.4 (env_kept (Reads x) c.head.ensures.kept c.args.env ρ b) in
    by (ap (go_on (after_subject A ts ρ)) (sym v.2))
    (agrees_join c.head-in-Is.result v.5
    (c.head-in-Is.ensures.heads d (hold (branch ts c.in-Is.constructor) (ρ h++ v.0)) (omega arith)
    (c.hold_branch-branch.ensures c.bind-env.new.self.places.now _ t ts (ρ h++ v.0) long rts env)))

pub head_of_term-returns-in_err-a-in-Not-clause-heads : goal.head_of_term-returns-in_err-a-in-Not-clause-heads
head_of_term-returns-in_err-a-in-Not-clause-heads g fuel c d t ρ le rt b =
    let x : Text = text_of c.args.self.now.problem.now in
    let K : Unknowns ℕ = g.D.Decides.unknowns c.args.self.now.decider.now in
    let l = c.args.left.now in
    let s = shown c.args.self.now.problem.now c.args.place (view.Not c.in-Not.place) c.in-Not.ensures.shows t rt in
    let at = λ (u : Term). headed x.problem K (judges x.problem K d) (hold u ρ) l.steps in
    lost c.from_residual.ensures (ap at s.1 ∙ ap (go_on (λ h. give (negation h))) (c.in_err-a-in-Not.ensures.heads d (hold s.0 ρ) le (s.2, b)).means)

pub head_of_term-returns-in_err-v-in-Equal-clause-heads : goal.head_of_term-returns-in_err-v-in-Equal-clause-heads
head_of_term-returns-in_err-v-in-Equal-clause-heads g fuel c d t ρ le rt b =
    let x : Text = text_of c.args.self.now.problem.now in
    let K : Unknowns ℕ = g.D.Decides.unknowns c.args.self.now.decider.now in
    let l = c.args.left.now in
    let s = shown c.args.self.now.problem.now c.args.place (view.Equal c.in-Equal.a c.in-Equal.b) c.in-Equal.ensures.shows t rt in
    let at = λ (u : Term). headed x.problem K (judges x.problem K d) (hold u ρ) l.steps in
    lost c.from_residual-in_err-v-in-Equal.ensures (ap at s.3 ∙ ap (go_on (λ v. give (truth v))) (c.in_err-v-in-Equal.ensures.compared d (hold s.1 ρ) (hold s.2 ρ) le (s.4, b) (s.5, b)).means)

pub head_of_term-returns-in-Variable-clause-heads : goal.head_of_term-returns-in-Variable-clause-heads
head_of_term-returns-in-Variable-clause-heads g fuel c d t ρ le rt b =
    let x : Text = text_of c.args.self.now.problem.now in
    let K : Unknowns ℕ = g.D.Decides.unknowns c.args.self.now.decider.now in
    let l = c.args.left.now in
    let s = shown c.args.self.now.problem.now c.args.place (view.Variable c.in-Variable.variable) c.in-Variable.ensures.shows t rt in
    let at = λ (u : Term). headed x.problem K (judges x.problem K d) (hold u ρ) l.steps in
    by (ap at (sym s)) (c.head.ensures.heads d (bound ρ c.in-Variable.variable) le (c.lookup-held.ensures x l.memory.top ρ b))

pub head_of_term-returns-in-Unknown-clause-heads : goal.head_of_term-returns-in-Unknown-clause-heads
head_of_term-returns-in-Unknown-clause-heads g fuel c d t ρ le rt b =
    let x : Text = text_of c.args.self.now.problem.now in
    let K : Unknowns ℕ = g.D.Decides.unknowns c.args.self.now.decider.now in
    let l = c.args.left.now in
    let s = shown c.args.self.now.problem.now c.args.place (view.Unknown c.in-Unknown.number) c.in-Unknown.ensures.shows t rt in
    let at = λ (u : Term). headed x.problem K (judges x.problem K d) (hold u ρ) l.steps in
    by (ap (λ (u : ℕ). give (of_unknown K u (K.chosen u)) l.steps) c.root-unknown.ensures ∙ ap at (sym s)) (c.decided.ensures.agrees x)

pub head_of_term-returns-in-Constructor-clause-heads : goal.head_of_term-returns-in-Constructor-clause-heads
head_of_term-returns-in-Constructor-clause-heads g fuel c d t ρ le rt b =
    let x : Text = text_of c.args.self.now.problem.now in
    let K : Unknowns ℕ = g.D.Decides.unknowns c.args.self.now.decider.now in
    let l = c.args.left.now in
    let s = shown c.args.self.now.problem.now c.args.place (view.Constructor c.in-Constructor.ty c.in-Constructor.constructor c.in-Constructor.arity c.in-Constructor.arguments) c.in-Constructor.ensures.shows t rt in
    let at = λ (u : Term). headed x.problem K (judges x.problem K d) (hold u ρ) l.steps in
    by (ap at (sym s.1)) (c.constructed.ensures.agrees c.args.because.now.words s.0 ρ s.2 s.3 s.4 b)

pub head_of_term-returns-in-Call-clause-heads : goal.head_of_term-returns-in-Call-clause-heads
head_of_term-returns-in-Call-clause-heads g fuel c d t ρ le rt b =
    let x : Text = text_of c.args.self.now.problem.now in
    let K : Unknowns ℕ = g.D.Decides.unknowns c.args.self.now.decider.now in
    let l = c.args.left.now in
    let s = shown c.args.self.now.problem.now c.args.place (view.Call c.in-Call.function c.in-Call.arity c.in-Call.arguments) c.in-Call.ensures.shows t rt in
    let at = λ (u : Term). headed x.problem K (judges x.problem K d) (hold u ρ) l.steps in
    let long : c.min-count.result ≡ tlength s.0 = omega (arith, c.min-count.ensures, s.2, s.3) in
    by (ap at (sym s.1))
    (c.head-in-Call.ensures.heads d (hold (body_of x.problem c.in-Call.function) (holds s.0 ρ)) le
    (reads (c.body-place.ensures.stands no_function s.4), c.hold_terms-env.ensures.bound s.0 ρ h[] long s.5 b refl))

pub head_of_term-returns-in-Case-clause-heads : goal.head_of_term-returns-in-Case-clause-heads
head_of_term-returns-in-Case-clause-heads g fuel c d t ρ le rt b =
    let x : Text = text_of c.args.self.now.problem.now in
    let K : Unknowns ℕ = g.D.Decides.unknowns c.args.self.now.decider.now in
    let l = c.args.left.now in
    let s = shown c.args.self.now.problem.now c.args.place (view.Case c.in-Case.ty c.in-Case.subject) c.in-Case.ensures.shows t rt in
    let at = λ (u : Term). headed x.problem K (judges x.problem K d) (hold u ρ) l.steps in
    by (ap at (sym s.2)) (c.head_of_case.ensures.heads d s.0 s.1 ρ le s.3 s.4 s.5 b)

pub head_of_term-returns-in-And-clause-heads : goal.head_of_term-returns-in-And-clause-heads
head_of_term-returns-in-And-clause-heads g fuel c d t ρ le rt b =
    let x : Text = text_of c.args.self.now.problem.now in
    let K : Unknowns ℕ = g.D.Decides.unknowns c.args.self.now.decider.now in
    let l = c.args.left.now in
    let s = shown c.args.self.now.problem.now c.args.place (view.And c.in-And.a c.in-And.b) c.in-And.ensures.shows t rt in
    let at = λ (u : Term). headed x.problem K (judges x.problem K d) (hold u ρ) l.steps in
    by (ap at (sym s.2)) (c.head_of_and.ensures.heads d s.0 s.1 ρ le s.3 s.4 b)

pub head_of_term-returns-in_ok-a-in-Not-clause-heads : goal.head_of_term-returns-in_ok-a-in-Not-clause-heads
head_of_term-returns-in_ok-a-in-Not-clause-heads g fuel c d t ρ le rt b =
    let x : Text = text_of c.args.self.now.problem.now in
    let K : Unknowns ℕ = g.D.Decides.unknowns c.args.self.now.decider.now in
    let l = c.args.left.now in
    let s = shown c.args.self.now.problem.now c.args.place (view.Not c.in-Not.place) c.in-Not.ensures.shows t rt in
    let at = λ (u : Term). headed x.problem K (judges x.problem K d) (hold u ρ) l.steps in
    by (ap at (sym s.1)) (c.negate.ensures.agrees x c.head-in-Not.new.left _ _ _ (c.in_ok-a-in-Not.ensures.heads d (hold s.0 ρ) le (s.2, b)))

pub head_of_term-returns-in_ok-v-in-Equal-clause-heads : goal.head_of_term-returns-in_ok-v-in-Equal-clause-heads
head_of_term-returns-in_ok-v-in-Equal-clause-heads g fuel c d t ρ le rt b =
    let x : Text = text_of c.args.self.now.problem.now in
    let K : Unknowns ℕ = g.D.Decides.unknowns c.args.self.now.decider.now in
    let l = c.args.left.now in
    let s = shown c.args.self.now.problem.now c.args.place (view.Equal c.in-Equal.a c.in-Equal.b) c.in-Equal.ensures.shows t rt in
    let at = λ (u : Term). headed x.problem K (judges x.problem K d) (hold u ρ) l.steps in
    by (ap at (sym s.3))
    (c.truth.ensures.agrees x c.compared.new.left _ _ _ (c.in_ok-v-in-Equal.ensures.compared d (hold s.1 ρ) (hold s.2 ρ) le (s.4, b) (s.5, b)))

pub head_of_term-returns-in-Nothing-clause-heads : goal.head_of_term-returns-in-Nothing-clause-heads
head_of_term-returns-in-Nothing-clause-heads g fuel c d t ρ le rt b =
    absurd (shown c.args.self.now.problem.now c.args.place view.Nothing c.in-Nothing.ensures.shows t rt)

use Rattle.std.proofs.Common.{◌≡◌, ◌-◌, ◌<◌, [], ◌∷◌, ◌++◌, length, Ok, sym, refl, subst, arith}
use Rattle.std.proofs.lemmas.Result.{err_from_is_err_and}
use Rattle.syntax.specs.Problems.{concat}
use Rattle.records.specs.Next.{next}
use Rattle.records.specs.Readers.{ahead_of, Hands}
use Rattle.tables.specs.Sections.{Section}
use Rattle.records.proofs.Passed.{place_after}
use Rattle.tables.proofs.Turns.{upto_none, upto_more, upto_refused, upto_all, had_room}
use Rattle.tables.proofs.Entries.{entered_push}
use Rattle.tables.proofs.sections.fill.Goals as goal

pub loop-entry-init : goal.loop-entry-init
loop-entry-init g c =
    let R = g.R.Record in
    record { value = []; section = upto_none R.reading R.writing R.high R.low c.args.most c.args.reader.now; held = record { long = refl; fits = omega arith; stand = tt } }

pub overflow_sub-most : goal.overflow_sub-most
overflow_sub-most g c =
    let l = c.loop-entry.invariant in
    let few = l.section.few in
    omega (arith, few, l.held.long)

pub returns-in_err-item : goal.returns-in_err-item
returns-in_err-item g c =
    let l = c.loop-entry in
    let most = c.args.most in
    let room : most - l.n ≡ most - length l.invariant.value = omega (arith, l.invariant.held.long) in
    let f = upto_refused l.invariant.section (most - l.n) room c.in_err-item.ensures.1 in
    let p = err_from_is_err_and c.from_residual.result c.from_residual.ensures.1 in
    rw (p.1, p.2) f

pub loop-entry-smaller : goal.loop-entry-smaller
loop-entry-smaller g c =
    let R = g.R.Record in
    let l = c.loop-entry in
    let most = c.args.most in
    let r = l.reader in
    let h = subst (λ o. Hands (next R.reading R.high R.low (most - l.n) (ahead_of r) r.at) R.meaning R.writing (R.IsAt r.at) r c.next.new.self (Ok o)) c.in-Some.is c.in_ok-item.ensures in
    omega (arith, had_room R.reading R.high R.low (ahead_of r) r.at (most - l.n) h.1)

pub loop-entry-preserved : goal.loop-entry-preserved
loop-entry-preserved g c =
    let R = g.R.Record in
    let l = c.loop-entry in
    let r = l.reader in
    let after = c.next.new.self in
    let most = c.args.most in
    let x = c.in-Some.item in
    let room : most - l.n ≡ most - length l.invariant.value = omega (arith, l.invariant.held.long) in
    let h = subst (λ o. Hands (next R.reading R.high R.low (most - l.n) (ahead_of r) r.at) R.meaning R.writing (R.IsAt r.at) r after (Ok o)) c.in-Some.is c.in_ok-item.ensures in
    let u = upto_more l.invariant.section (most - l.n) room after (R.meaning x) h.0 h.1 h.2 in
    let place = place_after c.args.reader.now r (concat R.writing l.invariant.value) l.invariant.section.same l.invariant.section.front in
    let low : l.n < length l.table = omega (arith, l.auto.table, c.requires.room, had_room R.reading R.high R.low (ahead_of r) r.at (most - l.n) h.1) in
    record {
      value = l.invariant.value ++ R.meaning x ∷ [];
      section = u;
      held = entered_push (R.meaning x) c.entry.result l.invariant.held low
          (record { item = x; is_at = subst (λ k. R.IsAt k x) place h.3; says = refl; made = c.entry.ensures });
    }

pub returns : goal.returns
returns g c =
    let R = g.R.Record in
    let l = c.loop-entry in
    let r = l.reader in
    let after = c.next.new.self in
    let most = c.args.most in
    let room : most - l.n ≡ most - length l.invariant.value = omega (arith, l.invariant.held.long) in
    let h = subst (λ o. Hands (next R.reading R.high R.low (most - l.n) (ahead_of r) r.at) R.meaning R.writing (R.IsAt r.at) r after (Ok o)) c.in_default.is c.in_ok-item.ensures in
    let u = upto_all l.invariant.section (most - l.n) room h.1 in
    record {
      value = l.invariant.value;
      section = subst (λ s. Section R.reading R.writing R.high R.low most c.args.reader.now s l.invariant.value) (sym h.0) u;
      held = l.invariant.held;
    }

-- What is written is what is asked: there is room, since there are no more literals than variables. Assumes nothing.
use Rattle.std.proofs.Common.{◌≡◌, ℕ, ◌≤◌, Bool, List, ◌++◌, length, take, ap, ◌∙◌, subst, arith}
use Rattle.syntax.specs.Problems.{Problem, sig_of}
use Rattle.finder.specs.Levels.{measures}
use Rattle.finder.specs.Tables.{Table}
use Rattle.finder.specs.Asking.{switches, denials}
use Rattle.unknowns.specs.Force.{forced}
use Rattle.unknowns.specs.Listing.{Stands}
use Rattle.unknowns.specs.declared.table.Table.{Table as Code}
use Rattle.assuming.specs.declared.writer.LiteralWriter.{LiteralWriter}
use Rattle.assuming.specs.Assumes.{AssumesSo, Assumes}
use Rattle.assuming.specs.Written.{Pushed}
use Rattle.assuming.specs.Denied.{denials as rows-denials}
use Rattle.assuming.proofs.Written.{first_written, all_written}
use Rattle.assuming.proofs.Asked.{asked_few, switches_allotted, asked_allotted}
use Rattle.assuming.proofs.Denied.{denials_are}

pub assumes : (p : Problem) (t : Code) (force : List Bool) (n : ℕ) (a b c : LiteralWriter) (after : List ℕ) → a.len ≡ 0
    → Pushed a b (switches p (forced force)) → Pushed b c (rows-denials (sig_of p) n (take t.len t.rows))
    → after ≡ c.literals.now → Assumes p t force n a.literals.now after (record { switches = b.len; all = c.len })
assumes p t force n a b c after empty first others left = record { says = so }
  where
    so : (T : Table) (count : ℕ) → Stands p t T count → count ≤ 32768 → count ≤ length a.literals.now
        → AssumesSo p T count force n after (record { switches = b.len; all = c.len })
    so T count s few room =
        let ss = switches p (forced force) in
        let q = subst (Pushed b c) (denials_are p n t T count s few) others in
        let fits : length (ss ++ denials p (measures p) n T) ≤ length a.literals.now =
        omega (arith, asked_few p (measures p) n (forced force) T, s.full, room) in
        record {
          switched = ap (take b.len) left ∙ first_written a b c ss (denials p (measures p) n T) empty first q fits;
          assumed = ap (take c.len) left ∙ all_written a b c ss (denials p (measures p) n T) empty first q fits;
          switches_allotted = switches_allotted count (forced force) (length p.goals) s.tabled.switches;
          all_allotted = asked_allotted count p (measures p) n (forced force) T s.tabled;
        }

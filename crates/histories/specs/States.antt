-- The abstract state of a session. Assumes nothing.
use Rattle.std.specs.Prelude.{ℕ, Bool, false, List, []}
use Rattle.std.proofs.Math.Option.{Option, none}
use Rattle.chooser.specs.Meaning.{Meaning}
use Rattle.syntax.specs.Problems.{Problem}
use Rattle.finder.specs.Tables.{Table, first_table}
use Rattle.finder.specs.Ways.{Way}
use Rattle.finder.specs.Conflicts.{Conflict}

-- a model at hand: the way of the round that answered MODEL, and that search's depth and steps
pub record AtHand : Type 0 where
  pub way : Way
  pub depth : ℕ
  pub steps : ℕ

-- A session that has begun. Of these no code holds the record of conflicts, which is all conflicts since begin, the newest
-- first, and the steps of a model at hand: they stand here for what is said of them.
pub record Session : Type 0 where
  pub problem : Problem
  pub table : Table
  pub conflicts : List Conflict
  pub force : ℕ → Bool  -- which goals are in force
  pub count : ℕ  -- the chooser's variables and entries left, as last seen
  pub left : ℕ
  pub model : Option AtHand

pub data State : Type 0 where
  not_begun : State
  begun : Session → State

-- as an accepted begin leaves it
abbrev pub start : Problem → Meaning → Session
start p M =
    record {
      problem = p;
      table = first_table p;
      conflicts = [];
      force = λ g. false;
      count = M.count;
      left = M.left;
      model = none;
    }

-- A search of a problem with all its goals in force. Assumes nothing.
use Rattle.std.specs.Prelude.{◌≡◌, ℕ, List, [], ◌++◌, length, map, drop, MatchResult, Ok, Err, Result}
use Rattle.std.proofs.Math.ListN.{take}
use Rattle.std.proofs.Math.Option.{Option, none, some}
use Rattle.chooser.specs.Meaning.{Meaning}
use Rattle.chooser.specs.Made.{Fresh}
use Rattle.syntax.specs.Problems.{Problem}
use Rattle.finder.specs.Models.{Partials}
use Rattle.finder.specs.Clauses.{Extended}
use Rattle.histories.specs.States.{AtHand, Session as Abstract, begun}
use Rattle.histories.specs.Rounds.{Answer as Told}
use Rattle.histories.specs.Calls.{Writes}
use Rattle.models.specs.Models.{written_model}
use Rattle.models.specs.Replays.{ReplaysTrue}
use Rattle.verdict.specs.Verdict.{decoded}
use Rattle.boundary.specs.declared.answering.DepthAnswer.{DepthAnswer}
use Rattle.boundary.specs.declared.faults.LoadFault.{LoadFault}
use Rattle.boundary.specs.declared.faults.LoadFault.TheVariants.{NoMemory}
use Rattle.loader.specs.declared.request.Request.{Request}
use Rattle.loader.specs.declared.request.Room.{Room}
use Rattle.loader.specs.declared.searching.Found.{Found}
use Rattle.loader.specs.Requests.{admitted}
use Rattle.loader.specs.Sessions.{all_goals, forced}
use Rattle.loader.specs.Depths.{Deepens, AllBelieved, crossing}

-- The model m at hand is written as its n bytes, the rest of the memory stays, and a replay of them makes every goal true.
pub record ModelIs (p : Problem) (steps : ℕ) (s : Abstract) (m : AtHand) (old new : List ℕ) (n : ℕ) : Type 0 where
  pub partials : Partials
  pub writes : Writes s m partials
  pub long : n ≡ length (written_model p partials)
  pub wrote : new ≡ written_model p partials ++ drop n old
  pub replays : ReplaysTrue p (take n new) (all_goals p) steps

abbrev pub ModelLeft : Problem → ℕ → Abstract → Option AtHand → List ℕ → List ℕ → ℕ → Type 0
ModelLeft p steps s none old new n = (n ≡ 0) × (new ≡ old)
ModelLeft p steps s (some m) old new n = ModelIs p steps s m old new n

-- Searches from the session with all goals in force, by a chooser that meant M then, as the relation of searches has them; what is
-- to be believed of them; and what was written.
pub record Sought (p : Problem) (M : Meaning) (r : Request) (before after : List DepthAnswer) (old new : List ℕ) (f : Found) : Type 0 where
  pub told : List Told
  pub state : Abstract
  pub then_means : Meaning
  pub deepens : Deepens r.rounds r.steps r.last r.first (begun (forced p M (length p.goals))) M told (begun state) then_means
  pub believed : AllBelieved p r.first told
  pub count : f.answers ≡ length told
  pub writes : after ≡ map crossing told ++ drop f.answers before
  pub model : ModelLeft p r.steps state state.model old new f.model

-- The chooser was made with the entries of the request, and allotted a switch for each goal.
pub record SoughtNew (most : ℕ) (p : Problem) (r : Request) (before after : List DepthAnswer) (old new : List ℕ) (f : Found) : Type 0 where
  pub made : Meaning
  pub fresh : Fresh made most r.entries
  pub means : Meaning
  pub switched : Extended made means (length p.goals) []
  pub sought : Sought p means r before after old new f

pub record Same (before after : List DepthAnswer) (old new : List ℕ) : Type 0 where
  pub answers : after ≡ before
  pub model : new ≡ old

-- the search, or want of memory, which changes nothing
abbrev pub SoughtBy : ℕ → Problem → Request → List DepthAnswer → List DepthAnswer → List ℕ → List ℕ → Result Found LoadFault → Type 0
SoughtBy most p r before after old new (Ok f) = SoughtNew most p r before after old new f
SoughtBy most p r before after old new (Err f) = (f ≡ NoMemory) × Same before after old new

-- What the tests refuse changes nothing. Else the problem that the bytes are is searched.
abbrev pub Answered : ℕ → List ℕ → Request → Room → List DepthAnswer → List DepthAnswer → List ℕ → List ℕ → Result Found LoadFault → Type 0
Answered most bs r room before after old new x =
    MatchResult (admitted bs r most room) (λ _. SoughtBy most (decoded bs) r before after old new x) (λ f. (x ≡ Err f) × Same before after old new)

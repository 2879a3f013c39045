-- What a stack of tasks stands for: the items that are still to be read. Assumes nothing.
use Rattle.std.specs.Prelude.{◌≡◌, ℕ, ◌+◌, ◌<◌, ◌≤◌, true, false, List, [], ◌∷◌, ◌++◌, length, take, drop, Some, None, Option, Ok, Err, Result}
use Rattle.syntax.specs.Typing.{Sig, Want, cases_of, arguments, params_of, each_of, branches_of}
use Rattle.reading.specs.declared.parts.Part.TheVariants.{Start}
use Rattle.terms.specs.declared.tasks.Wanted.{Wanted}
use Rattle.terms.specs.declared.tasks.Task.{Task}
use Rattle.terms.specs.declared.tasks.Task.TheVariants.{One, Two, Arguments, Parameters, Case, Branches}
use Rattle.terms.specs.declared.tasks.Opened.{Opened}
use Rattle.terms.specs.declared.tasks.NoTerm.{NoTerm}
use Rattle.reading.specs.Reading.{Item, item, start, starts, allowed, asked}

-- what is wanted, where the variables have the types s
abbrev pub item_of : List ℕ → Wanted → Item
item_of s w = item w.part (take w.cut s) w.ty

-- a whole term of a type
abbrev pub whole : ℕ → ℕ → Wanted
whole ty cut = record { part = Start; ty = ty; cut = cut }

-- the items of a task, where the variables have the types s
abbrev pub expand : Sig → List ℕ → Task → List Item
expand sig s (One w) = item_of s w ∷ []
expand sig s (Two ty cut) = item Start (take cut s) ty ∷ (item Start (take cut s) ty ∷ [])
expand sig s (Arguments of con next cut) = starts (each_of (take cut s) (drop next (arguments sig of con)))
expand sig s (Parameters of next cut) = starts (each_of (take cut s) (drop next (params_of sig of)))
expand sig s (Case of ty cut) = item Start (take cut s) of ∷ starts (branches_of (take cut s) ty (cases_of sig of))
expand sig s (Branches of next ty cut) = starts (branches_of (take cut s) ty (drop next (cases_of sig of)))

abbrev pub cut_of : Task → ℕ
cut_of (One w) = w.cut
cut_of (Two ty cut) = cut
cut_of (Arguments of con next cut) = cut
cut_of (Parameters of next cut) = cut
cut_of (Case of ty cut) = cut
cut_of (Branches of next ty cut) = cut

-- the task has an item
abbrev pub Left : Sig → Task → Type 0
Left sig (One w) = Unit {0}
Left sig (Two ty cut) = Unit {0}
Left sig (Arguments of con next cut) = next < length (arguments sig of con)
Left sig (Parameters of next cut) = next < length (params_of sig of)
Left sig (Case of ty cut) = Unit {0}
Left sig (Branches of next ty cut) = next < length (cases_of sig of)

-- a task with this cut, with an item left
pub record Fine (sig : Sig) (cut : ℕ) (x : Task) : Type 0 where
  pub cuts : cut_of x ≡ cut
  pub left : Left sig x

abbrev pub expand_rest : Sig → List ℕ → Option Task → List Item
expand_rest sig s None = []
expand_rest sig s (Some x) = expand sig s x

abbrev pub FineRest : Sig → ℕ → Option Task → Type 0
FineRest sig k None = Unit {0}
FineRest sig k (Some x) = Fine sig k x

-- types are put after the first cut ones, which makes k of them
pub record Binds (s s' : List ℕ) (cut : ℕ) (tys : List ℕ) (k : ℕ) : Type 0 where
  pub long : k ≡ cut + length tys
  pub few : k ≤ 64
  pub same : take cut s' ≡ take cut s
  pub is : take k s' ≡ take cut s ++ tys

-- the first item of a task, and the rest of it
pub record Opens (sig : Sig) (s s' : List ℕ) (x : Task) (o : Opened) : Type 0 where
  pub same : take (cut_of x) s' ≡ take (cut_of x) s
  pub low : cut_of x ≤ o.first.cut
  pub high : o.first.cut ≤ 64
  pub is : expand sig s x ≡ item_of s' o.first ∷ expand_rest sig s' o.rest
  pub fine : FineRest sig (cut_of x) o.rest

-- the task begins with a term of over 64 variables
pub record Crowded (sig : Sig) (s : List ℕ) (x : Task) : Type 0 where
  pub wanted : Want
  pub others : List Item
  pub is : expand sig s x ≡ start wanted ∷ others
  pub many : 64 < length wanted.scope

-- What a byte does at an item: it is refused, or it asks for the items of a task, if for any.
abbrev pub Steps : Sig → List ℕ → Item → ℕ → ℕ → Result (Option Task) NoTerm → Type 0
Steps sig s i cut b (Err e) = allowed sig i b ≡ false
Steps sig s i cut b (Ok r) = (allowed sig i b ≡ true) × (asked sig i b ≡ expand_rest sig s r) × FineRest sig cut r

-- a task on top of the others, if there is one
abbrev pub put : Option Task → List Task → List Task
put None ts = ts
put (Some x) ts = x ∷ ts

-- where no task is next, none is left
abbrev pub NoneLeft : Option Task → List Task → Type 0
NoneLeft None ts = ts ≡ []
NoneLeft (Some x) ts = Unit {0}

-- the items of the tasks, the topmost first
abbrev pub stack_of : Sig → List ℕ → List Task → List Item
stack_of sig s [] = []
stack_of sig s (x ∷ xs) = expand sig s x ++ stack_of sig s xs

-- The cuts of the tasks, from the topmost down, fall from at most m, and each has an item. So one array serves for all scopes:
-- a write past the cut of the topmost task changes no task.
abbrev pub Piled : Sig → List Task → ℕ → Type 0
Piled sig [] m = Unit {0}
Piled sig (x ∷ xs) m = (cut_of x ≤ m) × Left sig x × Piled sig xs (cut_of x)

-- a byte is refused: there is no item, or it is not allowed at the first
abbrev pub Stops : Sig → List Item → ℕ → Type 0
Stops sig [] b = Unit {0}
Stops sig (i ∷ is) b = allowed sig i b ≡ false

-- a byte is allowed at the first of the items, and what it asks for comes in its place
pub record Moves (sig : Sig) (is : List Item) (b : ℕ) (is' : List Item) : Type 0 where
  pub top : Item
  pub others : List Item
  pub first : is ≡ top ∷ others
  pub good : allowed sig top b ≡ true
  pub then : is' ≡ asked sig top b ++ others

-- ts were left before the byte, and ts' are left after it
pub record Advances (sig : Sig) (s s' : List ℕ) (ts ts' : List Task) (b : ℕ) : Type 0 where
  pub few : length ts' ≤ length ts + 1
  pub piled : Piled sig ts' 64
  pub moves : Moves sig (stack_of sig s ts) b (stack_of sig s' ts')

-- A section of records of one kind, and the table that it fills. Assumes nothing.
use Rattle.std.specs.Prelude.{◌≡◌, ℕ, ◌+◌, ◌≤◌, List, [], ◌∷◌, ◌++◌, length, take, Result}
use Rattle.syntax.specs.declared.faults.Fault.{Fault}
use Rattle.syntax.specs.Problems.{concat}
use Rattle.records.specs.Reading.{Read, read, many}
use Rattle.records.specs.declared.reader.Reader.{Reader}
use Rattle.records.specs.Readers.{ahead_of}

-- The reader passed all records with the mark a b, of which there are at most so many: they are xs, and w writes each of them.
pub record Section {A : Type 0} (one : ℕ → List ℕ → ℕ → Result (Read A) Fault) (w : A → List ℕ) (a b most : ℕ) (before after : Reader) (xs : List A) : Type 0 where
  pub same : after.bytes.now ≡ before.bytes.now
  pub is : many one a b most (ahead_of before) before.at ≡ read xs (ahead_of after) after.at
  pub front : ahead_of before ≡ concat w xs ++ ahead_of after

-- the entry t was made of a record that says v, with its mark at p
pub record MadeOf {A R T : Type 0} (IsAt : ℕ → R → Type 0) (meaning : R → A) (Makes : R → T → Type 0) (p : ℕ) (v : A) (t : T) : Type 0 where
  pub item : R
  pub is_at : IsAt p item
  pub says : meaning item ≡ v
  pub made : Makes item t

-- Each entry of a list stands for the record at its place, of which the first stands at p; w writes each of them.
abbrev pub Stand : {A T : Type 0} → (ℕ → A → T → Type 0) → (A → List ℕ) → ℕ → List A → List T → Type 0
Stand E w p [] [] = Unit {0}
Stand E w p [] (t ∷ ts) = ⊥
Stand E w p (x ∷ xs) [] = ⊥
Stand E w p (x ∷ xs) (t ∷ ts) = E p x t × Stand E w (p + length (w x)) xs ts

-- the first n entries of the table stand for the records xs
pub record Entered {A T : Type 0} (E : ℕ → A → T → Type 0) (w : A → List ℕ) (p : ℕ) (table : List T) (n : ℕ) (xs : List A) : Type 0 where
  pub long : n ≡ length xs
  pub fits : n ≤ length table
  pub stand : Stand E w p xs (take n table)

-- some records were read, and the table holds them
pub record Filled {A : Type 0} (ReadAs Held-as : List A → Type 0) : Type 0 where
  pub value : List A
  pub section : ReadAs value
  pub held : Held-as value

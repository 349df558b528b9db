-- Files that are written, and what is left of them if writing is cut short.
use Rattle.std.specs.Prelude.{◌≡◌, ◌≢◌, ◌⊎◌, ℕ, Some, List, [], ◌∷◌, ◌++◌, map, take}
use Rattle.vz_outside.specs.Shelved.{Shelved, Name, Writing, IfKnown, Holds, Appends}

-- a file that is written: its name, and its bytes
pub record Output : Type 0 where
  pub name : Name
  pub bytes : List ℕ

-- each name has its bytes
abbrev pub AreWhole : List Output → Shelved → Type 0
AreWhole [] s = Unit {0}
AreWhole (output ∷ more) s = Holds output.bytes output.name s × AreWhole more s

-- the bytes of a name are as before, or a front part of these bytes
abbrev pub HasFront : Name → List ℕ → Shelved → Shelved → Type 0
HasFront name all before after =
    IfKnown before
    ((after.bytes name ≡ before.bytes name) ⊎ ((n : ℕ) × (after.bytes name ≡ Some (take n all))))

-- each name is as before, or is an empty file
abbrev pub AreUnwritten : List Output → Shelved → Shelved → Type 0
AreUnwritten [] before after = Unit {0}
AreUnwritten (output ∷ more) before after = HasFront output.name [] before after × AreUnwritten more before after

-- the first of these files are whole, the next one has at most a front part, and the others are
-- unwritten
abbrev pub AreBegun : List Output → Shelved → Shelved → Type 0
AreBegun [] before after = Unit {0}
AreBegun (output ∷ more) before after =
    (Holds output.bytes output.name after × AreBegun more before after)
    ⊎ (HasFront output.name output.bytes before after × AreUnwritten more before after)

-- the name is none of these
abbrev pub IsNoneOf : Name → List Name → Type 0
IsNoneOf name [] = Unit {0}
IsNoneOf name (one ∷ more) = (name ≢ one) × IsNoneOf name more

-- every name keeps its bytes, except these
abbrev pub KeepsAllBut : List Name → Shelved → Shelved → Type 0
KeepsAllBut names before after =
    IfKnown before ((name : Name) → IsNoneOf name names → after.bytes name ≡ before.bytes name)

-- the names of files
abbrev pub names_of : List Output → List Name
names_of outputs = map (λ output. output.name) outputs

-- all of these files are whole, and every other name keeps its bytes
pub record WritesAll (outputs : List Output) (before after : Shelved) : Type 0 where
  pub whole : AreWhole outputs after
  pub others : KeepsAllBut (names_of outputs) before after

-- these files are begun, and every other name keeps its bytes
pub record WritesSome (outputs : List Output) (before after : Shelved) : Type 0 where
  pub begun : AreBegun outputs before after
  pub others : KeepsAllBut (names_of outputs) before after

-- a file is open for writing under this name, and has what was written so far
pub record IsOut (name : Name) (slot : ℕ) (held : List ℕ) (s : Shelved) : Type 0 where
  pub writing : s.mode slot ≡ Some Writing
  pub named : IfKnown s (s.name slot ≡ name)
  pub holds : Holds held name s

-- of these bytes a front part was added to a name, and the others are left
pub record AppendsPart (all left : List ℕ) (name : Name) (old new : Shelved) : Type 0 where
  pub part : List ℕ
  pub all_is : all ≡ part ++ left
  pub appended : Appends part name old new

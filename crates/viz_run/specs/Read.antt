-- The bytes that are read from named files.
use Rattle.std.specs.Prelude.{◌≡◌, ◌⊎◌, ℕ, ◌+◌, Some, List, [], ◌∷◌, map, take}
use Rattle.std.specs.declared.string.String.{String}
use Rattle.std.specs.declared.vec.Vec.{Vec}
use Rattle.std.specs.String.{string_bytes}
use Rattle.vz_outside.specs.Shelved.{Shelved, Name, IfKnown, IsMissing}

-- the bytes that are read from a name: all of them, or of a longer file one byte more than a limit
abbrev pub IsReadUpto : ℕ → Name → List ℕ → Shelved → Type 0
IsReadUpto limit name bytes s =
    IfKnown s ((all : List ℕ) × (s.bytes name ≡ Some all) × (bytes ≡ take (limit + 1) all))

-- the names, each as its list of bytes
abbrev pub texts : {A : Type 0} → List (String A) → List Name
texts names = map string_bytes names

-- the bytes of the files that were read
abbrev pub contents : {A : Type 0} → List (Vec ℕ A) → List (List ℕ)
contents files = map (λ v. v.items) files

-- the same for each of these names, in order
abbrev pub AreReadUpto : ℕ → List Name → List (List ℕ) → Shelved → Type 0
AreReadUpto limit [] [] s = Unit {0}
AreReadUpto limit (name ∷ names) (bytes ∷ more) s = IsReadUpto limit name bytes s × AreReadUpto limit names more s
AreReadUpto limit _ _ s = ⊥

-- some of these names is known not to exist
abbrev pub MissesOne : List Name → Shelved → Type 0
MissesOne [] s = ⊥
MissesOne (name ∷ names) s = IsMissing name s ⊎ MissesOne names s

-- What a gate was told of the entries of the display's end.
use Rattle.std.specs.Prelude.{◌≡◌, ℕ, ◌+◌, length}
use Rattle.vz_outside.specs.Told.{Call, AreTold}
use Rattle.vz_desk.specs.Totals.{DisplayTotals}
use Rattle.vz_desk.specs.Owners.{Owner, mine_of}

-- a gate that was told whatever is asked
abbrev pub anything : Call → Type 0
anything call = Unit {0}

-- a gate that was told nothing
abbrev pub nothing : Call → Type 0
nothing call = ⊥

-- how many entries of Begin, Draw and Done the display made
abbrev pub counted_in : DisplayTotals → ℕ
counted_in t = t.begins + t.draws + t.dones

-- a gate was told of each entry of the display
abbrev pub HasToldAll : (Call → Type 0) → Owner DisplayTotals → Type 0
HasToldAll told d = AreTold told 0 0 (length (mine_of d))

-- a gate was told of each entry of the display, and none of them is Over
pub record IsToldOf (told : Call → Type 0) (d : Owner DisplayTotals) : Type 0 where
  pub counted : length (mine_of d) ≡ counted_in d.totals
  pub all : HasToldAll told d

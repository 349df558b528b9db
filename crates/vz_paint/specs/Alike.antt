-- Rows in which operations draw the same.
use Rattle.std.specs.Prelude.{◌≡◌, ℕ, ℤ, pos, ◌+ℤ◌, ◌<◌, false, List}
use Rattle.vz_geom.specs.{Rectangle.Rectangle, Rectangle.has}
use Rattle.vz_pixels.specs.Colour.{Colour}
use Rattle.vz_flat.specs.declared.op.Op.{Op}
use Rattle.vz_flat.specs.declared.op.Op.TheVariants.{Fill, Blit, Push, Pop}
use Rattle.vz_flat.specs.Ops.{value}

-- in so many rows from row y on, an area has each column of the first one, and no other
abbrev pub HasAlike : ℤ → ℕ → Rectangle → Type 0
HasAlike y n area = (x : ℤ) (j : ℕ) → j < n → has area (record { x = x; y = y +ℤ pos j }) ≡ has area (record { x = x; y = y })

-- an area has no point of row y
abbrev pub HasNone : ℤ → Rectangle → Type 0
HasNone y area = (x : ℤ) → has area (record { x = x; y = y }) ≡ false

-- an operation draws the same in so many rows from row y on: its area has them alike, and if it
-- draws texels, none of them
abbrev pub IsAlike : ℤ → ℕ → Op → Type 0
IsAlike y n (Fill area c o m) = HasAlike y n area
IsAlike y n (Blit area block tx ty o m) = HasAlike y n area × HasNone y area
IsAlike y n (Push area o m) = HasAlike y n area
IsAlike y n Pop = n ≡ n

-- in so many rows from row y on, operations make of a colour what they make of it in the first one
abbrev pub AreRowsAlike : List Op → ℤ → ℕ → Type 0
AreRowsAlike ops y n = (j : ℕ) (x : ℤ) (d : Colour) → j < n → value ops (record { x = x; y = y +ℤ pos j }) d ≡ value ops (record { x = x; y = y }) d

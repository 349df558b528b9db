-- The pixels of the open groups.
use Rattle.std.specs.Prelude.{◌<◌, ◌≤◌, ℕ, ◌+◌, ◌*◌, ◌-◌, List, [], ◌∷◌, take, length, get_or, ⊤}
use Rattle.std.specs.List.{All}
use Rattle.vz_geom.specs.declared.Point.{Point}
use Rattle.vz_geom.specs.Rectangle.{has}
use Rattle.vz_pixels.specs.Colour.{Colour, transparent}
use Rattle.vz_flat.specs.declared.op.Op.{Op}
use Rattle.vz_flat.specs.declared.op.Op.TheVariants.{Fill, Blit, Push, Pop}
use Rattle.vz_flat.specs.Ops.{Group, run}
use Rattle.vz_paint.specs.declared.group.OpenGroup.{OpenGroup}
use Rattle.vz_paint.specs.Redraw.{point_of}

-- an open group at a point, over a colour
abbrev pub group_at : Point → Colour → OpenGroup → Group
group_at p below g = record { below = below; opacity = g.opacity; mode = g.mode; has_point = has g.area p }

-- what operations make at a point of the innermost of open groups, which are given with the
-- outermost first: each has the point's pixel at this index, over that of the one before, and the
-- first over a colour
unfoldable pub drawn_over : Point → ℕ → List Op → List OpenGroup → List Group → Colour → Colour
drawn_over p at ops [] stack below = run p ops stack below
drawn_over p at ops (g ∷ gs) stack below = drawn_over p at ops gs (group_at p below g ∷ stack) (get_or g.pixels.items at transparent)

-- what operations make at a point inside so many open groups
abbrev pub drawn_to : Point → ℕ → List Op → ℕ → List OpenGroup → Colour → Colour
drawn_to p at ops n groups below = drawn_over p at ops (take n groups) [] below

-- what operations make of the pixel in a row and a column of these rows inside so many open groups
abbrev pub made_at : Point → ℕ → ℕ → ℕ → List Op → ℕ → List OpenGroup → List Colour → ℕ → ℕ → Colour
made_at start width left wide ops n groups pixels r i = drawn_to (point_of start r i) (r * wide + i) ops n groups (get_or pixels ((r * width + left) + i) transparent)

-- each group has so many pixels, or more
abbrev pub HavePixels : ℕ → List OpenGroup → Type 0
HavePixels count groups = All (λ g. count ≤ length g.pixels.items) groups

-- an operation is a part of a picture, and no end of a group
abbrev pub IsItem : Op → Type 0
IsItem (Fill area c o m) = ⊤
IsItem (Blit area block tx ty o m) = ⊤
IsItem (Push area o m) = ⊥
IsItem Pop = ⊥

-- an operation is allowed with so many groups open, if at most so many may be open
abbrev pub MayStand : ℕ → ℕ → Op → Type 0
MayStand n most (Push area o m) = n < most
MayStand n most Pop = 0 < n
MayStand n most (Fill area c o m) = ⊤
MayStand n most (Blit area block tx ty o m) = ⊤

-- how many groups are open after an operation, with so many open before it
abbrev pub open_after : ℕ → Op → ℕ
open_after n (Push area o m) = n + 1
open_after n Pop = n - 1
open_after n (Fill area c o m) = n
open_after n (Blit area block tx ty o m) = n

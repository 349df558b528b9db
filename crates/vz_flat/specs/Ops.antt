-- The colour that a list of operations gives at a point of the display.
use Rattle.std.specs.Prelude.{ℕ, ℤ, pos, ◌+◌, ◌-◌, ◌+ℤ◌, int_le, nat_lt, max, Bool, true, ◌&&◌, ◌||◌, ◌==◌, List, [], ◌∷◌, if◌then◌else◌, Some}
use Rattle.std.specs.List.{list_all}
use Rattle.vz_geom.specs.declared.Point.{Point}
use Rattle.vz_geom.specs.Rectangle.{is_empty_rect, has, plus, minus, corner}
use Rattle.vz_pixels.specs.Colour.{Colour, transparent}
use Rattle.vz_frame.specs.declared.blend.Blend.{Blend}
use Rattle.vz_frame.specs.Blending.{laid}
use Rattle.vz_rules.specs.Paint.{texel_of}
use Rattle.vz_flat.specs.declared.op.TheConstants.{MOST_OPEN}
use Rattle.vz_flat.specs.declared.op.Op.{Op}
use Rattle.vz_flat.specs.declared.op.Op.TheVariants.{Fill, Blit, Push, Pop}

-- an open group: the colour below it, its opacity and mode, and whether its area has the point
pub record Group : Type 0 where
  pub below : Colour
  pub opacity : ℕ
  pub mode : Blend
  pub has_point : Bool

-- a group that ends is blended onto what is below it if its area has the point, and otherwise
-- changes nothing
abbrev pub closed : Group → Colour → Colour
closed g d = if g.has_point then laid g.mode d g.opacity g.below else g.below

-- the colour after operations, with these groups open, the innermost first
unfoldable pub run : Point → List Op → List Group → Colour → Colour
run p [] groups d = d
run p (Fill area c o m ∷ ops) groups d = run p ops groups (if has area p then laid m c o d else d)
run p (Blit area block tx ty o m ∷ ops) groups d =
    run p ops groups (if has area p then laid m (texel_of (Some block) (plus (minus p (corner area)) (record { x = tx; y = ty }))) o d else d)
run p (Push area o m ∷ ops) groups d = run p ops (record { below = d; opacity = o; mode = m; has_point = has area p } ∷ groups) transparent
run p (Pop ∷ ops) [] d = run p ops [] d
run p (Pop ∷ ops) (g ∷ groups) d = run p ops groups (closed g d)

-- the value of operations at a point, on a colour
unfoldable pub value : List Op → Point → Colour → Colour
value ops p d = run p ops [] d

-- with so many groups open at the start: each Pop ends an open group, none stays open, and never
-- are more groups open than the limit
unfoldable pub is_nested : ℕ → List Op → Bool
is_nested n [] = n == 0
is_nested n (Push area o m ∷ ops) = nat_lt n MOST_OPEN && is_nested (n + 1) ops
is_nested n (Pop ∷ ops) = nat_lt 0 n && is_nested (n - 1) ops
is_nested n (Fill area c o m ∷ ops) = is_nested n ops
is_nested n (Blit area block tx ty o m ∷ ops) = is_nested n ops

-- so many texels, from a column or a row on, are inside a side of a block
abbrev pub is_span_inside : ℤ → ℤ → ℕ → Bool
is_span_inside start count side = int_le (pos 0) start && int_le (start +ℤ count) (pos side)

-- the texels of a blit are inside its block; a blit without an area has no texels
unfoldable pub is_inside : Op → Bool
is_inside (Blit area block tx ty o m) =
    is_empty_rect area || (is_span_inside tx area.w block.w && is_span_inside ty area.h block.h)
is_inside (Fill area c o m) = true
is_inside (Push area o m) = true
is_inside Pop = true

-- the operations are nested, with so many groups open at the start, and all their texels are
-- inside their blocks
abbrev pub is_whole_from : ℕ → List Op → Bool
is_whole_from n ops = is_nested n ops && list_all is_inside ops

-- the operations are nested, and all their texels are inside their blocks
unfoldable pub is_whole : List Op → Bool
is_whole ops = is_whole_from 0 ops

-- the greatest number of groups that are open at once, with so many open at the start
unfoldable pub deepest : ℕ → List Op → ℕ
deepest n [] = n
deepest n (Push area o m ∷ ops) = deepest (n + 1) ops
deepest n (Pop ∷ ops) = max n (deepest (n - 1) ops)
deepest n (Fill area c o m ∷ ops) = deepest n ops
deepest n (Blit area block tx ty o m ∷ ops) = deepest n ops

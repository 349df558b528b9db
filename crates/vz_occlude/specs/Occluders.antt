-- Occluders: the items that leave nothing in their area of what was there before.
use Rattle.std.specs.Prelude.{ℕ, ℤ, Bool, true, false, ◌&&◌, ◌==◌, List, [], ◌∷◌, ◌++◌, Some, if◌then◌else◌}
use Rattle.std.specs.List.{list_all}
use Rattle.vz_geom.specs.declared.Point.{Point}
use Rattle.vz_geom.specs.Rectangle.{Rectangle, plus, minus, corner, points_in}
use Rattle.vz_pixels.specs.Colour.{Colour}
use Rattle.vz_pixels.specs.Block.{Block}
use Rattle.vz_frame.specs.declared.blend.Blend.{Blend}
use Rattle.vz_frame.specs.declared.blend.Blend.TheVariants.{Over, Src, DstIn}
use Rattle.vz_rules.specs.Paint.{texel_of}
use Rattle.vz_occlude.specs.Items.{Items, Done, Filled, Blitted, Grouped}

-- the alpha of a colour is 255
abbrev pub is_opaque : Colour → Bool
is_opaque c = c.a == 255

-- the texel that a Blit lays at a point of its area
abbrev pub laid_texel : Rectangle → Block → ℤ → ℤ → Point → Colour
laid_texel area block tx ty p = texel_of (Some block) (plus (minus p (corner area)) (record { x = tx; y = ty }))

-- every texel that a Blit lays is opaque
unfoldable pub is_opaque_blit : Rectangle → Block → ℤ → ℤ → Bool
is_opaque_blit area block tx ty = list_all (λ p. is_opaque (laid_texel area block tx ty p)) (points_in area)

-- a Fill or a Blit is an occluder in mode Src, and in mode Over at opacity 255 if all its colours are opaque
abbrev pub is_occluder : Blend → ℕ → Bool → Bool
is_occluder Over o opaque = (o == 255) && opaque
is_occluder Src o opaque = true
is_occluder DstIn o opaque = false

-- an area, if it is to be listed
abbrev pub listed_if : Bool → Rectangle → List Rectangle
listed_if t area = if t then area ∷ [] else []

-- the areas of the occluders of a list, the last one first; a group is none
unfoldable pub occluders_of : Items → List Rectangle
occluders_of Done = []
occluders_of (Filled area c o m later) = occluders_of later ++ listed_if (is_occluder m o (is_opaque c)) area
occluders_of (Blitted area block tx ty o m later) = occluders_of later ++ listed_if (is_occluder m o (is_opaque_blit area block tx ty)) area
occluders_of (Grouped area o m inner later) = occluders_of later

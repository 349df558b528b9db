-- Worked lists of operations.
use Rattle.std.specs.Prelude.{ℕ, pos, List, [], ◌∷◌}
use Rattle.vz_geom.specs.Rectangle.{Rectangle}
use Rattle.vz_pixels.specs.Colour.{Colour}
use Rattle.vz_frame.specs.declared.blend.Blend.TheVariants.{Over}
use Rattle.vz_flat.specs.declared.op.Op.{Op}
use Rattle.vz_flat.specs.declared.op.Op.TheVariants.{Fill, Blit, Push, Pop}

-- a rectangle of four numbers
abbrev pub rect : ℕ → ℕ → ℕ → ℕ → Rectangle
rect x y w h = record { x = pos x; y = pos y; w = pos w; h = pos h }

-- opaque red
abbrev pub red : Colour
red = record { r = 255; g = 0; b = 0; a = 255 }

-- opaque green
abbrev pub green : Colour
green = record { r = 0; g = 255; b = 0; a = 255 }

-- a colour laid over all of an area
abbrev pub filled : Colour → Rectangle → Op
filled c area = Fill area c 255 Over

-- green behind red of the same area
abbrev pub green_behind : Rectangle → List Op
green_behind front = filled green (rect 0 0 4 2) ∷ filled red front ∷ []

-- a group at half opacity behind red
abbrev pub group_behind : List Op
group_behind = Push (rect 0 0 2 2) 128 Over ∷ filled green (rect 0 0 2 2) ∷ Pop ∷ filled red (rect 0 0 4 2) ∷ []

-- green behind a group with red
abbrev pub behind_group : List Op
behind_group = filled green (rect 0 0 4 2) ∷ Push (rect 0 0 4 2) 255 Over ∷ filled red (rect 0 0 4 2) ∷ Pop ∷ []

-- green behind a block of one texel
abbrev pub behind_texel : Colour → List Op
behind_texel c = filled green (rect 0 0 1 1) ∷ Blit (rect 0 0 1 1) (record { w = 1; h = 1; pixels = c ∷ [] }) (pos 0) (pos 0) 255 Over ∷ []

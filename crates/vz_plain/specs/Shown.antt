-- The colours of a display, with a root or without one.
use Rattle.std.specs.Prelude.{Option, Some, None, List}
use Rattle.vz_geom.specs.declared.Point.{Point}
use Rattle.vz_ids.specs.declared.SurfaceId.{SurfaceId}
use Rattle.vz_pixels.specs.Colour.{Colour, black}
use Rattle.vz_rules.specs.World.{FrameData}
use Rattle.vz_rules.specs.Paint.{full}

-- the colour at a point, or black if there is no root
abbrev pub colour_of : List FrameData → Option SurfaceId → Point → Colour
colour_of active None p = black
colour_of active (Some root) p = full (record { root = root; active = active }) p

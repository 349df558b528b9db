-- The picture of a drawing.
use Rattle.std.specs.Prelude.{Option, Some, None, List}
use Rattle.vz_geom.specs.declared.Size.{Size}
use Rattle.vz_geom.specs.Rectangle.{Covers, sized}
use Rattle.vz_pixels.specs.Colour.{Colour}
use Rattle.vz_rules.specs.declared.entry.Reply.{Reply}
use Rattle.vz_rules.specs.declared.entry.Reply.TheVariants.{Drawn}
use Rattle.vz_machine.specs.Pictured.{Pixelled}

-- if something is drawn, its damage is on the display
abbrev pub CoversDamage : Size → Reply → Type 0
CoversDamage size (Drawn damage) = Covers (sized size) damage
CoversDamage size _ = Unit {0}

-- the picture with these pixels, if the reply says that something is drawn
abbrev pub pictured : Size → Reply → Option (List Colour) → Option Pixelled
pictured size (Drawn damage) (Some pixels) = Some (record { size = size; pixels = pixels; changed = damage })
pictured size _ _ = None

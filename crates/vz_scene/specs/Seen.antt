-- Damages clipped to what is seen.
use Rattle.vz_geom.specs.Rectangle.{Rectangle, sized, meet, moved}
use Rattle.vz_frame.specs.Frame.{frame_size}
use Rattle.vz_rules.specs.World.{FrameData}
use Rattle.vz_rules.specs.Walk.{Placement}

-- the part of a damage on the frame's surface that is seen at a place
abbrev pub seen_damage : Rectangle → FrameData → Placement → Rectangle
seen_damage damage i place = meet (meet place.window (moved (sized (frame_size i.frame)) place.shift)) (moved damage place.shift)

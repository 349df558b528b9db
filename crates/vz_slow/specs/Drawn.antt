-- The answer to a drawing that is not too much, and its picture.
use Rattle.std.specs.Prelude.{◌&&◌, is_some, Option, Some, None, List, if◌then◌else◌}
use Rattle.vz_geom.specs.declared.Size.{Size}
use Rattle.vz_geom.specs.Rectangle.{Rectangle, is_empty_rect}
use Rattle.vz_ids.specs.declared.Sub.{Sub}
use Rattle.vz_pixels.specs.Colour.{Colour}
use Rattle.vz_rules.specs.declared.entry.Reply.{Reply}
use Rattle.vz_rules.specs.declared.entry.Reply.TheVariants as reply
use Rattle.vz_rules.specs.Plan.{Plan}
use Rattle.vz_rules.specs.World.{World, Scene, Aggregation}
use Rattle.vz_rules.specs.Messages.{Answer, says}
use Rattle.vz_rules.specs.Walk.{Visit, walked_subs}
use Rattle.vz_rules.specs.Damage.{drawn_damage, aggregation_of}
use Rattle.vz_rules.specs.Step.{accepted_frames}
use Rattle.vz_rules.specs.Whole.{picture_in}

-- the answer by the damage, what is remembered, and what is drawn
abbrev pub shown_by : World → Rectangle → Aggregation → List Sub → Answer
shown_by w damage past drawn =
    if is_some w.last && is_empty_rect damage then says reply.Unchanged (record w { last = Some past })
    else says (reply.Drawn damage) (record w { last = Some past; in_flight = Some drawn })

-- the answer by the walk
abbrev pub walked_answer : Size → World → Scene → List Visit → Answer
walked_answer size w scene visits =
    shown_by w (drawn_damage size w.last (accepted_frames w) scene.root visits) (aggregation_of scene visits) (walked_subs scene visits)

-- the picture of a world, if the reply says that it is drawn
abbrev pub drawn_picture : Plan → World → Reply → Option (List Colour)
drawn_picture p w (reply.Drawn damage) = Some (picture_in p w)
drawn_picture p w _ = None

-- What a drawing on a desk means.
use Rattle.std.specs.Prelude.{◌≡◌, ◌≢◌, false, Option, Some, None}
use Rattle.vz_rules.specs.declared.entry.Event.TheVariants as event
use Rattle.vz_rules.specs.declared.entry.Reply.TheVariants as reply
use Rattle.vz_rules.specs.Step.{world}
use Rattle.vz_machine.specs.Pictured.{Pictured}
use Rattle.vz_machine.specs.Stepping.{ShowsDrawn}
use Rattle.vz_desk.specs.declared.drawing.Drawing.{Drawing}
use Rattle.vz_desk.specs.declared.drawing.Drawing.TheVariants.{Drawn, Other, Stopped}
use Rattle.vz_desk.specs.Owners.{Owner, MakesNone}
use Rattle.vz_desk.specs.Totals.{DisplayTotals, noted_plainly}
use Rattle.vz_desk.specs.Displays.{Displays}

-- a drawing made the entry; there is a picture exactly if something is drawn, and it shows the
-- world before that entry; the reply is not Busy if no frame was in flight
pub record Draws (old new : Owner DisplayTotals) (picture : Option Pictured) : Type 0 where
  pub displays : Displays old new event.Draw
  pub shows : ShowsDrawn (record { plan = displays.plan; world = world displays.plan displays.before }) displays.made.reply picture
  pub free : old.totals.in_flight ≡ false → displays.made.reply ≢ reply.Busy

-- the call drew a frame, whose token belongs to this desk; or it made an entry without drawing; or
-- it made no entry
abbrev pub IsDrawing : {M S P T : Type 0} → (P → Pictured) → Owner DisplayTotals → Owner DisplayTotals → Drawing M S P T → Type 0
IsDrawing pictured old new (Drawn hold picture) = (hold ≡ old.desk) × Draws old new (Some (pictured picture))
IsDrawing pictured old new (Other note) = (d : Draws old new None) × (note ≡ noted_plainly d.displays.before)
IsDrawing pictured old new (Stopped why) = MakesNone old new

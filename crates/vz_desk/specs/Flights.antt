-- Whether a frame is in flight after a history.
use Rattle.std.specs.Prelude.{Bool, false, ◌||◌, List, [], ◌∷◌}
use Rattle.vz_rules.specs.declared.entry.Event.{Event}
use Rattle.vz_rules.specs.declared.entry.Event.TheVariants as event
use Rattle.vz_rules.specs.declared.entry.Reply.{Reply}
use Rattle.vz_rules.specs.declared.entry.Entry.{Entry}
use Rattle.vz_rules.specs.Course.{is_drawn}

-- whether a frame is in flight after an event with this reply, by whether one was in flight before
-- it
abbrev pub flies_by : Bool → Event → Reply → Bool
flies_by flies (event.Client c) r = flies
flies_by flies event.Begin r = flies
flies_by flies event.Draw r = is_drawn r || flies
flies_by flies event.Done r = false
flies_by flies event.Over r = flies

-- whether a frame is in flight after these entries, by whether one was in flight before them
abbrev pub flies_behind : Bool → List Entry → Bool
flies_behind flies [] = flies
flies_behind flies (e ∷ es) = flies_behind (flies_by flies e.event e.reply) es

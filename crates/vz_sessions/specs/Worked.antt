-- A worked case: a client that has sent nothing is asked for a message.
use Rattle.std.specs.Prelude.{pos, List, [], ◌∷◌}
use Rattle.vz_rules.specs.Plan.{Plan}
use Rattle.vz_rules.specs.declared.entry.Event.TheVariants as event
use Rattle.vz_rules.specs.declared.entry.Refusal.TheVariants.{NoMessage}
use Rattle.vz_rules.specs.declared.entry.Reply.TheVariants as reply
use Rattle.vz_rules.specs.declared.entry.Entry.{Entry}
use Rattle.vz_rules.specs.Kept.{no_effects}

-- a display of four pixels by two, and one client that has sent nothing
abbrev pub silent_plan : Plan
silent_plan =
    record {
      files = record { format = 1; sink = record { client_id = 1; sink_id = 1 }; messages = [] } ∷ [];
      size = record { w = pos 4; h = pos 2 };
    }

-- the client is told that all its messages were taken
abbrev pub told_too_early : List Entry
told_too_early = record { event = event.Client 1; reply = reply.Refused NoMessage; effects = no_effects } ∷ []

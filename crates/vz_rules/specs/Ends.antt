-- What Done changes, as long as nothing becomes active and no surface is destroyed.
use Rattle.std.specs.Prelude.{None, List, []}
use Rattle.vz_ids.specs.declared.Sub.{Sub}
use Rattle.vz_rules.specs.declared.entry.Reply.TheVariants as reply
use Rattle.vz_rules.specs.World.{World}
use Rattle.vz_rules.specs.Returns.{give_back, returned_in, feed, fed_in}
use Rattle.vz_rules.specs.Step.{Outcome}

-- the world without a frame in flight
abbrev pub landed : World → World
landed w = record w { in_flight = None }

-- the submissions of the drawn frame are presented: resources that nothing holds any more go back,
-- and feedback is given
abbrev pub presenting : List Sub → World → Outcome
presenting drawn w =
    record {
      reply = reply.Shown;
      effects = record { activated = []; destroyed = []; returned = returned_in w; fed = fed_in drawn w };
      world = feed drawn (give_back w);
    }

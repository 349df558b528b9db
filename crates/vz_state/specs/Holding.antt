-- Which submissions hold resources, and which feedback is due, by the parts of a world that
-- determine it.
use Rattle.std.specs.Prelude.{◌&&◌, ◌||◌, not, true, false, Option, None, Some, is_none, List, [], if◌then◌else◌}
use Rattle.vz_ids.specs.declared.Sub.{Sub}
use Rattle.vz_rules.specs.World.{World, Submission, Surface, has_sub, is_in_flight, is_ended, sub_of}
use Rattle.vz_rules.specs.declared.entry.Fed.{Fed}

-- a world with these submissions and surfaces, and these submissions in flight
abbrev pub holding : List Submission → List Surface → Option (List Sub) → World
holding submissions surfaces in_flight =
    record {
      clients = [];
      surfaces = surfaces;
      subs = submissions;
      tick = 0;
      root = None;
      relations = [];
      in_flight = in_flight;
      last = None;
      over = false;
    }

-- the feedback that a submission gets now
abbrev pub feedback_by : Option (List Sub) → List Sub → Submission → Option Fed
feedback_by in_flight presented s =
    if s.fed then None
    else (if has_sub presented (sub_of s) then Some (record { sub = sub_of s; presented = true })
    else (if is_ended s && not (is_in_flight in_flight (sub_of s)) then Some (record { sub = sub_of s; presented = false })
    else None))

-- a submission that gets feedback now is marked as having had it
abbrev pub fed_by : Option (List Sub) → List Sub → Submission → Submission
fed_by in_flight presented s = record s { fed = s.fed || not (is_none (feedback_by in_flight presented s)) }

-- Schedules: one byte for each event, and what is wrong with other bytes.
use Rattle.std.specs.Prelude.{ℕ, nat_abs, Bool, not, ◌&&◌, ◌||◌, ◌==◌, Option, Some, None, List, [], ◌∷◌, ◌++◌, length, count_by, if◌then◌else◌}
use Rattle.std.specs.List.{filter_map}
use Rattle.std.specs.Option.{option_map}
use Rattle.vz_base.specs.declared.limits.TheConstants.{MOST_EVENTS, MOST_FILES}
use Rattle.vz_geom.specs.declared.Size.{Size}
use Rattle.vz_rules.specs.Plan.{Plan}
use Rattle.vz_frame.specs.Fits.{within}
use Rattle.vz_rules.specs.Command.{frames_fit}
use Rattle.vz_rules.specs.declared.entry.Event.{Event}
use Rattle.vz_rules.specs.declared.entry.Event.TheVariants as event
use Rattle.vz_codec.specs.declared.fault.FileRule.{FileRule}
use Rattle.vz_codec.specs.declared.fault.FileRule.TheVariants as fault
use Rattle.viz_run.specs.declared.refused.Reason.TheVariants.{Rule}
use Rattle.viz_run.specs.declared.refused.Refused.{Refused}
use Rattle.viz_run.specs.Refusals.{Flaw, unless_long, refused_at}

-- the event of a byte: 1 to 16 for a client, and then those of the display
unfoldable pub event_of : ℕ → Option Event
event_of byte =
    if within 1 MOST_FILES byte then Some (event.Client byte)
    else (if byte == 0x11 then Some event.Begin
    else (if byte == 0x12 then Some event.Draw
    else (if byte == 0x13 then Some event.Done
    else (if byte == 0x14 then Some event.Over
    else None))))

-- the events of a schedule
abbrev pub events_of : List ℕ → List Event
events_of bytes = filter_map event_of bytes

-- a byte is an event, if there are so many clients
abbrev pub is_event : ℕ → ℕ → Bool
is_event clients byte = within 1 clients byte || within 0x11 0x14 byte

-- a byte is a Draw
abbrev pub is_draw : ℕ → Bool
is_draw byte = byte == 0x12

-- the rule that a byte breaks: it is no event for so many clients, or it is the Draw with this
-- number and one too many
abbrev pub rule_broken : ℕ → Size → ℕ → ℕ → Option FileRule
rule_broken clients size draws byte =
    if not (is_event clients byte) then Some fault.Tag
    else (if is_draw byte && not (frames_fit (nat_abs size.w) (nat_abs size.h) draws) then Some fault.Limit
    else None)

-- the number of Draws among bytes
abbrev pub draws_in : List ℕ → ℕ
draws_in bytes = count_by is_draw bytes

-- the first of some bytes that breaks a rule, after others that break none
unfoldable pub flaw_behind : Plan → List ℕ → List ℕ → Option Flaw
flaw_behind p before [] = None
flaw_behind p before (byte ∷ bytes) =
    elim (rule_broken (length p.files) p.size (draws_in (before ++ byte ∷ [])) byte) [
      | Some rule ↦ Some (record { at = length before; reason = Rule rule })
      | None ↦ flaw_behind p (before ++ byte ∷ []) bytes
    ]

-- where and why a schedule is refused, if it is
abbrev pub schedule_refused : Plan → List ℕ → Option Refused
schedule_refused p bytes = option_map (refused_at 0) (unless_long MOST_EVENTS bytes (flaw_behind p [] bytes))

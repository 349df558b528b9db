-- A reply in short.
use Rattle.std.specs.Prelude.{ℕ, List, length, nat_lt, if◌then◌else◌}
use Rattle.vz_base.specs.declared.limits.TheConstants.{GREATEST_NUMBER}
use Rattle.vz_rules.specs.declared.entry.Returned.{Returned}
use Rattle.vz_rules.specs.declared.entry.Reply.{Reply}
use Rattle.vz_rules.specs.declared.entry.Reply.TheVariants as reply
use Rattle.vz_turn.specs.declared.brief.Brief.{Brief}
use Rattle.vz_turn.specs.declared.brief.Brief.TheVariants as brief
use Rattle.vz_turn.specs.declared.brief.ClientBrief.TheVariants as client
use Rattle.vz_turn.specs.declared.brief.DisplayBrief.TheVariants as display

-- how many returns there are, up to the greatest number
abbrev pub short_count : List Returned → ℕ
short_count returns = if nat_lt (length returns) GREATEST_NUMBER then length returns else GREATEST_NUMBER

-- the reply with the number of returns in place of their list
abbrev pub brief_in : Reply → Brief
brief_in reply.Stored = brief.Client client.Stored
brief_in (reply.Accepted ordinal index) = brief.Client (client.Accepted ordinal index)
brief_in reply.Noted = brief.Client client.Noted
brief_in (reply.Reclaimed returns) = brief.Client (client.Reclaimed (short_count returns))
brief_in reply.Rooted = brief.Client client.Rooted
brief_in reply.Joined = brief.Client client.Joined
brief_in (reply.Began tick) = brief.Client (client.Began tick)
brief_in reply.Over = brief.Client client.Over
brief_in reply.Left = brief.Client client.Left
brief_in (reply.Refused refusal) = brief.Client (client.Refused refusal)
brief_in (reply.Ticked tick) = brief.Display (display.Ticked tick)
brief_in (reply.Drawn damage) = brief.Display (display.Drawn damage)
brief_in reply.Unchanged = brief.Display display.Unchanged
brief_in reply.NoRoot = brief.Display display.NoRoot
brief_in reply.TooMuch = brief.Display display.TooMuch
brief_in reply.Busy = brief.Display display.Busy
brief_in reply.Shown = brief.Display display.Shown
brief_in reply.Nothing = brief.Display display.Nothing
brief_in reply.Ended = brief.Display display.Ended

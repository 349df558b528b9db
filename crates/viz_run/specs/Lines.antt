-- The lines that are printed.
use Rattle.std.specs.Prelude.{ℕ, pos, nat_abs, Some, None, codes, List, [], ◌++◌, length, count_by, sum_by}
use Rattle.vz_base.specs.declared.limits.TheConstants.{DEFAULT_BUFFERS}
use Rattle.vz_codec.specs.declared.fault.FileRule.TheVariants as rule
use Rattle.vz_check.specs.declared.verdict.What.{What}
use Rattle.vz_check.specs.declared.verdict.What.TheVariants as what
use Rattle.vz_check.specs.declared.verdict.Verdict.{Verdict}
use Rattle.vz_check.specs.declared.verdict.Verdict.TheVariants as verdict
use Rattle.viz_run.specs.declared.refused.Reason.{Reason}
use Rattle.viz_run.specs.declared.refused.Reason.TheVariants as reason
use Rattle.viz_run.specs.declared.refused.Refused.{Refused}
use Rattle.vz_rules.specs.Command.{Command, Run, Step, Gen, Demo, Hit, Turns}
use Rattle.vz_rules.specs.declared.entry.Entry.{Entry}
use Rattle.vz_rules.specs.Course.{is_drawn}
use Rattle.vz_rules.specs.Frames.{painted}
use Rattle.vz_rules.specs.Hit.{Target}
use Rattle.vz_rules.specs.Log.{then_number}
use Rattle.vz_rules.specs.Plan.{Plan}
use Rattle.vz_rules.specs.Whole.{hit_last}
use Rattle.vz_display.specs.Displayed.{upto_most}

-- the number of drawn entries
abbrev pub drawn_count : List Entry → ℕ
drawn_count h = count_by (λ e. is_drawn e.reply) h

-- the number of returns that were queued
abbrev pub return_count : List Entry → ℕ
return_count h = sum_by (λ e. length e.effects.returned) h

-- so many entries and so many frames
unfoldable pub done_text : ℕ → ℕ → List ℕ
done_text entries frames =
    codes "done" ++ then_number entries ++ codes " entries" ++ then_number frames ++ codes " frames\n"

-- so many entries, frames, returns and painted points
unfoldable pub demo_text : ℕ → ℕ → ℕ → ℕ → List ℕ
demo_text entries frames returns painted =
    codes "entries" ++ then_number entries ++ codes " frames" ++ then_number frames
    ++ codes " returns" ++ then_number returns ++ codes " painted" ++ then_number painted ++ codes "\n"

-- what is hit: the client and the sink of the surface, its parent and child number and its token,
-- and the point from its top left corner
unfoldable pub hit_text : Target → List ℕ
hit_text None = codes "hit none\n"
hit_text (Some (id, local)) =
    codes "hit" ++ then_number id.sink.client_id ++ then_number id.sink.sink_id ++ then_number id.local.parent
    ++ then_number id.local.child ++ then_number id.local.token.0 ++ then_number (nat_abs local.x)
    ++ then_number (nat_abs local.y) ++ codes "\n"

-- the line that says that the files by rule are written
unfoldable pub made_line : List ℕ
made_line = codes "made 3 files\n"

-- the line for words of no command
unfoldable pub words_line : List ℕ
words_line = codes "words refused\n"

-- the name of what is wrong with an input
unfoldable pub reason_text : Reason → List ℕ
reason_text (reason.Rule rule.Magic) = codes "Magic"
reason_text (reason.Rule rule.Version) = codes "Version"
reason_text (reason.Rule rule.Short) = codes "Short"
reason_text (reason.Rule rule.Tag) = codes "Tag"
reason_text (reason.Rule rule.Limit) = codes "Limit"
reason_text (reason.Rule rule.Colour) = codes "Colour"
reason_text (reason.Rule rule.Trailing) = codes "Trailing"
reason_text reason.SinkTaken = codes "SinkTaken"
reason_text reason.Long = codes "Long"

-- the line for a refused input
unfoldable pub refused_line : Refused → List ℕ
refused_line r =
    codes "file" ++ then_number r.file ++ codes " refused at" ++ then_number r.at ++ codes ": " ++ reason_text r.reason ++ codes "\n"

-- the name of what is wrong at an entry of a log
unfoldable pub what_text : What → List ℕ
what_text what.LogText = codes "LogText"
what_text what.Reply = codes "Reply"
what_text what.Frame = codes "Frame"
what_text what.Rest = codes "Rest"
what_text what.Length = codes "Length"

-- the line for a verdict on a log and its frames
unfoldable pub verdict_line : Verdict → List ℕ
verdict_line verdict.Yes = codes "yes\n"
verdict_line (verdict.No entry what) = codes "no" ++ then_number entry ++ codes " " ++ what_text what ++ codes "\n"

-- the status for a verdict
abbrev pub verdict_status : Verdict → ℕ
verdict_status verdict.Yes = 0
verdict_status (verdict.No entry what) = 1

-- the line of a command that ends with this history of a plan
abbrev pub end_line : Command → Plan → List Entry → List ℕ
end_line (Run paced buffers pipe w h ticks frames log files) p history = done_text (length history) (drawn_count history)
end_line (Step w h schedule frames log files) p history = done_text (length history) (drawn_count history)
end_line (Gen n first second third) p history = made_line
end_line (Demo n) p history =
    demo_text (length history) (drawn_count history) (upto_most (return_count history))
    (upto_most (painted p history DEFAULT_BUFFERS))
end_line (Hit w h schedule x y files) p history = hit_text (hit_last p history (record { x = pos x; y = pos y }))
end_line (Turns w h ticks files) p history = done_text (length history) (drawn_count history)
end_line _ p history = []

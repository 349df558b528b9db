-- What the display's calls mean for its end.
use Rattle.std.specs.Prelude.{◌≡◌, ◌+◌, List, if◌then◌else◌}
use Rattle.vz_rules.specs.Plan.{Plan}
use Rattle.vz_rules.specs.declared.entry.Event.{Event}
use Rattle.vz_rules.specs.declared.entry.Event.TheVariants as event
use Rattle.vz_rules.specs.declared.entry.Reply.TheVariants as reply
use Rattle.vz_rules.specs.declared.entry.Entry.{Entry}
use Rattle.vz_rules.specs.Course.{is_begin, is_draw}
use Rattle.vz_desk.specs.declared.answer.Answer.{Answer}
use Rattle.vz_desk.specs.declared.answer.Answer.TheVariants.{Did, Stopped}
use Rattle.vz_desk.specs.Flights.{flies_by}
use Rattle.vz_desk.specs.Totals.{DisplayTotals, AreDisplayTotals, draws_frame, is_done, noted_plainly}
use Rattle.vz_desk.specs.Owners.{Owner, HasSeen, Makes, MakesNone}

-- what the display has seen is a legal history of its plan, and its totals are those of its
-- entries there
pub record DisplayStands (o : Owner DisplayTotals) : Type 0 where
  pub plan : Plan
  pub history : List Entry
  pub sees : HasSeen o plan history
  pub counted : AreDisplayTotals history o.totals

-- the totals after one more entry
abbrev pub with_entry : DisplayTotals → Entry → DisplayTotals
with_entry t e = record {
  begins = if is_begin e then t.begins + 1 else t.begins;
  draws = if is_draw e then t.draws + 1 else t.draws;
  drawn = if draws_frame e then t.drawn + 1 else t.drawn;
  dones = if is_done e then t.dones + 1 else t.dones;
  in_flight = flies_by t.in_flight e.event e.reply;
}

-- the display made one entry, for this event, and its totals include it
pub record Displays (old new : Owner DisplayTotals) (e : Event) : Type 0 where
  pub plan : Plan
  pub before : List Entry
  pub made : Entry
  pub makes : Makes old new e plan before made
  pub totals : new.totals ≡ with_entry old.totals made

-- the call made an entry, which the note describes, or it made none because the desk was stopped
abbrev pub AnsweredPlainly : {S : Type 0} → Event → Owner DisplayTotals → Owner DisplayTotals → Answer S → Type 0
AnsweredPlainly e old new (Did note) = (d : Displays old new e) × (note ≡ noted_plainly d.before)
AnsweredPlainly e old new (Stopped why) = MakesNone old new

-- Done made an entry, which the note describes, with no frame in flight; or it made none because
-- the desk was stopped
abbrev pub AnsweredDone : {S : Type 0} → Owner DisplayTotals → Owner DisplayTotals → Answer S → Type 0
AnsweredDone old new (Did note) = (d : Displays old new event.Done) × (note ≡ noted_plainly d.before) × (d.made.reply ≡ reply.Nothing)
AnsweredDone old new (Stopped why) = MakesNone old new

-- one entry ended the drawn frame
abbrev pub EndsFrame : Owner DisplayTotals → Owner DisplayTotals → Type 0
EndsFrame old new = (d : Displays old new event.Done) × (d.made.reply ≡ reply.Shown)

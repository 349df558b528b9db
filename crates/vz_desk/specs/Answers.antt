-- What the answers of a desk mean for the end that called.
use Rattle.std.specs.Prelude.{◌≡◌, Bool, true, false, Option, Some, None, List, [], ◌∷◌, ◌++◌, IsTrue, IsFalse}
use Rattle.vz_rules.specs.Plan.{Plan}
use Rattle.vz_rules.specs.declared.entry.Event.TheVariants as event
use Rattle.vz_rules.specs.declared.entry.Entry.{Entry}
use Rattle.vz_rules.specs.declared.entry.Reply.{Reply}
use Rattle.vz_rules.specs.declared.entry.Reply.TheVariants as reply
use Rattle.vz_rules.specs.declared.entry.Refusal.TheVariants.{NotYet}
use Rattle.vz_rules.specs.Step.{world}
use Rattle.vz_rules.specs.Course.{is_calm}
use Rattle.vz_rules.specs.Whole.{is_in_time}
use Rattle.vz_machine.specs.Stepping.{idle_at}
use Rattle.vz_desk.specs.declared.answer.Note.{Note}
use Rattle.vz_desk.specs.declared.answer.Answer.{Answer}
use Rattle.vz_desk.specs.declared.answer.Answer.TheVariants.{Did, Stopped}
use Rattle.vz_desk.specs.Books.{numbered}
use Rattle.vz_desk.specs.declared.totals.Totals.{Totals}
use Rattle.vz_desk.specs.Totals.{noted, with_note}
use Rattle.vz_desk.specs.Owners.{Owner, HasSeen, Makes, MakesNone}

-- a client's call made one entry, and the note describes it
pub record Told (old new : Owner Totals) (told : Note) : Type 0 where
  pub plan : Plan
  pub before : List Entry
  pub made : Entry
  pub makes : Makes old new (event.Client old.number) plan before made
  pub note : told ≡ noted plan before old.number made
  pub totals : new.totals ≡ with_note old.totals (is_in_time made.reply) told

-- the reply says that the client's message comes too early
abbrev pub is_early : Reply → Bool
is_early (reply.Refused NotYet) = true
is_early _ = false

-- what the answer means for a client's end: it made one entry, which the note describes, or it
-- made none
abbrev pub Answered : {S : Type 0} → Owner Totals → Owner Totals → Answer S → Type 0
Answered old new (Did note) = Told old new note
Answered old new (Stopped why) = MakesNone old new

-- if the call made an entry, the message did not come too early
abbrev pub Waited : {S : Type 0} → Owner Totals → Answer S → Type 0
Waited new (Did note) = (h : List Entry) (e : Entry) → new.seen ≡ numbered (h ++ e ∷ []) → IsFalse (is_early e.reply)
Waited new (Stopped why) = Unit {0}

-- what a client's try means for its end: it was answered, or its message would come too early and
-- no entry was made
abbrev pub Tried : {S : Type 0} → Owner Totals → Owner Totals → Option (Answer S) → Type 0
Tried old new (Some a) = Answered old new a
Tried old new None = MakesNone old new

-- a pause ended when each attached client was idle or had answered the tick, in the world after
-- what the owner has seen
pub record IsPaused {T : Type 0} (new : Owner T) : Type 0 where
  pub plan : Plan
  pub history : List Entry
  pub sees : HasSeen new plan history
  pub calm : IsTrue (is_calm plan (world plan history))

-- the answer says whether the owner's client is idle, in the world after what the owner has seen
pub record TellsIdle (new : Owner Totals) (answer : Bool) : Type 0 where
  pub plan : Plan
  pub history : List Entry
  pub sees : HasSeen new plan history
  pub idle : answer ≡ idle_at (record { plan = plan; world = world plan history }) new.number

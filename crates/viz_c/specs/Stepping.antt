-- What the events of a schedule leave, and what C is told of it.
use Rattle.std.specs.Prelude.{◌≡◌, ◌≢◌, ℕ, Bool, false, ◌&&◌, nat_le, None, Result, Ok, Err, List, map, length}
use Rattle.std.specs.String.{string_bytes}
use Rattle.vz_base.specs.declared.limits.TheConstants.{DEFAULT_BUFFERS}
use Rattle.vz_geom.specs.declared.Size.{Size}
use Rattle.vz_rules.specs.declared.entry.Entry.{Entry}
use Rattle.vz_rules.specs.declared.entry.Event.{Event}
use Rattle.vz_rules.specs.Frames.{frames_bytes, written}
use Rattle.vz_rules.specs.Log.{log_text, rest_of}
use Rattle.vz_rules.specs.Plan.{Plan}
use Rattle.vz_rules.specs.Step.{Legal}
use Rattle.viz_run.specs.Refusals.{plan_read}
use Rattle.viz_run.specs.Schedule.{events_of}
use Rattle.viz_run.specs.declared.refused.InputError.{InputError}
use Rattle.viz_c.specs.Calls.{schedule_refused_of}
use Rattle.viz_c.specs.Numbers.{IsErrorTold}
use Rattle.viz_c.specs.Rooms.{Room, IsPut}
use Rattle.viz_c.specs.declared.answer.Cause.{Cause}
use Rattle.viz_c.specs.Answers.{DONE, ROOM}
use Rattle.viz_c.specs.declared.step.Left.{Left}

-- a legal history of exactly these events
pub record IsHistory (p : Plan) (events : List Event) (h : List Entry) : Type 0 where
  pub legal : Legal p h
  pub all : map (λ (e : Entry). e.event) h ≡ events

-- the history is a legal one of exactly these events, and these are the frames that it writes on two
-- buffers, and its log
pub record AreLeft (p : Plan) (events : List Event) (frames log : List ℕ) (h : List Entry) : Type 0 where
  pub legal : Legal p h
  pub all : map (λ (e : Entry). e.event) h ≡ events
  pub drawn : frames ≡ frames_bytes (written p h DEFAULT_BUFFERS)
  pub told : log ≡ log_text h (rest_of p h)

-- so it is of some history
abbrev pub Leaves : Plan → List Event → List ℕ → List ℕ → Type 0
Leaves p events frames log = (h : List Entry) × AreLeft p events frames log h

-- none of the files and of the schedule is refused, and these are the frames and the log of the
-- schedule's events with the plan of the files
abbrev pub AreStepped : Size → List (List ℕ) → List ℕ → List ℕ → List ℕ → Type 0
AreStepped size files schedule frames log =
    (schedule_refused_of size files schedule ≡ None) × Leaves (plan_read size files) (events_of schedule) frames log

-- the same holds of some frames and some log of these lengths, and rooms of the other lengths are
-- too small for them
pub record NeedsRoom (size : Size) (files : List (List ℕ)) (schedule : List ℕ) (frames_room log_room frames_len log_len : ℕ) : Type 0 where
  pub frames : List ℕ
  pub log : List ℕ
  pub steps : AreStepped size files schedule frames log
  pub frames_count : frames_len ≡ length frames
  pub log_count : log_len ≡ length log
  pub small : nat_le frames_len frames_room && nat_le log_len log_room ≡ false

-- both rooms are as large as what is put there
abbrev pub both_fit : List ℕ → List ℕ → Room → Room → Bool
both_fit frames log r s = nat_le (length frames) (length r.before) && nat_le (length log) (length s.before)

-- the answer for frames and a log, and what is put into the rooms
pub record IsLeftTold (left : Left) (code : ℕ) (r s : Room) : Type 0 where
  pub drawn_count : r.count ≡ length left.frames.items
  pub log_count : s.count ≡ length (string_bytes left.log)
  pub done : code ≡ DONE → IsPut left.frames.items r.before r.after × IsPut (string_bytes left.log) s.before s.after
  pub room : code ≡ ROOM → both_fit left.frames.items (string_bytes left.log) r s ≡ false
  pub kept : code ≢ DONE → (r.after ≡ r.before) × (s.after ≡ s.before)
  pub one : code ≢ DONE → code ≡ ROOM

-- the answer for what the events leave, or for inputs that are not accepted
abbrev pub IsStepTold : Result Left InputError → ℕ → Room → Room → Cause → Type 0
IsStepTold (Ok left) code r s cause = IsLeftTold left code r s
IsStepTold (Err error) code r s cause = IsErrorTold error code cause × (r.after ≡ r.before) × (s.after ≡ s.before)

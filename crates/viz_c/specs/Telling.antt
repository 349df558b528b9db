-- What C is told of a session.
use Rattle.std.specs.Prelude.{◌≡◌, ◌≢◌, ◌⊎◌, ℕ, Bool, false, not, ◌&&◌, nat_le, Option, Some, None, Result, Ok, Err, List, length, is_some}
use Rattle.std.specs.List.{flat_map}
use Rattle.std.specs.Global.{Box}
use Rattle.vz_geom.specs.declared.Size.{Size}
use Rattle.vz_geom.specs.Rectangle.{Rectangle}
use Rattle.vz_machine.specs.Pictured.{colours_in}
use Rattle.vz_occlude.specs.Pictures.{Flattened, flat_picture}
use Rattle.vz_rules.specs.declared.entry.Entry.{Entry}
use Rattle.vz_rules.specs.declared.entry.Event.{Event}
use Rattle.vz_rules.specs.Frames.{pixel_bytes}
use Rattle.vz_rules.specs.Log.{entry_text}
use Rattle.vz_rules.specs.Plan.{Plan}
use Rattle.viz_run.specs.Refusals.{file_refused, plan_read}
use Rattle.viz_run.specs.Schedule.{event_of}
use Rattle.viz_run.specs.declared.refused.InputError.{InputError}
use Rattle.viz_c.specs.Calls.{is_call}
use Rattle.viz_c.specs.Numbers.{IsErrorTold}
use Rattle.viz_c.specs.Rooms.{Room, IsPut}
use Rattle.viz_c.specs.Staging.{Staged, first_stage, is_event_of, IsNext}
use Rattle.viz_c.specs.declared.answer.Cause.{Cause}
use Rattle.viz_c.specs.Answers.{DONE, MEMORY, CALL, ROOM, NOTHING}
use Rattle.viz_c.specs.declared.next.Area.{Area}
use Rattle.viz_c.specs.declared.shot.Shot.{Shot}

-- none of the files is refused, and this is the stage before the first event of their plan
abbrev pub IsOpened : Size → List (List ℕ) → Staged → Type 0
IsOpened size files s = (file_refused files ≡ None) × (s ≡ first_stage (plan_read size files))

-- a call may open a session: it is allowed, and the session is closed
abbrev pub may_open : ℕ → ℕ → List ℕ → List ℕ → Option Staged → Bool
may_open w h files lengths before = is_call w h files lengths && not (is_some before)

-- a session is open, with the stage before the first event
abbrev pub Opens : Size → List (List ℕ) → Option Staged → Type 0
Opens size files (Some s) = IsOpened size files s
Opens size files None = ⊥

-- the answer for a stage that is put into a closed session, or for files that are not accepted
abbrev pub IsOpenTold : Result (Box Staged) InputError → ℕ → Option Staged → Cause → Type 0
IsOpenTold (Ok b) code after cause = (code ≡ DONE) × (after ≡ Some b.value)
IsOpenTold (Err e) code after cause = IsErrorTold e code cause × (after ≡ None)

-- a byte is an event for a plan
abbrev pub takes : Plan → ℕ → Bool
takes p byte = elim (event_of byte) [ Some e ↦ is_event_of (length p.files) e | None ↦ false ]

-- the stage takes the event of a byte
abbrev pub IsNextBy : Staged → Option Event → Staged → Type 0
IsNextBy s (Some e) t = IsNext s e t
IsNextBy s None t = ⊥

-- the answer for a byte that is given to a stage
pub record IsGiven (s : Staged) (byte code : ℕ) (t : Staged) : Type 0 where
  pub done : code ≡ DONE → IsNextBy s (event_of byte) t
  pub kept : code ≢ DONE → t ≡ s
  pub call : code ≡ CALL → takes s.machine.plan byte ≡ false
  pub no_other : takes s.machine.plan byte ≡ false → code ≡ CALL
  pub range : (code ≡ DONE) ⊎ (code ≡ MEMORY) ⊎ (code ≡ CALL)

-- the same of a session, which may be closed
abbrev pub IsGivenTo : Option Staged → ℕ → ℕ → Option Staged → Type 0
IsGivenTo (Some s) byte code (Some t) = IsGiven s byte code t
IsGivenTo None byte code None = code ≡ CALL
IsGivenTo _ _ _ _ = ⊥

-- the answer for bytes that are put into a room
pub record IsPutTold (bytes : List ℕ) (code : ℕ) (r : Room) : Type 0 where
  pub count : r.count ≡ length bytes
  pub done : code ≡ DONE → IsPut bytes r.before r.after
  pub room : code ≡ ROOM → nat_le (length bytes) (length r.before) ≡ false
  pub kept : code ≢ DONE → r.after ≡ r.before
  pub one : (code ≡ DONE) ⊎ (code ≡ ROOM)

-- the same, or want of memory
pub record IsTextTold (bytes : List ℕ) (code : ℕ) (r : Room) : Type 0 where
  pub done : code ≡ DONE → (r.count ≡ length bytes) × IsPut bytes r.before r.after
  pub room : code ≡ ROOM → (r.count ≡ length bytes) × (nat_le (length bytes) (length r.before) ≡ false)
  pub kept : code ≢ DONE → r.after ≡ r.before
  pub range : (code ≡ DONE) ⊎ (code ≡ ROOM) ⊎ (code ≡ MEMORY)

-- the answer for the line of the last entry, if there is one
abbrev pub IsLineTold : Option Entry → ℕ → Room → Type 0
IsLineTold (Some e) code r = IsTextTold (entry_text e) code r
IsLineTold None code r = (code ≡ NOTHING) × (r.after ≡ r.before)

-- the same of a session, which may be closed
abbrev pub IsEntryTold : Option Staged → ℕ → Room → Type 0
IsEntryTold (Some s) code r = IsLineTold s.last code r
IsEntryTold None code r = (code ≡ CALL) × (r.after ≡ r.before)

-- a rectangle as C sees it
abbrev pub area_of : Rectangle → Area
area_of r = record { x = r.x; y = r.y; w = r.w; h = r.h }

-- the bytes of all pixels of a picture
abbrev pub bytes_of : Flattened → List ℕ
bytes_of p = flat_map pixel_bytes (colours_in (flat_picture p))

-- the answer for pixels that are put into a room
pub record IsShotTold (shot : Shot) (code : ℕ) (r : Room) (area : Area) : Type 0 where
  pub put : IsPutTold (flat_map pixel_bytes shot.buffer.pixels) code r
  pub changed : code ≡ DONE → area ≡ area_of shot.damage

-- the answer for the picture of the last drawing, if there is one
abbrev pub IsPictureTold : Option Flattened → ℕ → Room → Area → Type 0
IsPictureTold (Some p) code r area = IsTextTold (bytes_of p) code r × (code ≡ DONE → area ≡ area_of p.damage)
IsPictureTold None code r area = (code ≡ NOTHING) × (r.after ≡ r.before)

-- the same of a session, which may be closed
abbrev pub IsDrawingTold : Option Staged → ℕ → Room → Area → Type 0
IsDrawingTold (Some s) code r area = IsPictureTold s.picture code r area
IsDrawingTold None code r area = (code ≡ CALL) × (r.after ≡ r.before)

-- What holds once all threads of a run have ended.
use Rattle.std.specs.Prelude.{◌≡◌, ℕ, ◌+◌, ◌≤◌, Bool, IsTrue, List, [], ◌∷◌, ◌++◌, Result, Ok, Err, OnOk, OnErr, length}
use Rattle.atomic_table.specs.Seated.{TableId}
use Rattle.vz_pixels.specs.Colour.{Colour}
use Rattle.vz_outside.specs.Told.{Call}
use Rattle.vz_outside.specs.Shelved.{Shelved, Name, KeepsOthers, Appends, AppendsFront, Behaves}
use Rattle.vz_outside.specs.declared.shelf.ShelfError.{ShelfError}
use Rattle.vz_outside.specs.declared.shelf.ShelfError.TheVariants.{Memory}
use Rattle.vz_rules.specs.Plan.{Plan, message_counts}
use Rattle.vz_rules.specs.declared.entry.Event.TheVariants as event
use Rattle.vz_rules.specs.declared.entry.Entry.{Entry}
use Rattle.vz_rules.specs.Step.{Legal}
use Rattle.vz_rules.specs.Course.{displayed, AreRounds, IsPaced}
use Rattle.vz_display.specs.Displayed.{display_at}
use Rattle.vz_rules.specs.Frames.{written, frames_bytes}
use Rattle.vz_player.specs.Gated.{AreGated}
use Rattle.vz_desk.specs.declared.totals.Totals.{Totals}
use Rattle.vz_desk.specs.Totals.{DisplayTotals, no_display_totals}
use Rattle.vz_desk.specs.Owners.{Owner, fresh, fresh_from, IsSameOwner}
use Rattle.vz_threads.specs.Courses.{frames_of}
use Rattle.vz_threads.specs.Crews.{IsCrew, CrewWorksOn}
use Rattle.vz_threads.specs.Outlets.{Outlook, file_of}
use Rattle.vz_threads.specs.Rounds.{Setup, MayBegin, AreShown, HasBegunPlay, PlaysAll, IsCutShort}
use Rattle.vz_threads.specs.Tails.{TookAll, IsTail}
use Rattle.vz_threads.specs.Told.{HasToldAll, IsToldOf}

-- an outlet can show a run, and has shown nothing yet
pub record IsReady (k : Setup) (start : Outlook) : Type 0 where
  pub begins : MayBegin k start
  pub display : start.display ≡ display_at k.plan [] k.buffers

-- the display's rounds are over, and all messages of each client are taken; only the tail of the
-- run is missing
pub record IsUpToTail (k : Setup) (rounds : ℕ) (paced : Bool) (start now : Outlook) (h : List Entry) : Type 0 where
  pub first : List Entry
  pub over : Entry
  pub all : displayed h ≡ first ++ over ∷ []
  pub made : AreRounds rounds first
  pub is_over : over.event ≡ event.Over
  pub pace : IsTrue paced → IsPaced k.plan h rounds
  pub took : (c : ℕ) → 1 ≤ c → c ≤ length k.plan.files → TookAll k.plan h c
  pub shown : AreShown k start now h

-- a run was cut short: a front part of the frames of its history is written
pub record IsCutThere (k : Setup) (start now : Outlook) (h : List Entry) (result : Result (Unit {0}) ShelfError) : Type 0 where
  pub fixed : now.fixed ≡ start.fixed
  pub begun : AppendsFront (frames_of k.plan h k.buffers) (file_of start) start.shelf now.shelf
  pub others : KeepsOthers (file_of start) start.shelf now.shelf
  pub behaves : Behaves start.shelf now.shelf result

-- a desk was opened for a plan whose files have so many messages, and these are the ends of its
-- callers
pub record IsOpened (p : Plan) (messages : List ℕ) (id : TableId) (callers : ℕ) (ends : List (Owner Totals)) (display : Owner DisplayTotals) : Type 0 where
  pub counts : messages ≡ message_counts p
  pub callers_are : callers ≡ length messages + 1
  pub ends_are : ends ≡ fresh_from id p 1 (length messages)
  pub display_is : display ≡ fresh id p no_display_totals 0

-- the rounds of a run can be made: the clients' ends are at work, and the display's end, which is
-- of the same desk, has made no round yet
pub record CanPlay (told : Call → Type 0) (id : TableId) (messages : List ℕ) (paced : Bool) (start : Outlook) (ends : List (Owner Totals)) (d : Owner DisplayTotals) : Type 0 where
  pub crew : IsCrew told id messages ends
  pub desk : d.desk ≡ id
  pub begun : HasBegunPlay paced start d

-- from these ends and this outlet the rounds of a run led to those: all rounds were made, or an
-- error cut them short
pub record PlaysOut (told : Call → Type 0) (rounds : ℕ) (paced : Bool) (start now : Outlook) (ends ends' : List (Owner Totals)) (d d' : Owner DisplayTotals) (played : Result (Unit {0}) ShelfError) : Type 0 where
  pub works : CrewWorksOn told ends ends'
  pub same : IsSameOwner d d'
  pub gated : IsToldOf told d → HasToldAll told d'
  pub whole : OnOk played (PlaysAll paced start d now d' rounds)
  pub cut : OnErr played (IsCutShort paced start d now d' played)

-- a desk was opened with these ends, and after all threads of its run have ended these others are
-- there: the clients' ends, the display's end, the outlet, and how the rounds ended
pub record WasPlayed (told : Call → Type 0) (k : Setup) (rounds : ℕ) (paced : Bool) (start now : Outlook) (messages : List ℕ) (id : TableId) (callers : ℕ) (ends ends' : List (Owner Totals)) (d d' : Owner DisplayTotals) (played : Result (Unit {0}) ShelfError) : Type 0 where
  pub ready : IsReady k start
  pub opened : IsOpened k.plan messages id callers ends d
  pub out : PlaysOut told rounds paced start now ends ends' d d' played

-- the result after the remaining messages were taken: an error stays, and otherwise only want of
-- memory may come
abbrev pub IsRestOf : Result (Unit {0}) ShelfError → Result (Unit {0}) ShelfError → Type 0
IsRestOf (Ok x) result = OnErr result (result ≡ Err Memory)
IsRestOf (Err error) result = result ≡ Err error

-- all threads of a run have ended, and this is its history: whole except for its tail, or cut
-- short; a gate was told of each of its entries
pub record HasRun (told : Call → Type 0) (k : Setup) (rounds : ℕ) (paced : Bool) (start now : Outlook) (h : List Entry) (result : Result (Unit {0}) ShelfError) : Type 0 where
  pub legal : Legal k.plan h
  pub gated : AreGated told h
  pub whole : OnOk result (IsUpToTail k rounds paced start now h)
  pub cut : OnErr result (IsCutThere k start now h result)

-- a history followed by the tail of a run
pub record EndsWithTail (p : Plan) (h g : List Entry) : Type 0 where
  pub begins : List Entry
  pub last : List Entry
  pub all : g ≡ h ++ (begins ++ last)
  pub tail : IsTail p h begins last

-- the frames that a longer history adds are appended to a file
abbrev pub WritesMore : Plan → ℕ → Name → List Entry → List Entry → Shelved → Shelved → Type 0
WritesMore p buffers name h g before after =
    (more : List (List Colour)) × (written p g buffers ≡ written p h buffers ++ more) × Appends (frames_bytes more) name before after

-- a front part of the frames that a longer history adds is appended to a file
abbrev pub WritesMoreFront : Plan → ℕ → Name → List Entry → List Entry → Shelved → Shelved → Type 0
WritesMoreFront p buffers name h g before after =
    (more : List (List Colour)) × (written p g buffers ≡ written p h buffers ++ more) × AppendsFront (frames_bytes more) name before after

-- The display's part of a run, up to some moment.
use Rattle.std.specs.Prelude.{◌≡◌, ℕ, ◌+◌, ◌≤◌, Bool, false, IsTrue, Some, List, [], ◌∷◌, ◌++◌, Result, Ok}
use mathlib.Core.List.{IsPrefix}
use Rattle.vz_geom.specs.Display.{IsDisplaySize}
use Rattle.vz_outside.specs.Shelved.{Writing, KeepsOthers, Appends, AppendsFront, Behaves}
use Rattle.vz_outside.specs.declared.shelf.ShelfError.{ShelfError}
use Rattle.vz_rules.specs.Plan.{Plan}
use Rattle.vz_rules.specs.declared.entry.Event.TheVariants as event
use Rattle.vz_rules.specs.declared.entry.Entry.{Entry}
use Rattle.vz_rules.specs.Course.{displayed, IsShow, AreRounds, IsPaced}
use Rattle.vz_rules.specs.Frames.{painted}
use Rattle.vz_display.specs.Displayed.{display_at}
use Rattle.vz_loans.specs.Rule.{places}
use Rattle.vz_desk.specs.Books.{numbered}
use Rattle.vz_desk.specs.Owners.{Owner, HasSeen, mine_of}
use Rattle.vz_desk.specs.Totals.{DisplayTotals}
use Rattle.vz_threads.specs.Courses.{frames_of}
use Rattle.vz_threads.specs.Outlets.{Outlook, file_of}

-- what a run is set up with: its plan, and the number of buffers
pub record Setup : Type 0 where
  pub plan : Plan
  pub buffers : ℕ

-- a run may begin with an outlet in this state
pub record MayBegin (k : Setup) (start : Outlook) : Type 0 where
  pub sides : IsDisplaySize k.plan.size
  pub size : k.plan.size ≡ start.fixed.size
  pub some : 1 ≤ k.buffers
  pub opened : start.shelf.mode start.fixed.slot ≡ Some Writing

-- since the start, the drawings of a history were shown, counted and written
pub record AreShown (k : Setup) (start now : Outlook) (h : List Entry) : Type 0 where
  pub fixed : now.fixed ≡ start.fixed
  pub display : now.display ≡ display_at k.plan h k.buffers
  pub counted : now.steps ≡ start.steps + painted k.plan h k.buffers
  pub written : Appends (frames_of k.plan h k.buffers) (file_of start) start.shelf now.shelf
  pub others : KeepsOthers (file_of start) start.shelf now.shelf
  pub behaves : Behaves {T = Unit {0}} start.shelf now.shelf (Ok tt)

-- the display has seen this history, no frame is in flight, and its drawings were shown
pub record IsAt (k : Setup) (start now : Outlook) (d : Owner DisplayTotals) (h : List Entry) : Type 0 where
  pub begins : MayBegin k start
  pub display : d.number ≡ 0
  pub sees : HasSeen d k.plan h
  pub rests : d.totals.in_flight ≡ false
  pub shown : AreShown k start now h

-- an error cut the run short: the display has seen a history with all its own entries, and a front
-- part of the frames is written
pub record IsCut (k : Setup) (start now : Outlook) (d : Owner DisplayTotals) (h : List Entry) (result : Result (Unit {0}) ShelfError) : Type 0 where
  pub display : d.number ≡ 0
  pub planned : d.plan ≡ Some k.plan
  pub later : IsPrefix (numbered h) d.seen
  pub mine : mine_of d ≡ places 0 (numbered h)
  pub rests : d.totals.in_flight ≡ false
  pub fixed : now.fixed ≡ start.fixed
  pub begun : AppendsFront (frames_of k.plan h k.buffers) (file_of start) start.shelf now.shelf
  pub others : KeepsOthers (file_of start) start.shelf now.shelf
  pub behaves : Behaves start.shelf now.shelf result

-- the display continued a history to a longer one, and added these entries of its own
pub record Continues (k : Setup) (start now : Outlook) (d : Owner DisplayTotals) (h more history : List Entry) : Type 0 where
  pub at : IsAt k start now d history
  pub later : IsPrefix h history
  pub made : displayed history ≡ displayed h ++ more

-- wherever the display was, it made one Draw, with its Done if it drew
abbrev pub ShowsOnce : Outlook → Owner DisplayTotals → Outlook → Owner DisplayTotals → Type 0
ShowsOnce was old now new =
    (k : Setup) (start : Outlook) (h : List Entry) → IsAt k start was old h
    → (show : List Entry) × (history : List Entry) × IsShow show × Continues k start now new h show history

-- wherever the display was, it was cut short with this result
abbrev pub IsCutFrom : Outlook → Owner DisplayTotals → Outlook → Owner DisplayTotals → Result (Unit {0}) ShelfError → Type 0
IsCutFrom was old now new result =
    (k : Setup) (start : Outlook) (h : List Entry) → IsAt k start was old h
    → (history : List Entry) × IsCut k start now new history result

-- the display is after some history
abbrev pub IsSomewhere : Outlook → Owner DisplayTotals → Type 0
IsSomewhere now d = (k : Setup) × (start : Outlook) × (h : List Entry) × IsAt k start now d h

-- the display has made so many rounds, paced if that is asked
pub record HasPlayed (k : Setup) (paced : Bool) (start now : Outlook) (d : Owner DisplayTotals) (rounds : ℕ) : Type 0 where
  pub history : List Entry
  pub at : IsAt k start now d history
  pub made : AreRounds rounds (displayed history)
  pub pace : IsTrue paced → IsPaced k.plan history rounds

-- the display has made so many rounds, and has begun one more
pub record HasBegun (k : Setup) (paced : Bool) (start now : Outlook) (d : Owner DisplayTotals) (rounds : ℕ) : Type 0 where
  pub history : List Entry
  pub at : IsAt k start now d history
  pub first : List Entry
  pub begin : Entry
  pub all : displayed history ≡ first ++ begin ∷ []
  pub made : AreRounds rounds first
  pub is_begin : begin.event ≡ event.Begin
  pub pace : IsTrue paced → IsPaced k.plan history rounds

-- however many rounds were made before, the round that was begun is made now
abbrev pub EndsRound : Bool → Outlook → Owner DisplayTotals → Outlook → Owner DisplayTotals → Type 0
EndsRound paced was old now new =
    (k : Setup) (start : Outlook) (rounds : ℕ) → HasBegun k paced start was old rounds → HasPlayed k paced start now new (rounds + 1)

-- the display has made so many rounds, and has ended begin-frames
pub record HasEnded (k : Setup) (paced : Bool) (start now : Outlook) (d : Owner DisplayTotals) (rounds : ℕ) : Type 0 where
  pub history : List Entry
  pub at : IsAt k start now d history
  pub first : List Entry
  pub over : Entry
  pub all : displayed history ≡ first ++ over ∷ []
  pub made : AreRounds rounds first
  pub is_over : over.event ≡ event.Over
  pub pace : IsTrue paced → IsPaced k.plan history rounds

-- the display has not made a round yet
abbrev pub HasBegunPlay : Bool → Outlook → Owner DisplayTotals → Type 0
HasBegunPlay paced now d = (k : Setup) × (start : Outlook) × HasPlayed k paced start now d 0

-- however many rounds were made before, one more is made now
abbrev pub PlaysRound : Bool → Outlook → Owner DisplayTotals → Outlook → Owner DisplayTotals → Type 0
PlaysRound paced was old now new =
    (k : Setup) (start : Outlook) (rounds : ℕ) → HasPlayed k paced start was old rounds → HasPlayed k paced start now new (rounds + 1)

-- if no round was made before, so many are made now
abbrev pub PlaysRounds : Bool → Outlook → Owner DisplayTotals → Outlook → Owner DisplayTotals → ℕ → Type 0
PlaysRounds paced was old now new rounds =
    (k : Setup) (start : Outlook) → HasPlayed k paced start was old 0 → HasPlayed k paced start now new rounds

-- however many rounds were made before, paced or not, begin-frames have ended now
abbrev pub EndsRounds : Outlook → Owner DisplayTotals → Outlook → Owner DisplayTotals → Type 0
EndsRounds was old now new =
    (k : Setup) (paced : Bool) (start : Outlook) (rounds : ℕ) → HasPlayed k paced start was old rounds → HasEnded k paced start now new rounds

-- if no round was made before, so many are made now, and begin-frames have ended
abbrev pub PlaysAll : Bool → Outlook → Owner DisplayTotals → Outlook → Owner DisplayTotals → ℕ → Type 0
PlaysAll paced was old now new rounds =
    (k : Setup) (start : Outlook) → HasPlayed k paced start was old 0 → HasEnded k paced start now new rounds

-- if no round was made before, the rounds were cut short with this result
abbrev pub IsCutShort : Bool → Outlook → Owner DisplayTotals → Outlook → Owner DisplayTotals → Result (Unit {0}) ShelfError → Type 0
IsCutShort paced was old now new result =
    (k : Setup) (start : Outlook) → HasPlayed k paced start was old 0 → (history : List Entry) × IsCut k start now new history result

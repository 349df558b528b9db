-- Where pictures go: a display, a file of frames, and a counter of steps.
use Rattle.std.specs.Prelude.{◌≡◌, ℕ, ◌+◌, Option, Some, None, List}
use Rattle.vz_buffers.specs.Canvas.{Canvas}
use Rattle.std.specs.List.{flat_map}
use Rattle.vz_geom.specs.declared.Size.{Size}
use Rattle.vz_outside.specs.Shelved.{Shelved, Name, Writing, Appends, AppendsFront}
use Rattle.vz_rules.specs.Frames.{pixel_bytes}
use Rattle.vz_machine.specs.Pictured.{Pictured}
use Rattle.vz_display.specs.Displayed.{Displayed, shown, steps_for}
use Rattle.vz_player.specs.Shown.{ShowsFrame, frame_on}
use Rattle.vz_pipe.specs.Ends.{PipeId}
use Rattle.vz_threads.specs.declared.outlet.FrameOutlet.{FrameOutlet}

-- the fixed part of an outlet: the file's slot, the size of the frames, which shelf (or which
-- sender) and which counter it borrows, and through which pipe the frames go, if there is one
pub record Fixed : Type 0 where
  pub slot : ℕ
  pub size : Size
  pub shelf : ℕ
  pub steps : ℕ
  pub pipe : Option (PipeId Canvas)

-- the state of an outlet: its fixed part, the display, the file's shelf, and the steps so far
pub record Outlook : Type 0 where
  pub fixed : Fixed
  pub display : Displayed
  pub shelf : Shelved
  pub steps : ℕ

-- the name of the file
abbrev pub file_of : Outlook → Name
file_of s = s.shelf.name s.fixed.slot

-- the bytes of the frame that a display shows
abbrev pub frame_bytes : Displayed → List ℕ
frame_bytes d = flat_map pixel_bytes (frame_on d)

-- an outlet can show a picture: the picture has the display's size, the display then shows a frame
-- of the file's size, and the file is open
pub record MayShow (s : Outlook) (x : Pictured) : Type 0 where
  pub same : x.size ≡ s.display.turns.size
  pub shows : ShowsFrame (shown s.display x)
  pub size : (shown s.display x).turns.size ≡ s.fixed.size
  pub opened : s.shelf.mode s.fixed.slot ≡ Some Writing

-- the outlet shows a picture: its points are counted, and the frame is written
pub record Shows (x : Pictured) (old new : Outlook) : Type 0 where
  pub display : new.display ≡ shown old.display x
  pub counted : new.steps ≡ old.steps + steps_for old.display x.changed
  pub written : Appends (frame_bytes new.display) (file_of old) old.shelf new.shelf

-- a front part of the picture's frame is written, possibly nothing of it
abbrev pub BeginsFrame : Pictured → Outlook → Outlook → Type 0
BeginsFrame x old new = AppendsFront (frame_bytes (shown old.display x)) (file_of old) old.shelf new.shelf

-- the state of a display, of the file of a shelf to which its frames are written, and of a counter
abbrev pub outlook : ℕ → Size → Displayed → Shelved → ℕ → Outlook
outlook slot size display shelf steps =
    record {
      fixed = record { slot = slot; size = size; shelf = 0; steps = 0; pipe = None };
      display = display;
      shelf = shelf;
      steps = steps;
    }

-- the state of such an outlet, with the shelf and the counter that it borrows
abbrev pub framed : {F L : Type 0} → (F → Shelved) → FrameOutlet F L → Outlook
framed shelved o =
    record {
      fixed = record { slot = o.file.slot; size = o.file.size; shelf = o.shelf.ghost_name; steps = o.steps.ghost_name; pipe = None };
      display = o.display.shown;
      shelf = shelved o.shelf.now;
      steps = o.steps.now;
    }

-- Frames that go through a pipe, and the file that they make.
use Rattle.std.specs.Prelude.{◌≡◌, ℕ, true, Option, Some, None, Result, Ok, Err, OnOk, OnErr, List, [], ◌∷◌, ◌++◌}
use mathlib.Core.List.{IsPrefix}
use Rattle.std.specs.List.{flat_map}
use Rattle.vz_pixels.specs.Colour.{colour_bytes}
use Rattle.vz_buffers.specs.Canvas.{Canvas}
use Rattle.vz_outside.specs.Shelved.{Shelved, Name, Writing, KeepsOthers, Appends, AppendsFront, Behaves}
use Rattle.vz_outside.specs.declared.shelf.ShelfError.{ShelfError}

-- the bytes of a frame, four for each pixel of its buffer
abbrev pub canvas_bytes : Canvas → List ℕ
canvas_bytes frame = flat_map colour_bytes frame.pixels

-- the bytes of frames, one frame after the other
abbrev pub bytes_of : List Canvas → List ℕ
bytes_of frames = flat_map canvas_bytes frames

-- only the empty name has bytes
abbrev pub only : List ℕ → Name → Option (List ℕ)
only bytes [] = Some bytes
only bytes (byte ∷ name) = None

-- a shelf that never fails, whose one file has these bytes: what a display makes that sends its
-- frames to another thread
abbrev pub paper : List ℕ → Shelved
paper bytes =
    record {
      mode = λ slot. Some Writing;
      is_known = true;
      name = λ slot. [];
      bytes = only bytes;
      rest = λ slot. [];
      faults = 0;
      is_faultless = true;
    }

-- bytes are appended to the file of a slot, or after an error a front part of them
pub record Wrote (bytes : List ℕ) (slot : ℕ) (old new : Shelved) (result : Result (Unit {0}) ShelfError) : Type 0 where
  pub written : OnOk result (Appends bytes (old.name slot) old new)
  pub begun : OnErr result (AppendsFront bytes (old.name slot) old new)
  pub others : KeepsOthers (old.name slot) old new
  pub behaves : Behaves old new result

-- of the frames that were sent those that were not taken are appended to a file
abbrev pub WritesLeft : List Canvas → List Canvas → Name → Shelved → Shelved → Type 0
WritesLeft taken sent name old new =
    (more : List Canvas) × (sent ≡ taken ++ more) × Appends (bytes_of more) name old new

-- of the frames that were sent a front part of those that were not taken is appended to a file
abbrev pub BeginsLeft : List Canvas → List Canvas → Name → Shelved → Shelved → Type 0
BeginsLeft taken sent name old new =
    (more : List Canvas) × (sent ≡ taken ++ more) × AppendsFront (bytes_of more) name old new

-- after the writer and the display have ended: if one of them failed, its error is the result, the
-- writer's first, and nothing more is written; otherwise the frames that were not taken are
abbrev pub IsWrittenOn :
    Result (Unit {0}) ShelfError → Result (Unit {0}) ShelfError → Result (Unit {0}) ShelfError →
    List Canvas → List Canvas → ℕ → Shelved → Shelved → Type 0
IsWrittenOn (Err e) played result taken sent slot old new = IsPrefix taken sent × (result ≡ Err e) × (new ≡ old)
IsWrittenOn (Ok x) (Err e) result taken sent slot old new = IsPrefix taken sent × (result ≡ Err e) × (new ≡ old)
IsWrittenOn (Ok x) (Ok y) result taken sent slot old new =
    OnOk result (WritesLeft taken sent (old.name slot) old new)
    × OnErr result (BeginsLeft taken sent (old.name slot) old new)
    × KeepsOthers (old.name slot) old new
    × Behaves old new result

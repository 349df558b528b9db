-- What a run with a thread for each client gives.
use Rattle.std.specs.Prelude.{ℕ, Bool, IsTrue, List}
use Rattle.vz_rules.specs.Plan.{Plan}
use Rattle.vz_rules.specs.declared.entry.Entry.{Entry}
use Rattle.vz_rules.specs.Step.{world, Legal}
use Rattle.vz_rules.specs.Course.{IsDisplayPart, IsPaced}
use Rattle.vz_rules.specs.Whole.{TakesAll, AllInTime}
use Rattle.vz_rules.specs.Frames.{written, frames_bytes}

-- a run's history: it is legal; the display makes so many rounds, paced if that is asked, and then
-- ends; and all messages of each client are taken, with no NotYet and no NoMessage
pub record IsRun (p : Plan) (rounds : ℕ) (paced : Bool) (h : List Entry) : Type 0 where
  pub legal : Legal p h
  pub display : IsDisplayPart p h rounds
  pub pace : IsTrue paced → IsPaced p h rounds
  pub taken : TakesAll p (world p h)
  pub in_time : AllInTime h

-- the bytes of the frames that a history writes, with so many buffers
abbrev pub frames_of : Plan → List Entry → ℕ → List ℕ
frames_of p h buffers = frames_bytes (written p h buffers)

-- The cursors that a walk makes are bounded.
use Rattle.std.proofs.Common.{◌≡◌, ℕ, ◌+◌, ◌-◌, ◌<◌, List, length, arith}
use Rattle.vz_geom.specs.{declared.Point.Point, Rectangle.IsOffset, Rectangle.minus}
use Rattle.vz_frame.specs.declared.frame.RenderPass.{RenderPass}
use Rattle.vz_rules.specs.{World.FrameData, Walk.Placement}
use Rattle.vz_placement.specs.Limits.{FitsFile, HasRoom, coordinates, room_for}
use Rattle.vz_placement.proofs.{Fitting.few_passes, Rooms.room_less, Rooms.room_minus}
use Rattle.vz_scene.specs.Walking.{IsBounded}
use Rattle.std.proofs.lemmas.Bool.Decides.{nat_tests}

-- a surface that is gone into, with one left less
pub enter_bounded : (levels : ℕ) (i : FrameData) (passes : List RenderPass) (place : Placement) → passes ≡ i.frame.passes → FitsFile i.frame → 0 < levels → 0 < length passes → HasRoom (room_for levels 0) place.shift
    → IsBounded (levels - 1) i (length passes - 1) place
enter_bounded levels i passes place e fits some_levels some_passes h = grind (arith, nat_tests, few_passes i.frame fits, room_less (room_for levels 0))

-- a pass before that of a cursor
pub group_bounded : (levels : ℕ) (i : FrameData) (passes : List RenderPass) (k pass : ℕ) (place : Placement) (first : Point) → passes ≡ i.frame.passes → k < pass → pass < length i.frame.passes → IsOffset first
    → HasRoom (room_for levels pass + coordinates 1) place.shift → IsBounded levels i k (record place { shift = minus place.shift first })
group_bounded levels i passes k pass place first e before within is h = grind (arith, nat_tests, room_minus)

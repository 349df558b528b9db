-- What remains of a walk.
use Rattle.std.specs.Prelude.{◌≡◌, ℕ, ◌+◌, ◌<◌, true, false, MatchOption, Option, Some, None, List, [], take, drop, reverse, length, slice_get}
use Rattle.std.specs.List.{flat_map}
use Rattle.vz_geom.specs.Rectangle.{minus, corner}
use Rattle.vz_ids.specs.declared.SurfaceId.{SurfaceId}
use Rattle.vz_frame.specs.declared.frame.RenderPass.{RenderPass}
use Rattle.vz_frame.specs.declared.frame.DrawQuad.{DrawQuad}
use Rattle.vz_rules.specs.World.{FrameData}
use Rattle.vz_placement.specs.Limits.{HasRoom, room_for}
use Rattle.vz_rules.specs.Walk.{Placement, Visit, WalkRange, WalkNamed, quad_walked, pass_walked, groups_walked, range_walked, walk, too_much}

-- the quads of a pass that remain to be walked: the pass at a place of a submitted frame, from one
-- of its quads on, with the surfaces of a path above it and how many more the path may have
pub record Cursor : Type 0 where
  pub levels : ℕ
  pub path : List SurfaceId
  pub submitted : FrameData
  pub pass : ℕ
  pub quad : ℕ
  pub place : Placement

-- the frame has the pass, and the place may still be moved by this pass, those before it, and all
-- surfaces that the path may still have
pub record IsBounded (levels : ℕ) (submitted : FrameData) (pass : ℕ) (place : Placement) : Type 0 where
  pub there : pass < length submitted.frame.passes
  pub room : HasRoom (room_for levels (pass + 1)) place.shift

-- the visits at a range, with the path of a cursor above it
abbrev pub ranges_of : List FrameData → Cursor → WalkRange
ranges_of active it = range_walked (walk it.levels active) active it.path

-- the visits in the passes before that of a cursor, by their ids
abbrev pub named_of : List FrameData → Cursor → WalkNamed
named_of active it = groups_walked (ranges_of active it) (reverse (take it.pass it.submitted.frame.passes))

-- the visits at a quad of a pass at a cursor
abbrev pub walked_at : List FrameData → Cursor → RenderPass → DrawQuad → List Visit
walked_at active it pass quad = quad_walked (named_of active it) (ranges_of active it) pass it.place quad

-- the visits in the quads of a pass from one on, with these earlier passes to draw
abbrev pub quads_from : WalkRange → List RenderPass → ℕ → Placement → ℕ → Option RenderPass → List Visit
quads_from ranges passes k place n None = []
quads_from ranges passes k place n (Some pass) = flat_map (quad_walked (groups_walked ranges (reverse (take k passes))) ranges pass place) (drop n pass.quads)

-- the visits in the quads of a cursor
unfoldable pub cursor_walked : List FrameData → Cursor → List Visit
cursor_walked active it =
    quads_from (ranges_of active it) it.submitted.frame.passes it.pass it.place it.quad (slice_get it.submitted.frame.passes it.pass)

-- the visits in a stack of cursors, whose last one comes first
unfoldable pub stack_walked : List FrameData → List Cursor → List Visit
stack_walked active cursors = flat_map (cursor_walked active) (reverse cursors)

-- the visits in the quads of a cursor, if there is one
abbrev pub maybe_walked : List FrameData → Option Cursor → List Visit
maybe_walked active None = []
maybe_walked active (Some it) = cursor_walked active it

-- the cursor at the next quad
abbrev pub next_cursor : Cursor → Cursor
next_cursor it = record it { quad = it.quad + 1 }

-- the visits in a pass that is drawn as a group at a place
abbrev pub group_of : WalkRange → List RenderPass → ℕ → Placement → Option RenderPass → List Visit
group_of ranges passes k place None = []
group_of ranges passes k place (Some pass) =
    pass_walked (groups_walked ranges (reverse (take k passes))) ranges pass (record place { shift = minus place.shift (corner pass.output) })

-- the visits in the pass at a place of the frame, if there is one
abbrev pub group_at : WalkRange → List RenderPass → Placement → Option ℕ → List Visit
group_at ranges passes place None = []
group_at ranges passes place (Some k) = group_of ranges passes k place (slice_get passes k)

-- the walk, or None if it is too much
abbrev pub IsWalk : List Visit → Option (List Visit) → Type 0
IsWalk all o = MatchOption o (too_much all ≡ true) (λ walked. (walked ≡ all) × (too_much all ≡ false))

-- A search in a scene for what is hit at a point.
use Rattle.std.specs.Prelude.{ℕ, Bool, true, false, Some, None, List, [], ◌∷◌, reverse}
use Rattle.vz_ids.specs.declared.SurfaceId.{SurfaceId}
use Rattle.vz_ids.specs.declared.SurfaceRange.{SurfaceRange}
use Rattle.vz_frame.specs.declared.frame.DrawQuad.{DrawQuad}
use Rattle.vz_frame.specs.declared.frame.RenderPass.{RenderPass}
use Rattle.vz_geom.specs.declared.Point.{Point}
use Rattle.vz_rules.specs.World.{FrameData}
use Rattle.vz_rules.specs.Scene.{or_else}
use Rattle.vz_rules.specs.Paint.{covers}
use Rattle.vz_rules.specs.Hit.{Target, HitNamed, HitRange, material_hit, quads_hit, group_hit, groups_hit, shown_hit, range_hit, hit}

-- a search in a frame that was entered at a point, after the surfaces of a path and with so many surfaces left
pub record Finder : Type 0 where
  pub active : List FrameData
  pub levels : ℕ
  pub path : List SurfaceId
  pub submitted : FrameData
  pub entry : Point

-- the surface itself
abbrev pub own : Finder → Target
own f = Some (f.submitted.id, f.entry)

-- what a range answers here
abbrev pub ranges : Finder → HitRange
ranges f = range_hit (own f) (hit f.levels f.active) f.active f.path

-- what these passes answer by their ids
abbrev pub passes_in : Finder → List RenderPass → HitNamed
passes_in f passes = groups_hit (own f) (ranges f) (reverse passes)

-- what a quad that covers a point answers here, over these passes
abbrev pub quad_here : Finder → List RenderPass → DrawQuad → Point → Target
quad_here f earlier quad = material_hit (own f) (passes_in f earlier) (ranges f) quad

-- what quads of a pass answer here, over these passes
abbrev pub quads_here : Finder → List RenderPass → RenderPass → List DrawQuad → Point → Target
quads_here f earlier pass quads = quads_hit (own f) (passes_in f earlier) (ranges f) pass quads

-- what a pass answers here as a group, over these
abbrev pub group_here : Finder → List RenderPass → RenderPass → Point → Target
group_here f earlier pass = group_hit (own f) (passes_in f earlier) (ranges f) pass

-- what a shown surface answers here
abbrev pub shown_here : Finder → SurfaceRange → FrameData → Point → Target
shown_here f range i = shown_hit (own f) (hit f.levels f.active) f.path range i

-- a pass of a frame that is searched at a point: its quads that are left, the passes that it may
-- draw, whether the frame was entered here, and how many surfaces may be entered inside of it
pub record SearchedPass : Type 0 where
  pub is_root : Bool
  pub levels : ℕ
  pub submitted : FrameData
  pub entry : Point
  pub earlier : List RenderPass
  pub pass : RenderPass
  pub quads : List DrawQuad
  pub point : Point

-- the same with these quads left
abbrev pub with_quads : SearchedPass → List DrawQuad → SearchedPass
with_quads s quads = record s { quads = quads }

-- a path, with a surface in front of it if that is entered
abbrev pub onward : Bool → SurfaceId → List SurfaceId → List SurfaceId
onward true id path = id ∷ path
onward false id path = path

-- the surfaces that were entered on the way into passes one inside another, the innermost first
abbrev pub path_into : List SearchedPass → List SurfaceId
path_into [] = []
path_into (s ∷ outer) = onward s.is_root s.submitted.id (path_into outer)

-- the search in a pass, after the surfaces of a path
abbrev pub finder_in : List FrameData → List SurfaceId → SearchedPass → Finder
finder_in active path s =
    record { active = active; levels = s.levels; path = onward s.is_root s.submitted.id path; submitted = s.submitted; entry = s.entry }

-- what the quads that are left of a pass answer, after the surfaces of a path
abbrev pub left_here : List FrameData → List SurfaceId → SearchedPass → Target
left_here active path s = quads_here (finder_in active path s) s.earlier s.pass s.quads s.point

-- what a quad of a pass answers, after the surfaces of a path; nothing if it does not cover the
-- point
abbrev pub quad_left : List FrameData → List SurfaceId → SearchedPass → DrawQuad → Target
quad_left active path s quad =
    elim (covers s.pass quad s.point) [ true ↦ quad_here (finder_in active path s) s.earlier quad s.point | false ↦ None ]

-- the first answer of passes one inside another, the innermost of which answers first
abbrev pub hit_first : List FrameData → List SearchedPass → Target
hit_first active [] = None
hit_first active (s ∷ outer) = or_else (left_here active (path_into outer) s) (hit_first active outer)

-- What is computed of a round before it changes anything.
use Rattle.std.specs.Prelude.{◌≡◌, ◌==◌, nat_lt, Bool, ◌&&◌, List, map}
use Rattle.std.specs.List.{list_any}
use Rattle.vz_ids.specs.declared.SurfaceId.{SurfaceId}
use Rattle.vz_ids.specs.Ids.{same_surface, at_least}
use Rattle.vz_scene.specs.Reached.{is_reached}
use Rattle.vz_rules.specs.World.{World, Submission, Surface}
use Rattle.vz_rules.specs.Settle.{number_of, is_ready, ready}
use Rattle.vz_state.specs.declared.risen.Risen.{Risen}
use Rattle.vz_state.specs.declared.risen.Signs.{Signs}

-- the submission was ever active, on this surface or a newer one of its group
abbrev pub meets : SurfaceId → Submission → Bool
meets d s = s.was_active && at_least s.submitted.id d

-- some surfaces meet exactly the dependencies that these submissions meet
abbrev pub IsMetBy : List SurfaceId → List Submission → Type 0
IsMetBy met subs = (d : SurfaceId) → is_reached met d ≡ list_any (meets d) subs

-- an activated submission is on this surface or a newer one of its group
abbrev pub rises_to : SurfaceId → Risen → Bool
rises_to d r = at_least r.id d

-- what is noted of an activated submission: its surface, its name, and the surface's number at its
-- client
abbrev pub risen_of : List Surface → Submission → Risen
risen_of surfaces s = record { id = s.submitted.id; sub = s.submitted.sub; number = number_of surfaces s }

-- an activated submission is on the surface of this submission
abbrev pub on_same : List Risen → Submission → Bool
on_same rs s = list_any (λ (r : Risen). same_surface r.id s.submitted.id) rs

-- an activated submission is on a later surface of the same client
abbrev pub on_later : List Risen → Surface → Bool
on_later rs c = list_any (λ (r : Risen). (c.client == r.sub.client) && nat_lt c.number r.number) rs

-- what becomes active in a round, and how that affects each submission and each surface
pub record AreSigns (w : World) (s : Signs) : Type 0 where
  pub risen : s.risen.items ≡ map (risen_of w.surfaces) (ready w)
  pub becomes : s.becomes.items ≡ map (is_ready w) w.subs
  pub replaced : s.replaced.items ≡ map (on_same s.risen.items) w.subs
  pub marked : s.marked.items ≡ map (on_later s.risen.items) w.surfaces

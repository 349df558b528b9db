-- What the damage part knows of a surface, compared with the accepted submissions.
use Rattle.std.specs.Prelude.{◌≡◌, Some, List, map, filter}
use Rattle.std.specs.List.{Contains}
use Rattle.vz_ids.specs.declared.SurfaceId.{SurfaceId}
use Rattle.vz_frame.specs.Frame.{root_damage}
use Rattle.vz_rules.specs.Damage.{index_in}
use Rattle.vz_rules.specs.World.{World, Scene, Submission, Aggregation, FrameData, is_on, active_frames}
use Rattle.vz_damage.specs.Told.{Told, told_on}

-- what is known of the surface of an active frame, compared with an aggregation
abbrev pub told_of : World → Aggregation → FrameData → Told
told_of w a i = record {
  damages = map (λ (s : Submission). root_damage s.submitted.frame) (filter (is_on i.id) w.subs);
  active = i.index;
  seen = index_in a i;
}

-- the damage part knows each surface with an active frame, compared with an aggregation
abbrev pub TellsActive : World → Aggregation → List (SurfaceId × Told) → Type 0
TellsActive w a told = (i : FrameData) → Contains (active_frames w.subs) i → told_on told i.id ≡ Some (told_of w a i)

-- the same, compared with the last aggregation, if there was one
abbrev pub TellsLast : World → List (SurfaceId × Told) → Type 0
TellsLast w told = (a : Aggregation) → w.last ≡ Some a → TellsActive w a told

-- what can be seen of a world from this root
abbrev pub scene_from : SurfaceId → World → Scene
scene_from root w = record { root = root; active = active_frames w.subs }

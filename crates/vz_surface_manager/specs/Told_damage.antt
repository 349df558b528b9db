-- When the damage part represents the machine's state.
use Rattle.std.specs.Prelude.{◌≡◌, ℕ, IsTrue, Option, Some, None, List, map, filter, find, count_by, if◌then◌else◌}
use Rattle.std.specs.Option.{option_map}
use Rattle.std.specs.List.{Contains}
use Rattle.vz_ids.specs.declared.SurfaceId.{SurfaceId}
use Rattle.vz_ids.specs.Ids.{same_surface}
use Rattle.vz_frame.specs.Frame.{root_damage}
use Rattle.vz_rules.specs.World.{World, Submission, FrameData, Aggregation, is_on, is_waiting, active_frames, frame_on, exists}
use Rattle.vz_damage.specs.Told.{Told, Damaged, told_on}
use Rattle.vz_damage.specs.Measured.{without_indices}

-- the index of a frame, or 0 if there is none
abbrev pub index_of : Option FrameData → ℕ
index_of None = 0
index_of (Some i) = i.index

-- the index that an aggregation remembers for a surface, or 0 if it remembers none
abbrev pub index_on : Option Aggregation → SurfaceId → ℕ
index_on None id = 0
index_on (Some a) id = elim (find (λ x. same_surface x.0 id) a.indices) [ Some x ↦ x.1 | None ↦ 0 ]

-- what the damage part must know of a surface: the damages of all submissions accepted on it, the
-- active index, and the remembered index
abbrev pub told_in : List Submission → Option Aggregation → SurfaceId → Told
told_in subs last id = record {
  damages = map (λ (s : Submission). root_damage s.submitted.frame) (filter (is_on id) subs);
  active = index_of (frame_on id (active_frames subs));
  seen = index_on last id;
}

-- a waiting submission is the last one that was accepted on its surface
abbrev pub AreLatest : List Submission → Type 0
AreLatest subs = (s : Submission) → Contains subs s → IsTrue (is_waiting s) → s.submitted.index ≡ count_by (is_on s.submitted.id) subs

-- no index is remembered for a surface on which nothing was accepted
abbrev pub AreUnseen : List Submission → Option Aggregation → Type 0
AreUnseen subs last = (id : SurfaceId) → count_by (is_on id) subs ≡ 0 → index_on last id ≡ 0

-- the damage part knows this of each surface that exists, and nothing of others, and it remembers
-- the last aggregation
pub record AreTold (w : World) (d : Damaged) : Type 0 where
  pub told : (id : SurfaceId) → told_on d.surfaces id ≡ (if exists w id then Some (told_in w.subs w.last id) else None)
  pub last : d.last ≡ option_map without_indices w.last
  pub latest : AreLatest w.subs
  pub unseen : AreUnseen w.subs w.last

use Rattle.std.proofs.Common.{◌≡◌, ◌+◌, ◌≤◌, ◌||◌, take}
use Rattle.indexmap.specs.IndexSet.{spare as spare_of}
use Rattle.vz_ids.specs.declared.SurfaceId.{SurfaceId}
use Rattle.vz_rules.specs.Reach.{has_id}
use Rattle.vz_surface_manager.proofs.index.insert_all.Given as goal

-- those so far are put in
abbrev pub invariant-loop-id : goal.invariant-loop-id
invariant-loop-id l =
    ((id : SurfaceId) → has_id l.set.keys id ≡ (has_id (take l.id-index l.ids) id || has_id l.fn.set.keys id)) ×
    (spare_of l.fn.set ≤ spare_of l.set + l.id-index)

-- The surfaces and what waits, while marked surfaces that are not reached are destroyed.
use Rattle.std.specs.Prelude.{◌≡◌, ◌≤◌, ◌<◌, ◌+◌, Option, None, List, [], length}
use Rattle.vz_base.specs.declared.limits.TheConstants.{MOST_FILES}
use Rattle.vz_ids.specs.declared.SurfaceId.{SurfaceId}
use Rattle.vz_rules.specs.World.{World}
use Rattle.vz_rules.specs.Reach.{has_id, naming, reach}
use Rattle.vz_surfaces.specs.Stored.{stored_of}
use Rattle.vz_surfaces.specs.Reading.{existing_count, marked_to}
use Rattle.vz_surface_manager.specs.declared.surface_manager.SurfaceManager.{SurfaceManager}
use Rattle.vz_surface_manager.specs.declared.lists.Lists.{Lists}
use Rattle.vz_surface_manager.specs.Settles.{AreSettling}

-- a collection begins, after naming; this is the root, and there are at most as many clients as a
-- plan may have
pub record IsToCollect (w : World) (root : Option SurfaceId) (v : SurfaceManager) : Type 0 where
  pub stands : AreSettling w None v
  pub named : naming w ≡ w
  pub is_root : root ≡ w.root
  pub few : length w.clients ≤ MOST_FILES

-- surfaces are being destroyed: these are marked and exist, and these are reached
pub record IsDestroying (w : World) (marked reached : List SurfaceId) (v : SurfaceManager) : Type 0 where
  pub stands : AreSettling w None v
  pub named : naming w ≡ w
  pub few : length w.clients ≤ MOST_FILES
  pub are_marked : marked ≡ marked_to 16 (stored_of w)
  pub are_reached : (id : SurfaceId) → has_id reached id ≡ has_id (reach w) id

-- the lists of a collection are empty, and have room for all surfaces that exist and for all that
-- may be reached
pub record HaveRoom (v : SurfaceManager) (lists : Lists) : Type 0 where
  pub none_marked : lists.marked.list ≡ []
  pub none_reached : lists.reached.list ≡ []
  pub none_found : lists.index.list ≡ []
  pub marked : existing_count v.live.store ≤ lists.marked.spare
  pub reached : length v.live.kept.sets + length v.live.kept.temporary < lists.reached.spare
  pub found : length v.live.kept.sets + length v.live.kept.temporary < lists.index.spare

-- What follows a step's own change, and the room for it.
use Rattle.std.specs.Prelude.{◌≡◌, ℕ, ◌+◌, ◌<◌, ◌≤◌, Bool, true, IsFalse, Option, Some, None, [], length}
use Rattle.std.specs.Option.{option_map}
use Rattle.vz_base.specs.declared.limits.TheConstants.{MOST_FILES, TEMPORARY_TICKS}
use Rattle.vz_ids.specs.declared.SurfaceId.{SurfaceId}
use Rattle.vz_rules.specs.declared.entry.Effects.{Effects}
use Rattle.vz_rules.specs.World.{World, Surface}
use Rattle.vz_rules.specs.Settle.{settle}
use Rattle.vz_rules.specs.Reach.{naming, lost_in}
use Rattle.vz_rules.specs.Kept.{Keeps}
use Rattle.vz_returns.specs.Lent.{resources_out}
use Rattle.vz_returns.specs.Notes.{owed_count}
use Rattle.vz_surfaces.specs.Reading.{existing_count}
use Rattle.vz_surface_manager.specs.Changes.{IsNew}
use Rattle.vz_surface_manager.specs.declared.surface_manager.SurfaceManager.{SurfaceManager}
use Rattle.vz_surface_manager.specs.Settles.{AreSettling, IsToSettle}
use Rattle.vz_surface_manager.specs.Collects.{IsToCollect}
use Rattle.vz_manager.specs.declared.outcome.Following.{Following}
use Rattle.vz_manager.specs.declared.outcome.New.{New}

-- the new surface, if there is one
abbrev pub new_id : Option New → Option SurfaceId
new_id new = option_map (λ (n : New). n.id) new

-- a new surface, if there is one, is yet to be kept in a state after naming
pub record IsKeeping (w : World) (new : Option New) (v : SurfaceManager) : Type 0 where
  pub stands : AreSettling w (new_id new) v
  pub is : (n : New) → new ≡ Some n → (c : Surface) × IsNew w c n.id × (n.until ≡ w.tick + TEMPORARY_TICKS)

-- there is room for a new surface, if there is one, among the temporary surfaces
abbrev pub CanKeep : Option New → SurfaceManager → Type 0
CanKeep new v = (n : New) → new ≡ Some n → 0 < v.live.kept.room

-- a step made its own change, and these submissions are ready; a new surface, if there is one, is
-- to be kept after all rounds. If the change marked, named and showed nothing new, no surface is
-- lost
pub record IsFollowed (w : World) (root : Option SurfaceId) (new : Option New) (anew : Bool) (v : SurfaceManager) (f : Following) : Type 0 where
  pub settles : IsToSettle w (new_id new) v f.activated.list
  pub of_root : root ≡ w.root
  pub few : length w.clients ≤ MOST_FILES
  pub is : (n : New) → new ≡ Some n → (c : Surface) × IsNew (naming (settle w)) c n.id × (n.until ≡ w.tick + TEMPORARY_TICKS)
  pub unlost : IsFalse anew → lost_in (naming w) ≡ []

-- a collection begins, after naming; the machine calls it if any surface is lost
pub record IsAsked (w : World) (root : Option SurfaceId) (asked : Bool) (v : SurfaceManager) : Type 0 where
  pub collects : IsToCollect w root v
  pub unlost : IsFalse asked → lost_in w ≡ []

-- there is room for everything that may follow
pub record CanFollow (new : Option New) (v : SurfaceManager) (f : Following) : Type 0 where
  pub keeps : CanKeep new v
  pub activated : length v.waiting.blocked ≤ f.activated.spare
  pub no_ids : f.ids.list ≡ []
  pub ids : length f.activated.list + length v.waiting.blocked ≤ f.ids.spare
  pub none_destroyed : f.destroyed.list ≡ []
  pub destroyed : existing_count v.live.store ≤ f.destroyed.spare
  pub none_returned : f.returned.list ≡ []
  pub returned : resources_out v.live.lent ≤ f.returned.spare
  pub none_fed : f.fed.list ≡ []
  pub fed : owed_count v.live.owed.owed ≤ f.fed.spare
  pub none_marked : f.lists.marked.list ≡ []
  pub marked : existing_count v.live.store ≤ f.lists.marked.spare
  pub none_reached : f.lists.reached.list ≡ []
  pub reached : length v.live.kept.sets + (length f.activated.list + length v.waiting.blocked) + length v.live.kept.temporary + 1
      < f.lists.reached.spare
  pub none_found : f.lists.index.list ≡ []
  pub found : length v.live.kept.sets + (length f.activated.list + length v.waiting.blocked) + length v.live.kept.temporary + 1
      < f.lists.index.spare
  pub effects : f.effects ≡ true

-- the lists have these effects
pub record Tells (e : Effects) (f : Following) : Type 0 where
  pub activated : e.activated ≡ f.activated.list
  pub destroyed : e.destroyed ≡ f.destroyed.list
  pub returned : e.returned ≡ f.returned.list
  pub fed : e.fed ≡ f.fed.list

-- the settling represents a state between steps
pub record IsBetween (w : World) (v : SurfaceManager) : Type 0 where
  pub keeps : Keeps w
  pub stands : AreSettling w None v

-- there is room for everything that may follow a step that accepts at most one submission, with so
-- many listings and on a new surface
pub record HasRoomAfter (listings : ℕ) (v : SurfaceManager) (f : Following) : Type 0 where
  pub none_activated : f.activated.list ≡ []
  pub activated : length v.waiting.blocked + 1 ≤ f.activated.spare
  pub no_ids : f.ids.list ≡ []
  pub ids : length v.waiting.blocked + 1 ≤ f.ids.spare
  pub none_destroyed : f.destroyed.list ≡ []
  pub destroyed : existing_count v.live.store + 1 ≤ f.destroyed.spare
  pub none_returned : f.returned.list ≡ []
  pub returned : resources_out v.live.lent + listings ≤ f.returned.spare
  pub none_fed : f.fed.list ≡ []
  pub fed : owed_count v.live.owed.owed + 1 ≤ f.fed.spare
  pub none_marked : f.lists.marked.list ≡ []
  pub marked : existing_count v.live.store + 1 ≤ f.lists.marked.spare
  pub none_reached : f.lists.reached.list ≡ []
  pub reached : length v.live.kept.sets + (length v.waiting.blocked + 1) + length v.live.kept.temporary + 2 ≤ f.lists.reached.spare
  pub none_found : f.lists.index.list ≡ []
  pub found : length v.live.kept.sets + (length v.waiting.blocked + 1) + length v.live.kept.temporary + 2 ≤ f.lists.index.spare
  pub effects : f.effects ≡ true

-- a step's own change accepts at most one submission with so many listings, and makes so many
-- ready: it leaves no more than there is room for
pub record IsWithin (listings : ℕ) (old new : SurfaceManager) (risen : ℕ) : Type 0 where
  pub waiting : length new.waiting.blocked + risen ≤ length old.waiting.blocked + 1
  pub surfaces : existing_count new.live.store ≤ existing_count old.live.store + 1
  pub out : resources_out new.live.lent ≤ resources_out old.live.lent + listings
  pub owed : owed_count new.live.owed.owed ≤ owed_count old.live.owed.owed + 1
  pub sets : length new.live.kept.sets ≤ length old.live.kept.sets
  pub temporary : length new.live.kept.temporary ≤ length old.live.kept.temporary

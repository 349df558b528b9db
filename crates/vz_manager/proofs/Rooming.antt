-- The room that was made before a step is enough for all that follows it.
use Rattle.std.proofs.Common.{◌≡◌, ℕ, ◌+◌, ◌≤◌, Option, None, List, [], length, map, filter, ap, sym, arith}
use Rattle.vz_ids.specs.declared.Sub.{Sub}
use Rattle.vz_frame.specs.Roomy.{Roomy}
use Rattle.vz_rules.specs.{World.World, World.is_waiting, World.sub_of, Settle.ready}
use Rattle.vz_returns.specs.{Notes.owed_count, Owed.Owed}
use Rattle.vz_surface_manager.specs.{Waits.Waits, declared.surface_manager.SurfaceManager.SurfaceManager, Settles.AreReady, Settles.IsToSettle}
use Rattle.vz_surface_manager.proofs.{Rounded.waiting, Rounded.none_long, Many_rounds.all_wait}
use Rattle.vz_manager.specs.{declared.outcome.Following.Following, declared.outcome.New.New}
use Rattle.vz_manager.specs.Followed.{CanKeep, CanFollow, IsBetween, HasRoomAfter, IsWithin}

-- The room for all that may follow

-- where a step's own change left no more than there is room for, there is room for all that follows it
pub can_follow : (listings risen : ℕ) (new : Option New) (old v : SurfaceManager) (f : Following) (activated : Roomy Sub)
    → HasRoomAfter listings old f → IsWithin listings old v risen → CanKeep new v
    → length activated.list ≡ risen → f.activated.spare ≤ activated.spare + risen
    → CanFollow new v (record f { activated = activated })
can_follow listings risen new old v f activated room within keeps many spare =
    record {
      keeps = keeps;
      activated = omega (arith, within.waiting, room.activated, spare);
      no_ids = room.no_ids;
      ids = omega (arith, within.waiting, room.ids, many);
      none_destroyed = room.none_destroyed;
      destroyed = omega (arith, within.surfaces, room.destroyed);
      none_returned = room.none_returned;
      returned = omega (arith, within.out, room.returned);
      none_fed = room.none_fed;
      fed = omega (arith, within.owed, room.fed);
      none_marked = room.none_marked;
      marked = omega (arith, within.surfaces, room.marked);
      none_reached = room.none_reached;
      reached = omega (arith, within.waiting, within.sets, within.temporary, room.reached, many);
      none_found = room.none_found;
      found = omega (arith, within.waiting, within.sets, within.temporary, room.found, many);
      effects = room.effects;
    }

-- How many become active

none_ready_now : (w : World) → ready w ≡ [] → AreReady w []
none_ready_now w e = sym (ap (map sub_of) e)

between_waits : (w : World) (v : SurfaceManager) → IsBetween w v → length v.waiting.blocked ≡ waiting w
between_waits w v h =
    omega (arith, all_wait w None v [] (record { stands = h.stands; ready = none_ready_now w h.keeps.none_ready }))

same_waits : (w u : World) → u.subs ≡ w.subs → waiting u ≡ waiting w
same_waits w u same = ap (λ l. length (filter is_waiting l)) same

-- those that become active wait no longer, where a change leaves the submissions
pub as_many_rise : (w u : World) (old v : SurfaceManager) (risen : List Sub) → IsBetween w old → u.subs ≡ w.subs → IsToSettle u None v risen
    → length v.waiting.blocked + length risen ≡ length old.waiting.blocked
as_many_rise w u old v risen h same to =
    omega (arith, all_wait u None v risen to, same_waits w u same, between_waits w old h)

-- none becomes active, where as many lack something as before
pub none_rises : (w u : World) (old v : SurfaceManager) → IsBetween w old → u.subs ≡ w.subs → IsToSettle u None v (map sub_of (ready u))
    → v.waiting ≡ old.waiting → AreReady u []
none_rises w u old v h same to kept =
    let risen = as_many_rise w u old v (map sub_of (ready u)) h same to in
    sym (none_long (map sub_of (ready u)) (omega (arith, risen, ap (λ (a : Waits). length a.blocked) kept)))

-- The room that is made

-- nothing is due between steps
pub owed_are_unfed : (f : Owed) → f.due ≡ [] → owed_count f ≡ length f.unfed
owed_are_unfed f none = omega (arith, ap length none)

use Rattle.std.proofs.Common.{arith, ◌∙◌}
use Rattle.vz_returns.proofs.Owed_kept.{nothing_due}
use Rattle.vz_surface_manager.proofs.Waits_on.{as_many}
use Rattle.vz_manager.proofs.Rooming.{owed_are_unfed}
use Rattle.vz_manager.proofs.room.ready_to_follow.Goals as goal

pub returns : goal.returns
returns c =
    let b = c.requires.between in
    let lack = as_many b.0 c.args.settling.now.waiting b.1.stands.waiting in
    let unfed = owed_are_unfed c.args.settling.now.live.owed.owed
    (nothing_due b.0 c.args.settling.now.live.owed.owed b.1.keeps b.1.stands.live.owed) in
    record {
      room = record {
        none_activated = c.make_room.ensures.list;
        activated = omega (arith, c.in_ok-make_room.ensures.room, c.in_ok-risen.ensures, c.count.ensures.count, lack);
        no_ids = c.make_room-2.ensures.list;
        ids = omega (arith, c.in_ok-make_room-2.ensures.room, c.in_ok-risen.ensures, c.count.ensures.count, lack);
        none_destroyed = c.make_room-3.ensures.list;
        destroyed = omega (arith, c.in_ok-make_room-3.ensures.room, c.in_ok-exist.ensures, c.surfaces.ensures);
        none_returned = c.make_room-5.ensures.list ∙ c.clear.ensures.list;
        returned = omega (arith, c.in_ok-make_room-5.ensures.ok);
        none_fed = c.make_room-4.ensures.list;
        fed = omega (arith, c.in_ok-make_room-4.ensures.room, c.in_ok-owed.ensures, c.unfed.ensures, unfed);
        none_marked = c.in_ok-ready.ensures.none_marked;
        marked = omega (arith, c.in_ok-ready.ensures.marked, c.in_ok-exist.ensures, c.surfaces.ensures);
        none_reached = c.in_ok-ready.ensures.none_reached;
        reached = omega (arith, c.in_ok-ready.ensures.reached, c.in_ok-reached.ensures, c.in_ok-risen.ensures, c.count.ensures.count, lack);
        none_found = c.in_ok-ready.ensures.none_found;
        found = omega (arith, c.in_ok-ready.ensures.found, c.in_ok-reached.ensures, c.in_ok-risen.ensures, c.count.ensures.count, lack);
        effects = c.in_ok-reserve.ensures.ok;
      };
    }

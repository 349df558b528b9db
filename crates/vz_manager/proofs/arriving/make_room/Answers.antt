use Rattle.std.proofs.Common.{refl}
use Rattle.vz_manager.proofs.Carried.{still_serve, no_more, more_room, still_between}
use Rattle.vz_manager.proofs.arriving.make_room.Goals as goal

pub ready_to_follow-requires : goal.ready_to_follow-requires
ready_to_follow-requires c =
    let x = c.requires.between in
    record { between = (x.0, still_between x.0 c.args.settling.now c.ready_to_wait.new.settling x.1 (c.ready_to_wait.ensures.stands x.0)) }

pub returns-in_err-ready_to_wait-clause-serves : goal.returns-in_err-ready_to_wait-clause-serves
returns-in_err-ready_to_wait-clause-serves c =
    still_serve c.args.settling.now c.ready_to_wait.new.settling c.args.returned.now c.args.returned.now c.ready_to_wait.ensures.stands
    c.ready_to_wait.ensures.same c.ready_to_wait.ensures.released refl
    (no_more c.args.settling.now c.args.returned.now c.args.returned.now refl)

pub returns-in_err-ready_to_land-clause-serves : goal.returns-in_err-ready_to_land-clause-serves
returns-in_err-ready_to_land-clause-serves c =
    still_serve c.args.settling.now c.ready_to_wait.new.settling c.args.returned.now c.ready_to_land.new.returned
    c.ready_to_wait.ensures.stands c.ready_to_wait.ensures.same c.ready_to_wait.ensures.released c.ready_to_land.ensures.list
    (no_more c.args.settling.now c.args.returned.now c.ready_to_land.new.returned c.in_err-ready_to_land.ensures.err)

pub returns-in_err-ready_to_follow-clause-serves : goal.returns-in_err-ready_to_follow-clause-serves
returns-in_err-ready_to_follow-clause-serves c =
    still_serve c.args.settling.now c.ready_to_wait.new.settling c.args.returned.now c.ready_to_land.new.returned
    c.ready_to_wait.ensures.stands c.ready_to_wait.ensures.same c.ready_to_wait.ensures.released c.ready_to_land.ensures.list
    (λ flies before. more_room c.args.settling.now c.ready_to_wait.new.settling c.args.coming.now.listings
    c.ready_to_land.new.returned c.ready_to_wait.ensures.same c.in_ok-ready_to_land.ensures.room flies)

pub returns-clause-room : goal.returns-clause-room
returns-clause-room c =
    record {
      live = c.in_ok-ready_to_wait.ensures.live;
      keeps = c.in_ok-ready_to_wait.ensures.keeps;
      waiting = c.in_ok-ready_to_wait.ensures.waiting;
      lands = c.in_ok-ready_to_land.ensures.room;
      follows = c.in_ok-ready_to_follow.ensures.room;
    }

pub returns-clause-serves : goal.returns-clause-serves
returns-clause-serves c =
    still_serve c.args.settling.now c.ready_to_wait.new.settling c.args.returned.now c.ready_to_land.new.returned
    c.ready_to_wait.ensures.stands c.ready_to_wait.ensures.same c.ready_to_wait.ensures.released c.ready_to_land.ensures.list
    (λ flies before. more_room c.args.settling.now c.ready_to_wait.new.settling c.args.coming.now.listings
    c.ready_to_land.new.returned c.ready_to_wait.ensures.same c.in_ok-ready_to_land.ensures.room flies)

use Rattle.vz_deadlines.proofs.Stands.{taken_none, taken_room, taken_next}
use Rattle.vz_deadlines.proofs.walk.take_each.Goals as goal

pub loop-slot-init : goal.loop-slot-init
loop-slot-init c = taken_none c.args.tick 4294967295 c.args.slots.now c.args.out.now.list c.args.out.now.spare

pub take_one-requires : goal.take_one-requires
take_one-requires c =
    let l = c.loop-slot in
    taken_room c.args.tick l.least l.slot-index c.args.out.now.spare l.out.spare c.args.slots.now l.slot-items _ c.args.out.now.list l.out.list c.loop-slot-test.true c.requires l.invariant

pub loop-slot-preserved : goal.loop-slot-preserved
loop-slot-preserved c =
    let l = c.loop-slot in
    taken_next c.args.tick l.least c.smaller-least.result l.slot-index c.args.out.now.spare l.out.spare c.take_one.new.out.spare c.args.slots.now l.slot-items _ c.take_one.new.slot c.args.out.now.list l.out.list c.take_one.new.out.list
    c.loop-slot-test.true l.invariant c.take_one.ensures.slot c.take_one.ensures.out c.take_one.ensures.room c.take_one.result c.take_one.ensures.least c.smaller-least.ensures

use Rattle.std.proofs.Common.{◌≡◌, ◌-◌, length, arith, sym, ap, ◌∙◌}
use Rattle.std.proofs.lemmas.List.{length-drop}
use Rattle.vz_outside.proofs.Fills.{read_more, written_through}
use Rattle.std.proofs.lemmas.List.{take_rest}
use Rattle.vz_outside.proofs.transfer.read_upto.Goals as goal

pub loop-filled-preserved : goal.loop-filled-preserved
loop-filled-preserved g c =
    let read = c.in_ok-taken.ensures in
    let room = c.make_room.new.bytes in
    let low = c.in_ok-make_room.ensures.more in
    let same = c.deref_mut.ensures.value in
    let long : length c.deref_mut.result.now ≡ room.len = c.deref_mut.ensures.len in
    let items : length room.items ≡ room.len = ap length (sym same) ∙ long in
    let piece : length c.read.new.into ≡ length c.deref_mut.result.now - c.loop-filled.filled =
    c.read.auto.into ∙ ap length (take_rest c.deref_mut.result.now c.loop-filled.filled) ∙ length-drop _ _ in
    read_more c.args.limit c.args.slot c.loop-filled.filled c.in_ok-taken.taken c.loop-filled.bytes.items
    room.items c.read.new.into _ _ _ _
    c.loop-filled.invariant c.make_room.ensures.kept (omega arith) (omega arith) (omega arith)
    (written_through room.len c.loop-filled.filled c.deref_mut.result.now room.items c.read.new.into
    same long (omega arith) piece)
    (omega (arith, read.count, c.read.auto.into)) read.moved read.kept read.behaves

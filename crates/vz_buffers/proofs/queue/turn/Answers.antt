use Rattle.std.proofs.Common.{◌≡◌, ◌-◌, length, ap, ◌∙◌, arith}
use Rattle.std.proofs.lemmas.List.{length-take-le}
use Rattle.vz_buffers.proofs.queue.turn.Goals as goal

pub insert-requires : goal.insert-requires
insert-requires c =
    let all = c.args.stales.now.items in
    let some = c.requires.some in
    let room = c.requires.room in
    let short : length c.pop.new.self.items ≡ length all - 1 = ap length c.pop.ensures.rest ∙ length-take-le (length all - 1) all (omega arith) in
    (omega arith, (omega arith, omega (arith, short, some, room)))

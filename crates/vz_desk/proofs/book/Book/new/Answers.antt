use Rattle.std.specs.Prelude.{None}
use Rattle.vz_desk.proofs.Booking.{new_keeps}
use Rattle.vz_desk.proofs.book.Book.new.Goals as goal

pub invariant_of-result : goal.invariant_of-result
invariant_of-result g c = new_keeps {S = g.row.S.Denot} (g.M.Machine.state c.args.machine) c.new.result.spare None c.new.result.list c.new.ensures c.requires.opening c.requires.counted c.requires.files

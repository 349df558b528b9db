use Rattle.std.proofs.Common.{rules, ◌≡◌, ◌==◌, length}
use Rattle.vz_check.proofs.Giving.{end_told}
use Rattle.vz_check.proofs.frame.is_at_end.Goals as goal

pub returns-clause-ended : goal.returns-clause-ended
returns-clause-ended g c =
    let none : c.is_empty.result ≡ (length c.in_ok-bytes.bytes.items == 0) = search rules in
    end_told c.args.slot (g.F.Shelf.shelved c.args.shelf.now) c.in_ok-bytes.bytes.items c.is_empty.result c.in_ok-bytes.ensures.front none

use Rattle.std.proofs.Common.{◌≡◌, ◌≤◌, ◌+◌, ◌++◌, map, length, vec_len, vec_capacity}
use Rattle.std.specs.Vec.Iter.{into_iter_items, into_iter_len}
use Rattle.vz_support.specs.Sent.{opened}
use Rattle.vz_support.proofs.clients.Clients.open.Given as goal

abbrev pub invariant-loop-file : goal.invariant-loop-file
invariant-loop-file l =
    (goal.iterator-loop-file).can_next l.file-iterator
    × (goal.iterator-loop-file).is_finite l.file-iterator
    × (l.list.items ++ map opened (into_iter_items l.file-iterator) ≡ map opened l.fn.files.items)
    × (into_iter_len l.file-iterator ≡ length (into_iter_items l.file-iterator))
    × (vec_len l.list + into_iter_len l.file-iterator ≤ vec_capacity l.list)

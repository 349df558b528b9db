use Rattle.std.proofs.Common.{◌≡◌, ◌-◌, length}
use Rattle.vz_codec.specs.Reading.{many_at}
use Rattle.vz_codec.proofs.Loop.{with_front}
use Rattle.vz_codec.proofs.field.read_many.Given as goal

abbrev pub invariant-loop : goal.invariant-loop
invariant-loop g l =
    let read = many_at (g.F.Field.kind l.field).reading in
    (with_front l.values.items (read (l.count - l.counter) l.ahead) ≡ read l.count l.fn.input)
    × (length l.values.items ≡ l.counter)

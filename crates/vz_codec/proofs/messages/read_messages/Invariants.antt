use Rattle.std.proofs.Common.{◌≡◌, ◌-◌}
use Rattle.vz_codec.specs.Reading.{many_at, message_at}
use Rattle.vz_codec.proofs.Loop.{with_front}
use Rattle.vz_codec.proofs.messages.read_messages.Given as goal

abbrev pub invariant-loop : goal.invariant-loop
invariant-loop l =
    let read = many_at (message_at l.format) in
    with_front l.messages.items (read (l.count - l.counter) l.ahead) ≡ read l.count l.fn.input

use Rattle.std.proofs.Common.{◌≡◌, ◌-◌}
use Rattle.vz_codec.specs.Reading.{passes_at}
use Rattle.vz_codec.proofs.Loop.{with_front}
use Rattle.vz_codec.proofs.frames.read_passes.Given as goal

abbrev pub invariant-loop : goal.invariant-loop
invariant-loop l =
    with_front l.passes.items (passes_at l.format (l.count - l.counter) l.room l.input)
    ≡ passes_at l.format l.count 1024 l.fn.input

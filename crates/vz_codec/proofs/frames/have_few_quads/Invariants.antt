use Rattle.std.proofs.Common.{◌≡◌, ◌+◌, length, take, sum_by}
use Rattle.vz_codec.proofs.frames.have_few_quads.Given as goal

-- the room is what the quads so far leave
abbrev pub invariant-loop-pass : goal.invariant-loop-pass
invariant-loop-pass l = l.room + sum_by (λ p. length p.quads) (take l.pass-index l.passes) ≡ 1024

use Rattle.std.proofs.Common.{ℕ, ◌+◌, ◌*◌, drop}
use Rattle.vz_hit.specs.Hitting.{in_window, quads_of}
use Rattle.vz_hit.proofs.Adding.{Leaves}
use Rattle.vz_hit.proofs.builder.+build.Given as goal

-- more than any frame has passes, eightfold
abbrev wide : ℕ
wide = 295147905179352825856

abbrev pub decreases-surface : goal.decreases-surface
decreases-surface l = l.levels * wide

abbrev pub decreases-Builder::shown : goal.decreases-Builder::shown
decreases-Builder::shown l = l.self.now.levels * wide + 1

abbrev pub decreases-Builder::range : goal.decreases-Builder::range
decreases-Builder::range l = l.self.now.levels * wide + 2

abbrev pub decreases-Builder::named : goal.decreases-Builder::named
decreases-Builder::named l = l.self.now.levels * wide + 8 * l.k + 7

abbrev pub decreases-Builder::material : goal.decreases-Builder::material
decreases-Builder::material l = l.self.now.levels * wide + 8 * l.k + 4

abbrev pub decreases-Builder::quad : goal.decreases-Builder::quad
decreases-Builder::quad l = l.self.now.levels * wide + 8 * l.k + 5

abbrev pub decreases-Builder::pass : goal.decreases-Builder::pass
decreases-Builder::pass l = l.self.now.levels * wide + 8 * l.k + 6

-- the quads from n on are left
abbrev pub invariant-Builder::pass-loop-n : goal.invariant-Builder::pass-loop-n
invariant-Builder::pass-loop-n l =
    Leaves l.initial.regions l.regions (in_window l.place.window (quads_of l.self l.k l.pass l.pass.quads l.place.shift))
    (in_window l.place.window (quads_of l.self l.k l.pass (drop l.n l.quads) l.place.shift))

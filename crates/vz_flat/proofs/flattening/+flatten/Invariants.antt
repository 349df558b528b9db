use Rattle.std.proofs.Common.{◌≡◌, ◌++◌, ℕ, ◌+◌, ◌*◌, ◌≤◌, length, drop}
use Rattle.vz_flat.specs.Flattening.{quads_here, earlier_of}
use Rattle.vz_flat.proofs.flattening.+flatten.Given as goal

-- more than any frame has passes, eightfold
abbrev wide : ℕ
wide = 295147905179352825856

abbrev pub decreases-surface : goal.decreases-surface
decreases-surface l = l.levels * wide

abbrev pub decreases-Flattener::content : goal.decreases-Flattener::content
decreases-Flattener::content l = l.self.now.levels * wide + 1

abbrev pub decreases-Flattener::shown : goal.decreases-Flattener::shown
decreases-Flattener::shown l = l.self.now.levels * wide + 2

abbrev pub decreases-Flattener::range : goal.decreases-Flattener::range
decreases-Flattener::range l = l.self.now.levels * wide + 3

abbrev pub decreases-Flattener::named : goal.decreases-Flattener::named
decreases-Flattener::named l = l.self.now.levels * wide + 8 * l.k + 8

abbrev pub decreases-Flattener::material : goal.decreases-Flattener::material
decreases-Flattener::material l = l.self.now.levels * wide + 8 * l.k + 4

abbrev pub decreases-Flattener::quad : goal.decreases-Flattener::quad
decreases-Flattener::quad l = l.self.now.levels * wide + 8 * l.k + 5

abbrev pub decreases-Flattener::pass : goal.decreases-Flattener::pass
decreases-Flattener::pass l = l.self.now.levels * wide + 8 * l.k + 6

abbrev pub decreases-Flattener::group : goal.decreases-Flattener::group
decreases-Flattener::group l = l.self.now.levels * wide + 8 * l.k + 7

-- the quads from n on are appended
abbrev pub invariant-Flattener::pass-loop-n : goal.invariant-Flattener::pass-loop-n
invariant-Flattener::pass-loop-n l =
    (l.n ≤ length l.quads) × (l.ops.items ≡ l.fn.ops.items ++ quads_here l.self (earlier_of l.self l.k) l.pass l.place (drop l.n l.quads))

abbrev pub decreases-Flattener::pass-loop-n : goal.decreases-Flattener::pass-loop-n
decreases-Flattener::pass-loop-n l = l.n

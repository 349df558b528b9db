use Rattle.std.proofs.Common.{ℕ, ◌+◌, ◌*◌, take, true}
use Rattle.std.specs.List.{flat_map}
use Rattle.vz_walk.specs.Meeting.{Meets}
use Rattle.vz_walk.specs.Walking.{quad_of}
use Rattle.vz_walk.proofs.walker.+walk.Given as goal

-- more than any frame has passes, eightfold
abbrev wide : ℕ
wide = 295147905179352825856

abbrev pub decreases-surface : goal.decreases-surface
decreases-surface g l = l.levels * wide

abbrev pub decreases-Walker::shown : goal.decreases-Walker::shown
decreases-Walker::shown g l = l.self.now.levels * wide + 1

abbrev pub decreases-Walker::range : goal.decreases-Walker::range
decreases-Walker::range g l = l.self.now.levels * wide + 2

abbrev pub decreases-Walker::group : goal.decreases-Walker::group
decreases-Walker::group g l = l.self.now.levels * wide + 8 * l.k + 6

abbrev pub decreases-Walker::quad : goal.decreases-Walker::quad
decreases-Walker::quad g l = l.self.now.levels * wide + 8 * l.k + 4

abbrev pub decreases-Walker::pass : goal.decreases-Walker::pass
decreases-Walker::pass g l = l.self.now.levels * wide + 8 * l.k + 5

-- the quads so far are met
abbrev pub invariant-Walker::pass-loop-n : goal.invariant-Walker::pass-loop-n
invariant-Walker::pass-loop-n g l =
    Meets g.V.Visitor.has_met g.V.Visitor.has_stopped true l.initial.visitor l.visitor (flat_map (quad_of l.self l.k l.pass l.place)
    (take l.n l.quads))

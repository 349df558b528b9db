use Rattle.std.proofs.Common.{◌≡◌, ◌++◌, map, filter, take, ◌&&◌, ◌==◌, not}
use Rattle.vz_rules.specs.World.{Submission, sub_of}
use Rattle.vz_slow.proofs.world.World.add_unfed.Given as goal

-- those of the submissions so far
abbrev pub invariant-loop-submission : goal.invariant-loop-submission
invariant-loop-submission l =
    l.unfed.items ≡ l.initial.unfed.items ++ map sub_of (filter (λ (s : Submission). (s.submitted.sub.client == l.client.number) && not s.fed) (take l.submission-index l.self.subs))

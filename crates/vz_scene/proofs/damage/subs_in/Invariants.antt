use Rattle.std.proofs.Common.{◌≡◌, map, filter, take}
use Rattle.std.specs.BTreeSet.{contains}
use Rattle.vz_rules.specs.World.{FrameData}
use Rattle.vz_scene.specs.Order.{by_sub}
use Rattle.vz_scene.proofs.damage.subs_in.Given as goal

-- those of the frames so far that are in the set are found
abbrev pub invariant-loop-submitted : goal.invariant-loop-submitted
invariant-loop-submitted l =
    l.found.items ≡ map (λ (i : FrameData). i.sub) (filter (λ (i : FrameData). contains by_sub l.subs i.sub) (take l.submitted-index l.active))

use Rattle.std.proofs.Common.{◌<◌, ◌∙◌, arith, length}
use Rattle.std.proofs.lemmas.List.{length-set}
use Rattle.vz_rules.specs.World.{Resource}
use Rattle.vz_state.proofs.Flagged.{changed}
use Rattle.vz_state.proofs.resource.reclaim_all.Goals as goal

pub loop-k-preserved : goal.loop-k-preserved
loop-k-preserved c =
    let k = c.loop-k.k in
    let old = c.args.resources.now in
    let within : k < length old = omega arith in
    record {
      count = length-set c.loop-k.resources k c.reclaim.new.self ∙ c.loop-k.invariant.count;
      same = changed (λ (s : Resource). record s { reclaimed = s.queued }) old c.loop-k.resources k c.index-resources-k.result c.reclaim.new.self within c.loop-k.invariant.same (λ _. c.reclaim.ensures);
    }

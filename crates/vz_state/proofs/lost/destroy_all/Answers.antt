use Rattle.std.proofs.Common.{◌<◌, ◌∙◌, arith, length}
use Rattle.std.proofs.lemmas.List.{length-set}
use Rattle.vz_rules.specs.Reach.{destroy}
use Rattle.vz_state.proofs.Flagged.{changed}
use Rattle.vz_state.proofs.lost.destroy_all.Goals as goal

pub loop-k-preserved : goal.loop-k-preserved
loop-k-preserved c =
    let k = c.loop-k.k in
    let old = c.args.surfaces.now in
    let within : k < length old = omega arith in
    record {
      count = length-set c.loop-k.surfaces k c.destroy.new.self ∙ c.loop-k.invariant.count;
      same = changed (destroy c.args.kept.now) old c.loop-k.surfaces k c.index-surfaces-k.result c.destroy.new.self within c.loop-k.invariant.same (λ _. c.destroy.ensures);
    }

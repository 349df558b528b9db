use Rattle.std.proofs.Common.{◌<◌, ◌∙◌, arith, length}
use Rattle.std.proofs.lemmas.List.{length-set}
use Rattle.vz_rules.specs.Messages.{mark_of}
use Rattle.vz_state.proofs.Flagged.{changed}
use Rattle.vz_state.proofs.surface.mark_client.Goals as goal

pub loop-k-preserved : goal.loop-k-preserved
loop-k-preserved c =
    let k = c.loop-k.k in
    let old = c.args.surfaces.now in
    let within : k < length old = omega arith in
    record {
      count = length-set c.loop-k.surfaces k c.mark_if.new.self ∙ c.loop-k.invariant.count;
      same = changed (mark_of c.args.c) old c.loop-k.surfaces k c.index-surfaces-k.result c.mark_if.new.self within c.loop-k.invariant.same (λ _. c.mark_if.ensures);
    }

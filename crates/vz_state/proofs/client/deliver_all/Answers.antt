use Rattle.std.proofs.Common.{◌<◌, ◌∙◌, arith, length}
use Rattle.std.proofs.lemmas.List.{length-set}
use Rattle.vz_state.specs.Attached.{deliver_by}
use Rattle.vz_state.proofs.Flagged.{changed}
use Rattle.vz_state.proofs.client.deliver_all.Goals as goal

pub loop-k-preserved : goal.loop-k-preserved
loop-k-preserved c =
    let k = c.loop-k.k in
    let old = c.args.clients.now in
    let within : k < length old = omega arith in
    record {
      count = length-set c.loop-k.clients k c.deliver.new.self ∙ c.loop-k.invariant.count;
      same = changed (deliver_by c.args.sinks.now c.args.tick) old c.loop-k.clients k c.index-clients-k.result c.deliver.new.self within c.loop-k.invariant.same (λ _. c.deliver.ensures);
    }

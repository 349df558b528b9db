use Rattle.std.proofs.Common.{◌<◌, ◌∙◌, arith, length}
use Rattle.std.proofs.lemmas.List.{length-set}
use Rattle.vz_rules.specs.Reach.{drop_on}
use Rattle.vz_state.proofs.Flagged.{changed}
use Rattle.vz_state.proofs.lost.drop_all.Goals as goal

pub loop-k-preserved : goal.loop-k-preserved
loop-k-preserved c =
    let k = c.loop-k.k in
    let old = c.args.submissions.now in
    let within : k < length old = omega arith in
    record {
      count = length-set c.loop-k.submissions k c.drop_on.new.self ∙ c.loop-k.invariant.count;
      same = changed (drop_on c.args.lost.now) old c.loop-k.submissions k c.index-submissions-k.result c.drop_on.new.self within c.loop-k.invariant.same (λ _. c.drop_on.ensures);
    }

use Rattle.std.proofs.Common.{◌<◌, ◌∙◌, arith, length, get_or}
use Rattle.std.proofs.lemmas.List.{length-set}
use Rattle.vz_rules.specs.Messages.{lend}
use Rattle.vz_state.proofs.Flagged.{changed, member_at_rest}
use Rattle.vz_state.proofs.resource.lend_all.Goals as goal

pub lend-requires : goal.lend-requires
lend-requires c =
    let k = c.loop-k.k in
    let old = c.args.resources.now in
    let d = c.index-resources-k.result in
    let within : k < length old = omega arith in
    c.requires (get_or c.loop-k.resources k d) (member_at_rest (lend c.args.listings.now) old c.loop-k.resources k d within c.loop-k.invariant.same)

pub loop-k-preserved : goal.loop-k-preserved
loop-k-preserved c =
    let k = c.loop-k.k in
    let old = c.args.resources.now in
    let within : k < length old = omega arith in
    record {
      count = length-set c.loop-k.resources k c.lend.new.self ∙ c.loop-k.invariant.count;
      same = changed (lend c.args.listings.now) old c.loop-k.resources k c.index-resources-k.result c.lend.new.self within c.loop-k.invariant.same (λ _. c.lend.ensures);
    }

use Rattle.std.proofs.Common.{◌<◌, ◌∙◌, arith, length, get_or, ◌==◌, if◌then◌else◌}
use Rattle.std.proofs.lemmas.List.{length-set}
use Rattle.vz_rules.specs.World.{Client}
use Rattle.vz_rules.specs.Messages.{took}
use Rattle.vz_state.specs.Changes.{changed_by}
use Rattle.vz_state.proofs.Flagged.{changed, member_at_rest}
use Rattle.vz_state.proofs.change.change_one.Goals as goal

pub change_if-requires : goal.change_if-requires
change_if-requires c =
    let k = c.loop-k.k in
    let old = c.args.clients.now in
    let d = c.index-clients-k.result in
    let within : k < length old = omega arith in
    c.requires (get_or c.loop-k.clients k d)
    (member_at_rest (λ (x : Client). if x.number == c.args.c then took (changed_by c.args.change.now x) else x) old c.loop-k.clients k d within c.loop-k.invariant.same)

pub loop-k-preserved : goal.loop-k-preserved
loop-k-preserved c =
    let k = c.loop-k.k in
    let old = c.args.clients.now in
    let within : k < length old = omega arith in
    record {
      count = length-set c.loop-k.clients k c.change_if.new.self ∙ c.loop-k.invariant.count;
      same = changed (λ (x : Client). if x.number == c.args.c then took (changed_by c.args.change.now x) else x) old c.loop-k.clients k c.index-clients-k.result c.change_if.new.self within c.loop-k.invariant.same (λ _. c.in_ok-change_if.ensures);
    }

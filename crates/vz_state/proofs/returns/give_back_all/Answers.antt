use Rattle.std.proofs.Common.{get_or, sym, ap, refl, ◌∙◌, arith, subst}
use Rattle.std.specs.Option.{option_to_list}
use Rattle.std.proofs.lemmas.List.{length-set}
use Rattle.vz_rules.specs.World.{Resource}
use Rattle.vz_rules.specs.Returns.{queue_resource, return_of}
use Rattle.vz_state.specs.Outs.{is_out, outs, IsPutInto}
use Rattle.vz_state.proofs.Flagged.{changed, at_rest}
use Rattle.vz_state.proofs.Rooming.{put_none, put_next, put_all, room_for, returns_give, all_changed}
use Rattle.vz_state.proofs.returns.give_back_all.Goals as goal

pub loop-k-init : goal.loop-k-init
loop-k-init c = record { count = refl; same = refl; queued = put_none c.args.queue.now; told = put_none c.args.told.now }

pub give_back-requires-clause-queue : goal.give_back-requires-clause-queue
unfolding outs
give_back-requires-clause-queue c = λ out.
    let old = c.args.resources.now in
    let k = c.loop-k.k in
    let d = c.index-resources-k.result in
    let own = ap (λ l. get_or l k d) c.loop-k.invariant.same ∙ at_rest (queue_resource c.args.holders.now c.args.c) old k d c.loop-k-test.true in
    room_for (return_of c.args.holders.now c.args.c) is_out old k d c.args.queue.now c.loop-k.queue (returns_give c.args.holders.now c.args.c) c.loop-k-test.true c.requires.queue
    c.loop-k.invariant.queued (ap is_out (sym own) ∙ out)

pub give_back-requires-clause-told : goal.give_back-requires-clause-told
unfolding outs
give_back-requires-clause-told c = λ out.
    let old = c.args.resources.now in
    let k = c.loop-k.k in
    let d = c.index-resources-k.result in
    let own = ap (λ l. get_or l k d) c.loop-k.invariant.same ∙ at_rest (queue_resource c.args.holders.now c.args.c) old k d c.loop-k-test.true in
    room_for (return_of c.args.holders.now c.args.c) is_out old k d c.args.told.now c.loop-k.told (returns_give c.args.holders.now c.args.c) c.loop-k-test.true c.requires.told
    c.loop-k.invariant.told (ap is_out (sym own) ∙ out)

pub loop-k-preserved : goal.loop-k-preserved
loop-k-preserved c =
    let old = c.args.resources.now in
    let k = c.loop-k.k in
    let d = c.index-resources-k.result in
    let f = return_of c.args.holders.now c.args.c in
    let own = ap (λ l. get_or l k d) c.loop-k.invariant.same ∙ at_rest (queue_resource c.args.holders.now c.args.c) old k d c.loop-k-test.true in
    record {
      count = length-set c.loop-k.resources k c.give_back.new.self ∙ c.loop-k.invariant.count;
      same = changed (queue_resource c.args.holders.now c.args.c) old c.loop-k.resources k d c.give_back.new.self c.loop-k-test.true c.loop-k.invariant.same (λ _. c.give_back.ensures.resource);
      queued = put_next f old k d c.args.queue.now c.loop-k.queue c.give_back.new.queue c.loop-k-test.true c.loop-k.invariant.queued
          (subst (λ (r : Resource). IsPutInto c.loop-k.queue c.give_back.new.queue (option_to_list (f r))) own c.give_back.ensures.queued);
      told = put_next f old k d c.args.told.now c.loop-k.told c.give_back.new.told c.loop-k-test.true c.loop-k.invariant.told
          (subst (λ (r : Resource). IsPutInto c.loop-k.told c.give_back.new.told (option_to_list (f r))) own c.give_back.ensures.told);
    }

pub returns-clause-resources : goal.returns-clause-resources
returns-clause-resources c = c.loop-k.invariant.same ∙ all_changed (queue_resource c.args.holders.now c.args.c) c.args.resources.now c.loop-k.k (omega arith)

pub returns-clause-queued : goal.returns-clause-queued
returns-clause-queued c = put_all (return_of c.args.holders.now c.args.c) c.args.resources.now c.loop-k.k c.args.queue.now c.loop-k.queue (omega arith) c.loop-k.invariant.queued

pub returns-clause-told : goal.returns-clause-told
returns-clause-told c = put_all (return_of c.args.holders.now c.args.c) c.args.resources.now c.loop-k.k c.args.told.now c.loop-k.told (omega arith) c.loop-k.invariant.told

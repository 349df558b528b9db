use Rattle.std.proofs.Common.{◌≡◌, List, get_or, take, ap, refl, ◌∙◌, arith, subst}
use Rattle.std.specs.List.{flat_map}
use Rattle.std.proofs.lemmas.List.{length-set, take_all}
use Rattle.vz_rules.specs.World.{Client}
use Rattle.vz_rules.specs.Returns.{queue_returns, returns_of}
use Rattle.vz_state.specs.Outs.{outs, IsPutInto}
use Rattle.vz_state.proofs.Flagged.{changed, at_rest}
use Rattle.vz_state.proofs.Rooming.{put_none, put_more, listed_more, room_behind, all_changed}
use Rattle.vz_state.proofs.returns.give_back_clients.Goals as goal

pub loop-k-init : goal.loop-k-init
loop-k-init c = record { count = refl; same = refl; told = put_none c.args.told.now }

pub give_back-requires : goal.give_back-requires
give_back-requires c =
    let old = c.args.clients.now in
    let k = c.loop-k.k in
    let d = c.index-clients-k.result in
    let own : get_or c.loop-k.clients k d ≡ get_or old k d = ap (λ l. get_or l k d) c.loop-k.invariant.same ∙ at_rest (queue_returns c.args.holders.now) old k d c.loop-k-test.true in
    let same = ap (λ (x : Client). outs x.resources) own in
    let room = room_behind c.args.holders.now old k d c.loop-k-test.true in
    let told = c.loop-k.invariant.told.spare in
    let all = c.requires in
    omega arith

pub loop-k-preserved : goal.loop-k-preserved
loop-k-preserved c =
    let old = c.args.clients.now in
    let k = c.loop-k.k in
    let d = c.index-clients-k.result in
    let w = c.args.holders.now in
    let own = ap (λ l. get_or l k d) c.loop-k.invariant.same ∙ at_rest (queue_returns w) old k d c.loop-k-test.true in
    record {
      count = length-set c.loop-k.clients k c.give_back.new.self ∙ c.loop-k.invariant.count;
      same = changed (queue_returns w) old c.loop-k.clients k d c.give_back.new.self c.loop-k-test.true c.loop-k.invariant.same (λ _. c.give_back.ensures.client);
      told = put_more c.args.told.now c.loop-k.told c.give_back.new.told (flat_map (returns_of w) (take k old)) (returns_of w (get_or old k d)) _ c.loop-k.invariant.told
          (subst (λ (x : Client). IsPutInto c.loop-k.told c.give_back.new.told (returns_of w x)) own c.give_back.ensures.told) (listed_more (returns_of w) old k d c.loop-k-test.true);
    }

pub returns-clause-clients : goal.returns-clause-clients
returns-clause-clients c = c.loop-k.invariant.same ∙ all_changed (queue_returns c.args.holders.now) c.args.clients.now c.loop-k.k (omega arith)

pub returns-clause-told : goal.returns-clause-told
returns-clause-told c =
    subst (λ (l : List Client). IsPutInto c.args.told.now c.loop-k.told (flat_map (returns_of c.args.holders.now) l)) (take_all c.loop-k.k c.args.clients.now (omega arith)) c.loop-k.invariant.told

use Rattle.std.proofs.Common.{is_some, refl, sym, ap, ◌∙◌, arith}
use Rattle.vz_frame.specs.Roomy.{Roomy}
use Rattle.vz_rules.specs.World.{World}
use Rattle.vz_rules.specs.Returns.{feed}
use Rattle.vz_rules.specs.declared.entry.Effects.{Effects}
use Rattle.vz_rules.specs.declared.entry.Reply.TheVariants as reply
use Rattle.vz_rules.specs.declared.entry.Returned.{Returned}
use Rattle.vz_rules.specs.declared.entry.Fed.{Fed}
use Rattle.vz_state.specs.Outs.{unfed}
use Rattle.vz_state.proofs.Rooming.{put_into_none}
use Rattle.vz_slow.proofs.Reaching.{landed_is, done_nothing, done_shown, given_subs, fed_flight}
use Rattle.vz_slow.proofs.slow.done.Goals as goal

pub feed-requires : goal.feed-requires
feed-requires c =
    let was = ap (λ (u : World). u.in_flight) (sym c.world.view_is) ∙ (sym c.take.ensures.value ∙ c.in-Some.is) in
    let room = (c.requires.room.room (ap is_some was)).fed in
    let subs = ap unfed (given_subs _ c.give_back.new.self c.give_back.ensures.world ∙ ap (λ (u : World). u.subs) c.world.view_is) in
    let spare = ap (λ (r : Roomy Fed). r.spare) c.replace-told.ensures.value in
    omega arith

pub fill-effects-requires : goal.fill-effects-requires
fill-effects-requires c =
    let was = ap (λ (u : World). u.in_flight) (sym c.world.view_is) ∙ (sym c.take.ensures.value ∙ c.in-Some.is) in
    (c.requires.room.room (ap is_some was)).effects

pub returns-in-None-clause-step : goal.returns-in-None-clause-step
returns-in-None-clause-step c = λ p.
    done_nothing p c.args.world.now _ c.none.result c.requires.kept (ap (λ (u : World). u.in_flight) (sym c.world.view_is) ∙ (sym c.take.ensures.value ∙ c.in-None.is)) c.none.ensures
    (landed_is c.args.world.now _ c.take.new.self c.world.view_is c.take.ensures.after)

pub returns-in-Some-clause-step : goal.returns-in-Some-clause-step
returns-in-Some-clause-step c = λ p.
    let was = ap (λ (u : World). u.in_flight) (sym c.world.view_is) ∙ (sym c.take.ensures.value ∙ c.in-Some.is) in
    (ap (λ (e : Effects). record { reply = reply.Shown; effects = e; world = c.feed.new.self }) c.fill-effects.ensures.effects)
    ∙ done_shown p c.args.world.now _ c.give_back.new.self c.feed.new.self c.in-Some.presented c.as_slice.result.now c.new-activated.result.list c.new-destroyed.result.list c.give_back.new.told.list c.feed.new.told.list
    c.requires.kept was c.as_slice.ensures
    (landed_is c.args.world.now _ c.take.new.self c.world.view_is c.take.ensures.after) c.give_back.ensures.world c.feed.ensures.world c.new-activated.ensures c.new-destroyed.ensures
    (put_into_none c.replace-queued.result c.give_back.new.told _ c.give_back.ensures.told (ap (λ (r : Roomy Returned). r.list) c.replace-queued.ensures.value ∙ c.requires.room.no_returned) _ refl)
    (put_into_none c.replace-told.result c.feed.new.told _ c.feed.ensures.told (ap (λ (r : Roomy Fed). r.list) c.replace-told.ensures.value ∙ c.requires.room.no_fed) _ refl)

pub returns-in-Some-clause-none : goal.returns-in-Some-clause-none
returns-in-Some-clause-none c = fed_flight _ c.feed.new.self c.as_slice.result.now (c.feed.ensures.world ∙ ap (feed c.as_slice.result.now) c.give_back.ensures.world) ∙ c.take.ensures.after

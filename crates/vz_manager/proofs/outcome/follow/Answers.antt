use Rattle.std.proofs.Common.{◌++◌, [], None, ap, sym, ◌∙◌, subst, arith}
use Rattle.vz_rules.specs.declared.entry.Effects.{Effects}
use Rattle.vz_rules.specs.Settle.{settle}
use Rattle.vz_rules.specs.Reach.{naming, clearing, collect, destroyed_in}
use Rattle.vz_rules.specs.Returns.{give_back, returned_in, fed_in}
use Rattle.vz_returns.specs.Lent.{NoneReleased, resources_out}
use Rattle.vz_surface_manager.specs.declared.surface_manager.SurfaceManager.{SurfaceManager}
use Rattle.vz_surface_manager.specs.Settles.{AreSettling}
use Rattle.vz_rules.proofs.Kept_clears.{always_given, always_fed}
use Rattle.vz_surface_manager.proofs.{Quiet_changes.quiet_given, Waits_kept.waits_like, Waits_kept.stay_fed}
use Rattle.vz_manager.specs.Followed.{new_id}
use Rattle.vz_manager.proofs.Follows.{asks_in, outcome_world, effects_are, collect_is, destroyed_named}
use Rattle.vz_manager.proofs.outcome.follow.Goals as goal

pub keep-requires : goal.keep-requires
keep-requires c = record { room = λ n e. omega (arith, c.requires.room.keeps n e, c.settle.ensures.kept) }

pub collect-requires-clause-collects : goal.collect-requires-clause-collects
collect-requires-clause-collects c =
    let x = c.requires.follows in
    let asks = asks_in x.0 c.args.root c.args.new c.args.anew c.args.settling.now c.settle.new.self c.keep.new.settling c.args.following.now
    (record { follows = x.1; settled = c.settle.ensures.settled x.0 (new_id c.args.new) x.1.settles; keeps = c.keep.ensures.kept })
    c.may_lose-asked.result c.as_slice.result.now c.may_lose-asked.ensures c.as_slice.ensures in
    (naming (settle x.0), asks)

pub give_back-requires-clause-stands : goal.give_back-requires-clause-stands
give_back-requires-clause-stands c =
    let x = c.requires.follows in
    let asks = asks_in x.0 c.args.root c.args.new c.args.anew c.args.settling.now c.settle.new.self c.keep.new.settling c.args.following.now
    (record { follows = x.1; settled = c.settle.ensures.settled x.0 (new_id c.args.new) x.1.settles; keeps = c.keep.ensures.kept })
    c.may_lose-asked.result c.as_slice.result.now c.may_lose-asked.ensures c.as_slice.ensures in
    let s = c.collect.ensures.cleared (naming (settle x.0)) asks in
    (clearing (naming (settle x.0)), None, s.always, s.live)

pub returns-clause-stands : goal.returns-clause-stands
returns-clause-stands c w r h =
    let asks = asks_in w c.args.root c.args.new c.args.anew c.args.settling.now c.settle.new.self c.keep.new.settling c.args.following.now
    (record { follows = h; settled = c.settle.ensures.settled w (new_id c.args.new) h.settles; keeps = c.keep.ensures.kept })
    c.may_lose-asked.result c.as_slice.result.now c.may_lose-asked.ensures c.as_slice.ensures in
    let s = subst (λ u. AreSettling u None c.collect.new.settling) (sym (collect_is (settle w)))
    (c.collect.ensures.cleared (naming (settle w)) asks) in
    subst (λ u. AreSettling u None (record { live = c.feed.new.self; waiting = c.collect.new.settling.waiting })) (sym (outcome_world w r))
    (record {
      always = always_fed [] (give_back (collect (settle w)))
          (always_given (collect (settle w)) s.always);
      live = c.feed.ensures.live (give_back (collect (settle w))) None
          (c.give_back.ensures.live (collect (settle w)) None s.always s.live);
      waiting = stay_fed [] (give_back (collect (settle w))) _
          (waits_like (collect (settle w)) _ _ (quiet_given (collect (settle w))) s.waiting);
    })

pub returns-clause-effects : goal.returns-clause-effects
returns-clause-effects c w r h =
    let asks = asks_in w c.args.root c.args.new c.args.anew c.args.settling.now c.settle.new.self c.keep.new.settling c.args.following.now
    (record { follows = h; settled = c.settle.ensures.settled w (new_id c.args.new) h.settles; keeps = c.keep.ensures.kept })
    c.may_lose-asked.result c.as_slice.result.now c.may_lose-asked.ensures c.as_slice.ensures in
    let s = subst (λ u. AreSettling u None c.collect.new.settling) (sym (collect_is (settle w)))
    (c.collect.ensures.cleared (naming (settle w)) asks) in
    let room = c.requires.room in
    let e = effects_are w r in
    record {
      activated = ap (λ (x : Effects). x.activated) e ∙ sym (c.settle.ensures.activated w (new_id c.args.new) h.settles);
      destroyed = ap (λ (x : Effects). x.destroyed) e
          ∙ sym (c.collect.ensures.destroyed (naming (settle w)) asks
          ∙ (ap (λ l. l ++ destroyed_in (naming (settle w))) room.none_destroyed
          ∙ destroyed_named (settle w)));
      returned = ap (λ (x : Effects). x.returned) e
          ∙ sym (c.give_back.ensures.returned (collect (settle w)) None s.always s.live
          ∙ ap (λ l. l ++ returned_in (collect (settle w))) room.none_returned);
      fed = ap (λ (x : Effects). x.fed) e
          ∙ sym (c.feed.ensures.fed (give_back (collect (settle w))) None
          (c.give_back.ensures.live (collect (settle w)) None s.always s.live)
          ∙ ap (λ l. l ++ fed_in [] (give_back (collect (settle w)))) room.none_fed);
    }

pub returns-clause-released : goal.returns-clause-released
returns-clause-released c = subst NoneReleased (sym (ap (λ v. v.lent) c.feed.ensures.rest)) c.give_back.ensures.released

pub returns-clause-out : goal.returns-clause-out
returns-clause-out c =
    omega (
      arith,
      ap (λ v. resources_out v.lent) c.feed.ensures.rest,
      c.give_back.ensures.out,
      c.collect.ensures.out,
      ap (λ (v : SurfaceManager). resources_out v.live.lent) c.keep.ensures.rest,
      c.settle.ensures.out,
    )

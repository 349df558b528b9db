use Rattle.std.proofs.Common.{arith, refl, ◌∙◌}
use Rattle.vz_surface_manager.proofs.One_round.{begins, next, rises, goes_on, rounded, told}
use Rattle.vz_surface_manager.proofs.rounds.rise_all.Goals as goal

pub loop-sub-init : goal.loop-sub-init
loop-sub-init c = (
  λ w but h. begins w but c.args.subs.now c.args.live.now c.args.ids.now.list h,
  omega arith,
  refl,
  refl,
  omega arith,
  omega arith,
  omega arith,
)

pub rise-requires : goal.rise-requires
rise-requires c =
    let x = c.requires.round in
    let on = c.loop-sub.invariant.0 x.0 x.1 x.2 in
    let next_one = next x.0 x.1 c.args.subs.now c.loop-sub.sub-index _ c.loop-sub.live c.args.ids.now.list c.loop-sub.ids.list x.2.ready
    c.loop-sub-test.true on in
    record {
      rises = (
        on.now,
        x.1,
        next_one.one,
        rises x.0 x.1 c.args.subs.now c.loop-sub.sub-index _ c.loop-sub.live c.args.ids.now.list
            c.loop-sub.ids.list x.2.ready c.loop-sub-test.true on,
      );
    }

pub loop-sub-preserved : goal.loop-sub-preserved
loop-sub-preserved c =
    let before = c.loop-sub.invariant in (
      λ w but h.
          let on = before.0 w but h in
          let is = rises w but c.args.subs.now c.loop-sub.sub-index _ c.loop-sub.live c.args.ids.now.list c.loop-sub.ids.list h.ready
          c.loop-sub-test.true on in
          let one = (next w but c.args.subs.now c.loop-sub.sub-index _ c.loop-sub.live c.args.ids.now.list c.loop-sub.ids.list h.ready
          c.loop-sub-test.true on).one in
          goes_on w but c.args.subs.now c.loop-sub.sub-index _ c.loop-sub.live c.args.ids.now.list c.loop-sub.ids.list h.ready
          c.loop-sub-test.true on
          c.rise.new.self c.rise.result c.put.new.self.list (c.rise.ensures.live on.now but one is)
          (c.rise.ensures.surface on.now but one is) c.put.ensures.list,
      omega (arith, before.1, c.put.ensures.spare),
      c.rise.ensures.out ∙ before.2,
      c.rise.ensures.count ∙ before.3,
      omega (arith, before.4, c.rise.ensures.sets),
      omega (arith, before.5, c.rise.ensures.temporary),
      omega (arith, before.6, c.rise.ensures.room),
    )

pub returns-clause-live : goal.returns-clause-live
returns-clause-live c w but h =
    rounded w but c.args.subs.now c.loop-sub.sub-index c.loop-sub.live c.args.ids.now.list c.loop-sub.ids.list h.ready
    (omega (arith, c.loop-sub-test.false)) (c.loop-sub.invariant.0 w but h)

pub returns-clause-ids : goal.returns-clause-ids
returns-clause-ids c w but h =
    told w but c.args.subs.now c.loop-sub.sub-index c.loop-sub.live c.args.ids.now.list c.loop-sub.ids.list h.ready
    (omega (arith, c.loop-sub-test.false)) (c.loop-sub.invariant.0 w but h)

use Rattle.std.proofs.Common.{length, arith, refl, ap, sym, ◌∙◌, subst}
use Rattle.vz_rules.specs.Settle.{rounds}
use Rattle.vz_surface_manager.proofs.Rounded.{settle_keeps}
use Rattle.vz_surface_manager.proofs.Many_rounds.{IsSettlingOn, begins, within, all_wait, begins_round, so_long, fits, beside_now, goes_on, ends}
use Rattle.vz_surface_manager.proofs.Many_rounds.{ends_told}
use Rattle.vz_surface_manager.proofs.surface_manager.SurfaceManager.settle.Goals as goal

pub loop-from-init : goal.loop-from-init
loop-from-init c = (
  λ w but none h. begins w but c.args.self.now c.args.activated.now.list c.args.ids.now.list none h,
  omega arith,
  λ few. few,
  refl,
  refl,
  omega arith,
  omega arith,
  omega arith,
)

pub since-requires : goal.since-requires
since-requires c = omega (arith, c.loop-from-test.true, ap length c.as_slice.ensures)

pub rise_all-requires-clause-round : goal.rise_all-requires-clause-round
rise_all-requires-clause-round c =
    let x = c.requires.settles in
    let on = c.loop-from.invariant.0 x.0 x.1 c.requires.empty x.2 in (
      rounds on.over x.0,
      x.1,
      begins_round x.0 x.1 c.loop-from.self c.loop-from.from c.loop-from.activated.list c.loop-from.ids.list on
          c.since.result.now c.since.ensures,
    )

pub rise_all-requires-clause-room : goal.rise_all-requires-clause-room
rise_all-requires-clause-room c =
    let x = c.requires.settles in
    let on = c.loop-from.invariant.0 x.0 x.1 c.requires.empty x.2 in
    let room = fits x.0 x.1 c.loop-from.self c.loop-from.from c.loop-from.activated.list c.loop-from.ids.list on c.args.ids.now.spare
    c.loop-from.ids.spare
    (omega (arith, all_wait x.0 x.1 c.args.self.now c.args.activated.now.list x.2, c.requires.beside)) c.loop-from.invariant.1 in
    omega (arith, room, ap length c.since.ensures)

pub returns-clause-settled : goal.returns-clause-settled
returns-clause-settled c w but h =
    ends w but c.loop-from.self c.loop-from.from c.loop-from.activated.list c.loop-from.ids.list
    (c.loop-from.invariant.0 w but c.requires.empty h)
    (omega (arith, c.loop-from-test.false, ap length c.as_slice.ensures))

pub returns-clause-activated : goal.returns-clause-activated
returns-clause-activated c w but h =
    ends_told w but c.loop-from.self c.loop-from.from c.loop-from.activated.list c.loop-from.ids.list
    (c.loop-from.invariant.0 w but c.requires.empty h)
    (omega (arith, c.loop-from-test.false, ap length c.as_slice.ensures))

pub returns-clause-sets : goal.returns-clause-sets
returns-clause-sets c =
    let x = c.requires.settles in
    let on = c.loop-from.invariant.0 x.0 x.1 c.requires.empty x.2 in
    omega (arith, c.loop-from.invariant.5, on.fewer, all_wait x.0 x.1 c.args.self.now c.args.activated.now.list x.2)

pub since-requires-in-loop-from : goal.since-requires-in-loop-from
since-requires-in-loop-from c =
    let x = c.requires.settles in
    let on = c.loop-from.invariant.0 x.0 x.1 c.requires.empty x.2 in
    let is = begins_round x.0 x.1 c.loop-from.self c.loop-from.from c.loop-from.activated.list c.loop-from.ids.list on c.since.result.now
    c.since.ensures in
    within x.0 x.1 c.loop-from.self c.loop-from.from c.loop-from.activated.list c.loop-from.ids.list on c.rise_all.new.ids.list
    (c.rise_all.ensures.ids (rounds on.over x.0) x.1 is)

pub loop-from-preserved : goal.loop-from-preserved
loop-from-preserved c =
    let before = c.loop-from.invariant in
    let x = c.requires.settles in
    let long = so_long x.0 x.1 c.loop-from.self c.loop-from.from c.loop-from.activated.list c.loop-from.ids.list
    (before.0 x.0 x.1 c.requires.empty x.2) in
    let risen = ap length c.since.ensures in
    let so_far = ap length c.as_slice-to.ensures in (
      λ w but none h.
          let on = before.0 w but none h in
          let is = begins_round w but c.loop-from.self c.loop-from.from c.loop-from.activated.list c.loop-from.ids.list on
          c.since.result.now c.since.ensures in
          let put = c.rise_all.ensures.ids (rounds on.over w) but is in
          let told = c.since-in-loop-from.ensures ∙ beside_now w but c.loop-from.self c.loop-from.from c.loop-from.activated.list
          c.loop-from.ids.list on c.rise_all.new.ids.list put in
          subst (λ n. IsSettlingOn w but (record { live = c.rise_all.new.live; waiting = c.activated.new.self }) n c.activated.new.out.list
          c.rise_all.new.ids.list) (sym so_far)
          (goes_on w but c.loop-from.self c.loop-from.from c.loop-from.activated.list c.loop-from.ids.list on c.rise_all.new.live
          c.activated.new.self c.rise_all.new.ids.list c.activated.new.out.list
          (c.rise_all.ensures.live (rounds on.over w) but is)
          (c.activated.ensures.waits (rounds on.over w) on.stands.always on.stands.waiting told) put
          (c.activated.ensures.out (rounds on.over w) on.stands.always on.stands.waiting told)),
      omega (arith, before.1, c.rise_all.ensures.room, long, risen, so_far),
      λ few. omega (arith, before.2 few, c.activated.ensures.room),
      c.rise_all.ensures.out ∙ before.3,
      c.rise_all.ensures.count ∙ before.4,
      omega (arith, before.5, c.rise_all.ensures.sets, long, risen, so_far),
      omega (arith, before.6, c.rise_all.ensures.temporary),
      omega (arith, before.7, c.rise_all.ensures.kept),
    )

pub returns-clause-surfaces : goal.returns-clause-surfaces
returns-clause-surfaces c =
    let x = c.requires.settles in
    let on = c.loop-from.invariant.0 x.0 x.1 c.requires.empty x.2 in
    let end = ends x.0 x.1 c.loop-from.self c.loop-from.from c.loop-from.activated.list c.loop-from.ids.list on
    (omega (arith, c.loop-from-test.false, ap length c.as_slice.ensures)) in
    settle_keeps x.0 c.args.self.now.live.store c.loop-from.self.live.store x.2.stands.live.store end.live.store

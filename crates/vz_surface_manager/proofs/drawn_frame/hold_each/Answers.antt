use Rattle.std.proofs.Common.{Some, List, ◌∙◌, arith, subst, refl}
use Rattle.vz_ids.specs.declared.Sub.{Sub}
use Rattle.vz_returns.specs.Lent.{AreLent}
use Rattle.vz_surface_manager.proofs.Lifted.{acting, take_every, places_here, places_left, lifts_lender, lifts_next, lifts_more}
use Rattle.vz_surface_manager.proofs.drawn_frame.hold_each.Goals as goal

pub loop-k-init : goal.loop-k-init
loop-k-init c = (λ p w h. h.lent, c.requires.lifts, c.requires.room, c.requires.lifts.2.none_released, refl)

pub drawn-requires-clause-known : goal.drawn-requires-clause-known
drawn-requires-clause-known c =
    let i = c.loop-k.invariant in
    lifts_lender i.1.0 i.1.1 c.args.roster.now c.args.lending.now i.1.2 c.loop-k.lending c.loop-k.k
    (i.0 i.1.0 i.1.1 i.1.2) i.3 c.get.result.0 c.get.result.1.now c.get.ensures

pub drawn-requires-clause-drawn : goal.drawn-requires-clause-drawn
drawn-requires-clause-drawn c =
    let i = c.loop-k.invariant in
    let roster = c.args.roster.now in
    let lent = i.0 i.1.0 i.1.1 i.1.2 in (
      i.1.0,
      i.1.1,
      _,
      (acting i.1.0 i.1.1 roster c.args.lending.now i.1.2 c.loop-k.lending c.loop-k.k lent i.3 c.get.result.0 c.get.result.1.now
          c.get.ensures).0,
      lifts_next i.1.0 i.1.1 roster c.args.lending.now i.1.2 c.loop-k.lending c.loop-k.k lent i.3 c.get.result.0 c.get.result.1.now
          c.get.ensures,
    )

pub drawn-requires-clause-room : goal.drawn-requires-clause-room
drawn-requires-clause-room c =
    let i = c.loop-k.invariant in
    places_here c.args.roster.now c.loop-k.k (c.get.result.0, c.get.result.1.now) c.get.result.0.client c.loop-k.lending c.get.ensures
    (i.2 c.get.result.0.client)

pub loop-k-preserved : goal.loop-k-preserved
loop-k-preserved c =
    let i = c.loop-k.invariant in
    let roster = c.args.roster.now in (
      λ p w h.
          lifts_more p w roster c.args.lending.now h c.loop-k.lending c.loop-k.k
          (i.0 p w h) i.3 c.get.result.0 c.get.result.1.now c.get.ensures c.drawn.new.self
          (c.drawn.ensures.lent p w _ _ (lifts_next p w roster c.args.lending.now h c.loop-k.lending c.loop-k.k
          (i.0 p w h) i.3 c.get.result.0 c.get.result.1.now c.get.ensures)),
      i.1,
      λ client.
          c.drawn.ensures.places _ client
          (places_left roster c.loop-k.k (c.get.result.0, c.get.result.1.now) client c.loop-k.lending c.get.ensures (i.2 client)),
      c.drawn.ensures.released i.3,
      c.drawn.ensures.out ∙ i.4,
    )

pub returns-clause-lent : goal.returns-clause-lent
returns-clause-lent c p w h =
    subst (λ (l : List Sub). AreLent (record w { in_flight = Some l }) c.loop-k.lending)
    (take_every c.args.roster.now c.loop-k.k (omega (arith, c.loop-k-test.false, c.len-k-end.ensures))) (c.loop-k.invariant.0 p w h)

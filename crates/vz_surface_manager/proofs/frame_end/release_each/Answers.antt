use Rattle.std.proofs.Common.{Some, List, ◌∙◌, arith, subst}
use Rattle.vz_ids.specs.declared.Sub.{Sub}
use Rattle.vz_returns.specs.Lent.{AreLent}
use Rattle.vz_surface_manager.proofs.Released.{drop_all, there, lands_lender, lands_next}
use Rattle.vz_surface_manager.proofs.frame_end.release_each.Goals as goal

pub landed-requires-clause-known : goal.landed-requires-clause-known
landed-requires-clause-known c =
    let i = c.loop-k.invariant in
    lands_lender i.1.0 c.args.roster.now c.args.lending.now i.1.1 c.loop-k.lending c.loop-k.k
    (i.0 i.1.0 i.1.1) c.get.result.0 c.get.result.1.now c.get.ensures

pub landed-requires-clause-done : goal.landed-requires-clause-done
landed-requires-clause-done c =
    let i = c.loop-k.invariant in
    let roster = c.args.roster.now in
    let lent = i.0 i.1.0 i.1.1 in (
      i.1.0,
      (there i.1.0 roster c.args.lending.now i.1.1 c.loop-k.lending c.loop-k.k lent c.get.result.0 c.get.result.1.now c.get.ensures).0,
      _,
      lands_next i.1.0 roster c.args.lending.now i.1.1 c.loop-k.lending c.loop-k.k lent c.get.result.0 c.get.result.1.now c.get.ensures,
    )

pub loop-k-preserved : goal.loop-k-preserved
loop-k-preserved c =
    let i = c.loop-k.invariant in (
      λ w h. c.landed.ensures.lent w _ _ (lands_next w c.args.roster.now c.args.lending.now h c.loop-k.lending c.loop-k.k
          (i.0 w h) c.get.result.0 c.get.result.1.now c.get.ensures),
      i.1,
      c.landed.ensures.out ∙ i.2,
    )

pub returns-clause-lent : goal.returns-clause-lent
returns-clause-lent c w h =
    subst (λ (l : List Sub). AreLent (record w { in_flight = Some l }) c.loop-k.lending)
    (drop_all c.args.roster.now c.loop-k.k (omega (arith, c.loop-k-test.false, c.len-k-end.ensures))) (c.loop-k.invariant.0 w h)

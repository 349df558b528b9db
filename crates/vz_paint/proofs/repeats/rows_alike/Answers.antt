use Rattle.std.proofs.Common.{◌<◌, map, get_or, Bor, subst, w32, arith}
use Rattle.std.proofs.lemmas.Int.{to_z-of_z}
use Rattle.std.proofs.lemmas.List.{length-map}
use Rattle.vz_flat.specs.declared.op.Op.{Op}
use Rattle.vz_paint.specs.Alike.{IsAlike}
use Rattle.vz_paint.proofs.Same_rows.{alike_more, alike_at, not_one, rows_are_alike}
use Rattle.vz_paint.proofs.repeats.rows_alike.Goals as goal

pub loop-op-preserved : goal.loop-op-preserved
loop-op-preserved c =
    let e = c.rows_of-alike.ensures in
    let l = c.loop-op in
    let other = c.if-alike-eq1.false in
    let first = e.some in
    let most = e.most in
    let under = l.invariant.1 in
    let many : 1 < c.rows_of-alike.result = not_one c.rows_of-alike.result e.some other in (
      e.some,
      omega (arith, most, under),
      alike_more _ l.alike c.rows_of-alike.result l.op-index (map (λ r. r.now) c.args.ops.now) e.most l.invariant.2
          (alike_at c.args.ops.now l.op-index c.op-item.result c.loop-op-test.true c.op-item.is (IsAlike _ c.rows_of-alike.result) (e.alike many)),
    )

pub returns-clause-alike : goal.returns-clause-alike
returns-clause-alike c =
    let l = c.loop-op in
    let y = c.args.y in
    let done = c.loop-op-test.false in
    let counted = length-map c.args.ops.now (λ r. r.now) in
    rows_are_alike (map (λ r. r.now) c.args.ops.now) y l.alike (λ i d low. subst (λ z. IsAlike z l.alike (get_or (map {A = Bor Op} {B = Op} (λ r. r.now) c.args.ops.now) i d)) (to_z-of_z w32 y c.ranges.y) (l.invariant.2 i d (omega (arith, low, counted, done))))

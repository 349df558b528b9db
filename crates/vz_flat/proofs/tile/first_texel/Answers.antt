use Rattle.std.proofs.{Common.arith, Common.ap, Common.◌∙◌, lemmas.Int.ints}
use Rattle.vz_geom.specs.{declared.Point.Point, Rectangle.Rectangle}
use Rattle.vz_geom.proofs.Points.{same_point}
use Rattle.vz_flat.proofs.Rounded.{read_along}
use Rattle.vz_flat.proofs.tile.first_texel.Goals as goal

pub overflow_add-result : goal.overflow_add-result
overflow_add-result c =
    let n = c.corner-first.ensures.near in
    let x = ap (λ (p : Point). p.x) c.shift-shift.ensures.value in
    omega (arith, ints, x, n.left, n.right)

pub overflow_add-result-2 : goal.overflow_add-result-2
overflow_add-result-2 c =
    let n = c.corner-first.ensures.near in
    let y = ap (λ (p : Point). p.y) c.shift-shift.ensures.value in
    omega (arith, ints, y, n.top, n.bottom)

pub returns : goal.returns
returns c =
    let n = c.corner-first.ensures.near in
    let r = c.requires in
    let x = ap (λ (p : Point). p.x) c.shift-shift.ensures.value in
    let y = ap (λ (p : Point). p.y) c.shift-shift.ensures.value in
    let a = ap (λ (p : Point). p.x) c.corner-first.ensures.value ∙ ap (λ (r : Rectangle). r.x) c.window.ensures in
    let b = ap (λ (p : Point). p.y) c.corner-first.ensures.value ∙ ap (λ (r : Rectangle). r.y) c.window.ensures in
    let tx = c.ranges.tx.fits in
    let ty = c.ranges.ty.fits in
    same_point
    (read_along _ _ _ _ _ c.args.tx a x c.from.ensures (omega (arith, ints, a, n.left)) (omega (arith, ints, a, n.right)) (omega (arith, ints)) (omega (arith, ints)) (omega (arith, tx)))
    (read_along _ _ _ _ _ c.args.ty b y c.from-2.ensures (omega (arith, ints, b, n.top)) (omega (arith, ints, b, n.bottom)) (omega (arith, ints)) (omega (arith, ints)) (omega (arith, ty)))

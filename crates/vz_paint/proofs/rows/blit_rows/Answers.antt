use Rattle.std.proofs.Common.{◌≡◌, ◌+◌, ◌-◌, ◌*◌, ◌<◌, ◌≤◌, ◌≤ℤ◌, true, Some, List, length, get_or, sym, subst, ap, ◌∙◌, arith}
use Rattle.std.specs.List.{list_all}
use Rattle.vz_geom.specs.{Rectangle.plus, Rectangle.minus, Rectangle.corner, declared.Point.Point}
use Rattle.vz_pixels.specs.Colour.{Colour, transparent, is_opaque}
use Rattle.vz_frame.proofs.Parts.{length_part}
use Rattle.vz_rules.specs.Paint.{texel_of}
use Rattle.vz_flat.specs.declared.op.Op.TheVariants.{Blit}
use Rattle.vz_paint.specs.{Row.right_of, Redraw.point_of, Redraw.step_of}
use Rattle.vz_paint.proofs.{Redrawn.rows_begin, Redrawn.rows_end, Redrawn.unchanged, Redrawn.part_fits, Opaque_texels.opaque_part}
use Rattle.vz_paint.proofs.Patches.{mix_next, laid_none, no_columns, block_row, low_start, near_row}
use Rattle.vz_paint.proofs.Blitted.{columns_fit, rows_fit, across, texel_same, listed}
use Rattle.vz_paint.proofs.rows.blit_rows.Goals as goal

pub loop-k-init : goal.loop-k-init
loop-k-init c =
    let a = c.args in
    let n = a.lines in
    rows_begin n.width n.left n.wide n.count c.patch_of-here.result.top (step_of a.start (Blit a.area.now a.block.now a.tx.now a.ty.now a.opacity a.mode)) a.pixels.now
    (λ r i low near d. laid_none a.start a.area.now (λ r i. texel_of (Some a.block.now) (plus (minus (point_of a.start r i) (corner a.area.now)) (record { x = a.tx.now; y = a.ty.now }))) a.opacity a.mode r i d (c.patch_of-here.ensures.above r i low))

pub below-first-requires-clause-near : goal.below-first-requires-clause-near
below-first-requires-clause-near c =
    let down = c.patch_of-here.ensures.down in
    let under : c.loop-k.k < c.patch_of-here.result.bottom = c.loop-k-test.true in
    near_row c.args.start.y c.loop-k.k c.args.lines.count (omega (arith, down, under)) c.requires.lines.bottom

pub right_of-p-requires-clause-start : goal.right_of-p-requires-clause-start
right_of-p-requires-clause-start c = low_start c.args.start c.below-first.result c.loop-k.k c.requires.lines.begins c.below-first.ensures

pub texel_at-texel-requires-clause-left : goal.texel_at-texel-requires-clause-left
texel_at-texel-requires-clause-left c =
    let a = c.args in
    let h = c.patch_of-here.result in
    let f = block_row a.area.now a.block.now (record { x = a.tx.now; y = a.ty.now }) a.start c.below-first.result a.opacity a.mode a.lines.wide a.lines.count c.loop-k.k h.from h.to h.top h.bottom c.if-here.false c.patch_of-here.ensures.most c.patch_of-here.ensures.down c.patch_of-here.ensures.exact c.loop-k.invariant.least c.loop-k-test.true c.below-first.ensures c.requires.inside in
    let left = f.left in
    subst (λ (q : Point). a.area.now.x ≤ℤ q.x) (sym c.right_of-p.ensures) left

pub texel_at-texel-requires-clause-top : goal.texel_at-texel-requires-clause-top
texel_at-texel-requires-clause-top c =
    let a = c.args in
    let h = c.patch_of-here.result in
    let f = block_row a.area.now a.block.now (record { x = a.tx.now; y = a.ty.now }) a.start c.below-first.result a.opacity a.mode a.lines.wide a.lines.count c.loop-k.k h.from h.to h.top h.bottom c.if-here.false c.patch_of-here.ensures.most c.patch_of-here.ensures.down c.patch_of-here.ensures.exact c.loop-k.invariant.least c.loop-k-test.true c.below-first.ensures c.requires.inside in
    let top = f.top in
    subst (λ (q : Point). a.area.now.y ≤ℤ q.y) (sym c.right_of-p.ensures) top

pub texel_at-texel-requires-clause-columns : goal.texel_at-texel-requires-clause-columns
texel_at-texel-requires-clause-columns c =
    let a = c.args in
    let h = c.patch_of-here.result in
    let f = block_row a.area.now a.block.now (record { x = a.tx.now; y = a.ty.now }) a.start c.below-first.result a.opacity a.mode a.lines.wide a.lines.count c.loop-k.k h.from h.to h.top h.bottom c.if-here.false c.patch_of-here.ensures.most c.patch_of-here.ensures.down c.patch_of-here.ensures.exact c.loop-k.invariant.least c.loop-k-test.true c.below-first.ensures c.requires.inside in
    columns_fit a.area.now a.block.now (record { x = a.tx.now; y = a.ty.now }) c.below-first.result c.right_of-p.result h.from h.to f c.right_of-p.ensures

pub texel_at-texel-requires-clause-rows : goal.texel_at-texel-requires-clause-rows
texel_at-texel-requires-clause-rows c =
    let a = c.args in
    let h = c.patch_of-here.result in
    let f = block_row a.area.now a.block.now (record { x = a.tx.now; y = a.ty.now }) a.start c.below-first.result a.opacity a.mode a.lines.wide a.lines.count c.loop-k.k h.from h.to h.top h.bottom c.if-here.false c.patch_of-here.ensures.most c.patch_of-here.ensures.down c.patch_of-here.ensures.exact c.loop-k.invariant.least c.loop-k-test.true c.below-first.ensures c.requires.inside in
    rows_fit a.area.now a.block.now (record { x = a.tx.now; y = a.ty.now }) c.below-first.result c.right_of-p.result h.from h.to f c.right_of-p.ensures

pub texel_at-texel-requires-clause-column : goal.texel_at-texel-requires-clause-column
texel_at-texel-requires-clause-column c =
    let a = c.args in
    let h = c.patch_of-here.result in
    let f = block_row a.area.now a.block.now (record { x = a.tx.now; y = a.ty.now }) a.start c.below-first.result a.opacity a.mode a.lines.wide a.lines.count c.loop-k.k h.from h.to h.top h.bottom c.if-here.false c.patch_of-here.ensures.most c.patch_of-here.ensures.down c.patch_of-here.ensures.exact c.loop-k.invariant.least c.loop-k-test.true c.below-first.ensures c.requires.inside in
    f.column

pub texel_at-texel-requires-clause-row : goal.texel_at-texel-requires-clause-row
texel_at-texel-requires-clause-row c =
    let a = c.args in
    let h = c.patch_of-here.result in
    let f = block_row a.area.now a.block.now (record { x = a.tx.now; y = a.ty.now }) a.start c.below-first.result a.opacity a.mode a.lines.wide a.lines.count c.loop-k.k h.from h.to h.top h.bottom c.if-here.false c.patch_of-here.ensures.most c.patch_of-here.ensures.down c.patch_of-here.ensures.exact c.loop-k.invariant.least c.loop-k-test.true c.below-first.ensures c.requires.inside in
    f.row

pub texels-source-requires-clause-across : goal.texels-source-requires-clause-across
texels-source-requires-clause-across c =
    let a = c.args in
    let h = c.patch_of-here.result in
    let f = block_row a.area.now a.block.now (record { x = a.tx.now; y = a.ty.now }) a.start c.below-first.result a.opacity a.mode a.lines.wide a.lines.count c.loop-k.k h.from h.to h.top h.bottom c.if-here.false c.patch_of-here.ensures.most c.patch_of-here.ensures.down c.patch_of-here.ensures.exact c.loop-k.invariant.least c.loop-k-test.true c.below-first.ensures c.requires.inside in
    across a.area.now a.block.now (record { x = a.tx.now; y = a.ty.now }) c.below-first.result c.right_of-p.result h.from h.to c.texel_at-texel.result.column f c.right_of-p.ensures c.texel_at-texel.ensures.column

pub print-requires-clause-same : goal.print-requires-clause-same
print-requires-clause-same c =
    let a = c.args in
    let h = c.patch_of-here.result in
    let e = c.patch_of-here.ensures in
    let f = block_row a.area.now a.block.now (record { x = a.tx.now; y = a.ty.now }) a.start c.below-first.result a.opacity a.mode a.lines.wide a.lines.count c.loop-k.k h.from h.to h.top h.bottom c.if-here.false e.most e.down e.exact c.loop-k.invariant.least c.loop-k-test.true c.below-first.ensures c.requires.inside in
    let low = across a.area.now a.block.now (record { x = a.tx.now; y = a.ty.now }) c.below-first.result c.right_of-p.result h.from h.to c.texel_at-texel.result.column f c.right_of-p.ensures c.texel_at-texel.ensures.column in
    let there = listed a.block.now c.texel_at-texel.result.column c.texel_at-texel.result.row (h.to - h.from) c.texels-source.ensures.counted low c.texel_at-texel.ensures.inside in
    let down = e.down in
    let under : c.loop-k.k < h.bottom = c.loop-k-test.true in
    let fits = part_fits a.lines.width a.lines.left a.lines.wide c.loop-k.k a.lines.count h.to (length a.pixels.now) c.requires.lines.inside (omega (arith, down, under)) e.most c.requires.lines.long in
    let same = c.loop-k.invariant.long in
    let at = c.place-at.ensures.value in
    let up = e.ordered in
    let own = length_part transparent c.loop-k.pixels (c.place-at.result + h.from) ((c.place-at.result + h.to) - (c.place-at.result + h.from)) (omega (arith, fits, same, at, up)) in
    let other = ap length c.texels-source.ensures.value ∙ length_part transparent a.block.now.pixels _ (h.to - h.from) there in
    omega (arith, own, other, up)

pub print-requires-clause-opaque : goal.print-requires-clause-opaque
print-requires-clause-opaque c = λ opaque.
    let h = c.patch_of-here.result in
    subst (λ (l : List Colour). list_all is_opaque l ≡ true) (sym c.texels-source.ensures.value)
    (opaque_part (h.to - h.from) (c.texel_at-texel.result.row * c.args.block.now.w + c.texel_at-texel.result.column) c.args.block.now.pixels (sym c.is_opaque.ensures ∙ opaque))

pub loop-k-preserved : goal.loop-k-preserved
loop-k-preserved c =
    let a = c.args in
    let n = a.lines in
    let l = c.loop-k in
    let h = c.patch_of-here.result in
    let e = c.patch_of-here.ensures in
    let down = e.down in
    let under : l.k < h.bottom = c.loop-k-test.true in
    let low : l.k < n.count = omega (arith, down, under) in
    let f = block_row a.area.now a.block.now (record { x = a.tx.now; y = a.ty.now }) a.start c.below-first.result a.opacity a.mode n.wide n.count l.k h.from h.to h.top h.bottom c.if-here.false e.most e.down e.exact l.invariant.least under c.below-first.ensures c.requires.inside in
    let most = across a.area.now a.block.now (record { x = a.tx.now; y = a.ty.now }) c.below-first.result c.right_of-p.result h.from h.to c.texel_at-texel.result.column f c.right_of-p.ensures c.texel_at-texel.ensures.column in
    let there = listed a.block.now c.texel_at-texel.result.column c.texel_at-texel.result.row (h.to - h.from) c.texels-source.ensures.counted most c.texel_at-texel.ensures.inside in
    mix_next n.width n.left n.wide n.count h.top l.k c.place-at.result h.from h.to a.start a.area.now (λ r i. texel_of (Some a.block.now) (plus (minus (point_of a.start r i) (corner a.area.now)) (record { x = a.tx.now; y = a.ty.now }))) a.opacity a.mode c.texels-source.result.now a.pixels.now l.pixels c.print.new.row l.invariant
    low e.ordered e.most c.requires.lines.inside c.requires.lines.long c.place-at.ensures.value (λ i near. e.exact l.k i low l.invariant.least under near)
    (ap length c.texels-source.ensures.value ∙ length_part transparent a.block.now.pixels _ (h.to - h.from) there)
    (λ i least near.
    ap (λ l. get_or l (i - h.from) transparent) c.texels-source.ensures.value
    ∙ (texel_same a.area.now a.block.now (record { x = a.tx.now; y = a.ty.now }) c.below-first.result c.right_of-p.result h.from h.to c.texel_at-texel.result.column c.texel_at-texel.result.row f c.right_of-p.ensures c.texel_at-texel.ensures.column c.texel_at-texel.ensures.row i least near
    ∙ ap (λ (q : Point). texel_of (Some a.block.now) (plus (minus (right_of q i) (corner a.area.now)) (record { x = a.tx.now; y = a.ty.now }))) c.below-first.ensures))
    c.print.ensures

pub returns : goal.returns
returns c =
    let a = c.args in
    let n = a.lines in
    let l = c.loop-k in
    let e = c.patch_of-here.ensures in
    let done : c.patch_of-here.result.bottom ≤ l.k = c.loop-k-test.false in
    rows_end n.width n.left n.wide n.count c.patch_of-here.result.top l.k (step_of a.start (Blit a.area.now a.block.now a.tx.now a.ty.now a.opacity a.mode)) a.pixels.now l.pixels l.invariant
    (λ r i low more near d. laid_none a.start a.area.now (λ r i. texel_of (Some a.block.now) (plus (minus (point_of a.start r i) (corner a.area.now)) (record { x = a.tx.now; y = a.ty.now }))) a.opacity a.mode r i d (e.under r i low (omega (arith, done, more))))

pub returns-then-here : goal.returns-then-here
returns-then-here c =
    let a = c.args in
    let n = a.lines in
    let e = c.patch_of-here.ensures in
    let h = c.patch_of-here.result in
    unchanged n.width n.left n.wide n.count (step_of a.start (Blit a.area.now a.block.now a.tx.now a.ty.now a.opacity a.mode)) a.pixels.now
    (λ r i low near d. laid_none a.start a.area.now (λ r i. texel_of (Some a.block.now) (plus (minus (point_of a.start r i) (corner a.area.now)) (record { x = a.tx.now; y = a.ty.now }))) a.opacity a.mode r i d (no_columns a.area.now a.start n.wide n.count h.from h.to h.top h.bottom r i c.if-here.true e.above e.under e.exact low near))

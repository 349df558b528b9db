use Rattle.std.proofs.Common.{ap, length, sym, subst, ◌∙◌, ◌≤◌, arith}
use Rattle.std.proofs.lemmas.Int.{ints}
use Rattle.vz_geom.proofs.Bounds.{of_full}
use Rattle.vz_frame.specs.declared.blend.Blend.TheVariants.{Over}
use Rattle.vz_occlude.proofs.Opaque_blocks.{blit_opaque}
use Rattle.vz_occlude.proofs.Whole_blocks.{whole_clear}
use Rattle.vz_occlude.proofs.Read_texels.{none_is, within, are_read, rows_read, span_read}
use Rattle.vz_occlude.proofs.texels.is_opaque_blit.Goals as goal

pub returns-then-is_empty : goal.returns-then-is_empty
returns-then-is_empty c =
    sym (none_is c.args.area.now c.args.block.now c.args.tx.now c.args.ty.now c.is_empty.ensures.proper (sym c.is_empty.ensures.value ∙ c.if-is_empty.true))

pub returns-then-is_opaque : goal.returns-then-is_opaque
returns-then-is_opaque c =
    let out = sym c.is_empty.ensures.value ∙ c.if-is_empty.false in
    let full = ap length (sym c.pixels-count.ensures.value) ∙ c.pixels-count.ensures.counted in
    sym (blit_opaque c.args.block.now (sym c.is_opaque.ensures ∙ c.if-is_opaque.true) full c.args.area.now c.args.tx.now c.args.ty.now 0 Over out (c.requires.inside 0 Over))

pub returns-then-has_sides : goal.returns-then-has_sides
returns-then-has_sides c =
    let out = sym c.is_empty.ensures.value ∙ c.if-is_empty.false in
    let full = ap length (sym c.pixels-count.ensures.value) ∙ c.pixels-count.ensures.counted in
    let sides = c.has_sides.ensures.0 c.if-has_sides.true in
    sym (whole_clear c.args.block.now (sym c.is_opaque.ensures ∙ c.if-is_opaque.false) full c.args.area.now c.args.tx.now c.args.ty.now 0 Over out (c.requires.inside 0 Over) sides.0 sides.1)

pub overflow_cast-tx : goal.overflow_cast-tx
overflow_cast-tx c =
    let out = sym c.is_empty.ensures.value ∙ c.if-is_empty.false in
    let in_block = within c.args.area.now c.args.block.now c.args.tx.now c.args.ty.now 0 Over out (c.requires.inside 0 Over) in
    let full = of_full c.args.area.now out in
    let wide = subst (λ n. n ≤ 256) c.w.ensures.value c.w.ensures.range.1 in
    let high = subst (λ n. n ≤ 256) c.h.ensures.value c.h.ensures.range.1 in
    let are = are_read c.args.area.now c.args.block.now c.args.tx.now c.args.ty.now c.w-2.result c.h-2.result in_block full c.w-2.ensures c.h-2.ensures wide high in
    let a = are.column in
    let b = in_block.left in
    let d = in_block.right in
    let e = full.wide in
    (search (arith, ints, a, b), omega (arith, ints, a, b, d, e, wide))

pub overflow_cast-ty : goal.overflow_cast-ty
overflow_cast-ty c =
    let out = sym c.is_empty.ensures.value ∙ c.if-is_empty.false in
    let in_block = within c.args.area.now c.args.block.now c.args.tx.now c.args.ty.now 0 Over out (c.requires.inside 0 Over) in
    let full = of_full c.args.area.now out in
    let wide = subst (λ n. n ≤ 256) c.w.ensures.value c.w.ensures.range.1 in
    let high = subst (λ n. n ≤ 256) c.h.ensures.value c.h.ensures.range.1 in
    let are = are_read c.args.area.now c.args.block.now c.args.tx.now c.args.ty.now c.w-2.result c.h-2.result in_block full c.w-2.ensures c.h-2.ensures wide high in
    let a = are.row in
    let b = in_block.top in
    let d = in_block.bottom in
    let e = full.high in
    (search (arith, ints, a, b), omega (arith, ints, a, b, d, e, high))

pub are_opaque_rows-requires-clause-across : goal.are_opaque_rows-requires-clause-across
are_opaque_rows-requires-clause-across c =
    let out = sym c.is_empty.ensures.value ∙ c.if-is_empty.false in
    let in_block = within c.args.area.now c.args.block.now c.args.tx.now c.args.ty.now 0 Over out (c.requires.inside 0 Over) in
    let full = of_full c.args.area.now out in
    let wide = subst (λ n. n ≤ 256) c.w.ensures.value c.w.ensures.range.1 in
    let high = subst (λ n. n ≤ 256) c.h.ensures.value c.h.ensures.range.1 in
    let are = are_read c.args.area.now c.args.block.now c.args.tx.now c.args.ty.now c.w-2.result c.h-2.result in_block full c.w-2.ensures c.h-2.ensures wide high in
    span_read _ _ c.args.tx.now c.args.area.now.w c.args.block.now.w are.column are.wide in_block.left full.wide in_block.right

pub are_opaque_rows-requires-clause-down : goal.are_opaque_rows-requires-clause-down
are_opaque_rows-requires-clause-down c =
    let out = sym c.is_empty.ensures.value ∙ c.if-is_empty.false in
    let in_block = within c.args.area.now c.args.block.now c.args.tx.now c.args.ty.now 0 Over out (c.requires.inside 0 Over) in
    let full = of_full c.args.area.now out in
    let wide = subst (λ n. n ≤ 256) c.w.ensures.value c.w.ensures.range.1 in
    let high = subst (λ n. n ≤ 256) c.h.ensures.value c.h.ensures.range.1 in
    let are = are_read c.args.area.now c.args.block.now c.args.tx.now c.args.ty.now c.w-2.result c.h-2.result in_block full c.w-2.ensures c.h-2.ensures wide high in
    span_read _ _ c.args.ty.now c.args.area.now.h c.args.block.now.h are.row are.high in_block.top full.high in_block.bottom

pub returns : goal.returns
returns c =
    let out = sym c.is_empty.ensures.value ∙ c.if-is_empty.false in
    let in_block = within c.args.area.now c.args.block.now c.args.tx.now c.args.ty.now 0 Over out (c.requires.inside 0 Over) in
    let full = of_full c.args.area.now out in
    let wide = subst (λ n. n ≤ 256) c.w.ensures.value c.w.ensures.range.1 in
    let high = subst (λ n. n ≤ 256) c.h.ensures.value c.h.ensures.range.1 in
    let are = are_read c.args.area.now c.args.block.now c.args.tx.now c.args.ty.now c.w-2.result c.h-2.result in_block full c.w-2.ensures c.h-2.ensures wide high in
    c.are_opaque_rows.ensures
    ∙ rows_read c.args.area.now c.args.block.now c.args.tx.now c.args.ty.now _ _ _ _ are.high are.wide are.column are.row in_block.left in_block.top

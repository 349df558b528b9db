use Rattle.std.proofs.{Common.rules, Common.subst, Common.sym, lemmas.List.Elements.All-push}
use Rattle.std.specs.List.{All}
use Rattle.vz_paint.specs.Scratch.{most_bytes}
use Rattle.vz_paint.proofs.{Brushing.IsReady, Bytes_of_groups.no_brushes, Bytes_of_groups.brushes_more}
use Rattle.vz_paint.proofs.brush.brushes_for.Goals as goal

pub loop-init : goal.loop-init
loop-init c = (
  search rules,
  search rules,
  search rules,
  search rules,
  no_brushes c.in_ok-brushes.brushes.items (most_bytes c.args.sheet.area c.args.sheet.deepest) c.in_ok-brushes.ensures.items,
)

pub loop-preserved : goal.loop-preserved
loop-preserved c =
    let e = c.in_ok-new.ensures in
    let ready = IsReady c.args.ops.now c.args.sheet in (
      search rules,
      search rules,
      search rules,
      subst (All ready) (sym c.push_reserved.ensures.items) (All-push ready c.loop.brushes.items c.in_ok-new.field-0 c.loop.invariant.3 (e.ops, e.sheet, e.able)),
      brushes_more c.loop.brushes.items _ c.in_ok-new.field-0 c.loop.counter (most_bytes c.args.sheet.area c.args.sheet.deepest) c.push_reserved.ensures.items e.bytes c.loop.invariant.4,
    )

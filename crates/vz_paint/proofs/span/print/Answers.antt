use Rattle.vz_paint.proofs.Opaque_texels.{hidden}
use Rattle.vz_paint.proofs.span.print.Goals as goal

pub returns-then-do_hide : goal.returns-then-do_hide
returns-then-do_hide c =
    let hides = c.do_hide.ensures c.if-do_hide.true in
    hidden c.args.mode c.args.opacity c.copy_from_slice.new.self c.args.source.now c.args.row.now hides.0 hides.1 hides.2 c.requires.same c.copy_from_slice.ensures.after

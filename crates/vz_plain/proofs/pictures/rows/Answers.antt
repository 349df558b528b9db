use Rattle.vz_plain.specs.Shown.{colour_of}
use Rattle.vz_plain.proofs.Filling.{rows_more}
use Rattle.vz_plain.proofs.pictures.rows.Goals as goal

pub loop-y-preserved : goal.loop-y-preserved
loop-y-preserved c =
    rows_more (colour_of c.args.active.now c.args.root.now) c.unsigned_abs-h.result c.unsigned_abs-w.result c.loop-y.y _ _ _
    c.loop-y-test.true c.in_ok-row.ensures c.loop-y.invariant

use Rattle.std.proofs.Common.{map}
use Rattle.std.proofs.lemmas.List.FromFn.{length-map-range_with_len}
use Rattle.vz_flat.specs.Ops.{value}
use Rattle.vz_paint.specs.Redraw.{rows_of, point_of}
use Rattle.vz_paint.proofs.Rows_behind.{band_painted}
use Rattle.vz_paint.proofs.brush.Brush.draw_band.Goals as goal

pub returns-clause-painted : goal.returns-clause-painted
returns-clause-painted c =
    let a = c.args in
    let n = a.lines in
    let ops = map (λ r. r.now) a.self.now.ops.now in
    let ground = a.self.now.sheet.ground in
    band_painted n.width n.left n.wide a.done a.count c.place-upper.result c.place-lower.result (rows_of ops ground a.start n.wide) a.pixels.now c.draw_all.new.pixels
    (λ k. length-map-range_with_len (λ i. value ops (point_of a.start k i) ground) 0 n.wide) c.requires.lines.inside c.requires.inside c.place-upper.ensures.value c.place-lower.ensures.value c.draw_all.ensures.painted

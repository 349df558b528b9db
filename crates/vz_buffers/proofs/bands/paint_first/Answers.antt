use Rattle.vz_buffers.proofs.Banding.{one_able, one_fits, one_upto, one_painted}
use Rattle.vz_buffers.proofs.bands.paint_first.Goals as goal

pub paint_band-requires-clause-able : goal.paint_band-requires-clause-able
paint_band-requires-clause-able g c =
    let a = c.args in
    one_able g.P.RowPainter.able g.P.RowPainter.strip a.place.width a.place.left a.place.wide a.band.from a.band.count a.painters.now a.pixels.now c.requires _

pub paint_band-requires-clause-fits : goal.paint_band-requires-clause-fits
paint_band-requires-clause-fits g c =
    let a = c.args in
    one_fits g.P.RowPainter.able g.P.RowPainter.strip a.place.width a.place.left a.place.wide a.band.from a.band.count a.painters.now a.pixels.now c.requires _

pub paint_band-requires-clause-upto : goal.paint_band-requires-clause-upto
paint_band-requires-clause-upto g c =
    let a = c.args in
    one_upto g.P.RowPainter.able g.P.RowPainter.strip a.place.width a.place.left a.place.wide a.band.from a.band.count a.painters.now a.pixels.now c.requires _

pub returns : goal.returns
returns g c =
    let a = c.args in
    one_painted g.P.RowPainter.able g.P.RowPainter.strip a.place.width a.place.left a.place.wide a.band.from a.band.count a.painters.now a.pixels.now c.requires _
    c.paint_band.new.pixels c.paint_band.ensures.painted

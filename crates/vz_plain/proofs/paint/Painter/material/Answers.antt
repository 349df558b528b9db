use Rattle.std.proofs.Common.{refl, subst}
use Rattle.vz_geom.specs.declared.Point.{Point}
use Rattle.vz_pixels.specs.Colour.{Colour}
use Rattle.vz_frame.specs.Blending.{laid}
use Rattle.vz_rules.specs.Paint.{tile_colour}
use Rattle.vz_plain.specs.Rows.{IsPainted}
use Rattle.vz_plain.specs.Painting.{Painter, ranges, passes_in, quad_here}
use Rattle.vz_plain.proofs.Rowed.{tile_laid, range_laid, pass_laid}
use Rattle.vz_plain.proofs.Waiting.{mapped}
use Rattle.vz_plain.proofs.paint.Painter.material.Goals as goal

pub returns-in-Tile-clause-painted : goal.returns-in-Tile-clause-painted
returns-in-Tile-clause-painted c =
    tile_laid c.args.self.now c.args.earlier.now c.args.quad.now c.in-Tile.resource c.in-Tile.tx c.in-Tile.ty c.args.first c.args.local c.args.row.now c.lay_tile.new.row c.in-Tile.is c.requires.local
    (subst (λ (s : Painter). IsPainted (λ (l : Point) (d : Colour). laid c.args.quad.now.blend (tile_colour s.submitted c.in-Tile.resource c.in-Tile.tx c.in-Tile.ty l) c.args.quad.now.opacity d) c.args.local c.args.row.now c.lay_tile.new.row) c.self.view_is c.lay_tile.ensures)

pub returns-in_ok-range-in-Surface-clause-painted : goal.returns-in_ok-range-in-Surface-clause-painted
returns-in_ok-range-in-Surface-clause-painted c =
    let p = c.args.self.now in
    let quad = c.args.quad.now in
    mapped p.active (ranges p c.in-Surface.range c.in-Surface.background quad.blend quad.opacity) (quad_here p c.args.earlier.now quad) c.args.local c.args.first c.args.row.now c.range.new.row _
    (λ new h. range_laid p c.args.earlier.now quad c.in-Surface.range c.in-Surface.background c.args.first c.args.local c.args.row.now new c.in-Surface.is c.requires.local h) c.in_ok-range-in-Surface.ensures.painted

pub returns-in_ok-named-in-Pass-clause-painted : goal.returns-in_ok-named-in-Pass-clause-painted
returns-in_ok-named-in-Pass-clause-painted c =
    let p = c.args.self.now in
    let quad = c.args.quad.now in
    mapped p.active (passes_in p c.args.earlier.now c.in-Pass.id quad.blend quad.opacity) (quad_here p c.args.earlier.now quad) c.args.local c.args.first c.args.row.now c.args.row.now _
    (λ new h. pass_laid p c.args.earlier.now quad c.in-Pass.id c.args.first c.args.local c.args.row.now new c.in-Pass.is c.requires.local h) (c.in_ok-named-in-Pass.ensures.painted c.args.row.now refl)

use Rattle.std.proofs.Common.{sym}
use Rattle.slab.specs.Slab.{with_value}
use Rattle.vz_surfaces.specs.Memory.{holding}
use Rattle.vz_surfaces.proofs.Lodging.{change_look, written}
use Rattle.vz_surfaces.proofs.table.Table.hold.Goals as goal

pub returns-clause-surfaces : goal.returns-clause-surfaces
returns-clause-surfaces c =
    change_look c.args.self.now (record { surfaces = with_value c.args.self.now.surfaces c.in-Some.key.now c.wait-index.new.surface; keys = c.args.self.now.keys }) c.requires.keyed c.args.id.now c.in-Some.key.now (holding c.args.sub c.args.frame c.args.blocks) (sym c.in-Some.ensures.value)
    (written c.args.self.now c.in-Some.key.now c.in-Some-get_mut.surface.now c.wait-index.new.surface (holding c.args.sub c.args.frame c.args.blocks) c.in-Some-get_mut.ensures.value c.wait-index.ensures.surface) (λ i. c.args.self.now.keys.entries)

use Rattle.slab.specs.Slab.{with_value}
use Rattle.vz_surfaces.specs.Memory.{raised}
use Rattle.vz_surfaces.proofs.Lodging.{change_look, written, stands_under}
use Rattle.vz_surfaces.proofs.table.Table.raise.Goals as goal

pub unreachable-requires : goal.unreachable-requires
unreachable-requires c = stands_under c.args.self.now c.requires.keyed c.args.link.now.id c.args.link.now.key c.requires.there c.in-None.ensures.value

pub returns-clause-surfaces : goal.returns-clause-surfaces
returns-clause-surfaces c =
    change_look c.args.self.now (record { surfaces = with_value c.args.self.now.surfaces c.args.link.now.key c.rise.new.surface; keys = c.args.self.now.keys }) c.requires.keyed c.args.link.now.id c.args.link.now.key raised c.requires.there
    (written c.args.self.now c.args.link.now.key c.in-Some.surface.now c.rise.new.surface raised c.in-Some.ensures.value c.rise.ensures.surface) (λ i. c.args.self.now.keys.entries)

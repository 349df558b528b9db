use Rattle.std.proofs.Common.{length, ap, sym, ◌∙◌, arith}
use Rattle.vz_surfaces.specs.Reading.{marked_to}
use Rattle.vz_surfaces.proofs.Listing.{marked_fit}
use Rattle.vz_surface_manager.proofs.Collection.{stays_whole, stays_named, none_told, listed, none_listed}
use Rattle.vz_surface_manager.proofs.surface_manager.SurfaceManager.collect.Goals as goal

pub returns-then-is_empty-clause-cleared : goal.returns-then-is_empty-clause-cleared
returns-then-is_empty-clause-cleared c w h =
    stays_whole w c.args.root c.args.self.now h
    (none_listed w c.args.self.now c.args.lists.now.marked.list c.marked.new.out.list c.as_slice.result.now h.stands c.marked.ensures.list
    c.requires.lists.none_marked c.as_slice.ensures
    (sym c.is_empty.ensures ∙ c.if-is_empty.true))

pub returns-then-is_empty-clause-named : goal.returns-then-is_empty-clause-named
returns-then-is_empty-clause-named c w h =
    stays_named w c.args.root c.args.self.now h
    (none_listed w c.args.self.now c.args.lists.now.marked.list c.marked.new.out.list c.as_slice.result.now h.stands c.marked.ensures.list
    c.requires.lists.none_marked c.as_slice.ensures
    (sym c.is_empty.ensures ∙ c.if-is_empty.true))

pub returns-then-is_empty-clause-destroyed : goal.returns-then-is_empty-clause-destroyed
returns-then-is_empty-clause-destroyed c w h =
    none_told w c.args.root c.args.self.now h
    (none_listed w c.args.self.now c.args.lists.now.marked.list c.marked.new.out.list c.as_slice.result.now h.stands c.marked.ensures.list
    c.requires.lists.none_marked c.as_slice.ensures
    (sym c.is_empty.ensures ∙ c.if-is_empty.true)) c.args.destroyed.now.list

pub destroy_all-requires-clause-room : goal.destroy_all-requires-clause-room
destroy_all-requires-clause-room c =
    omega (
      arith,
      ap length (listed c.args.lists.now.marked.list c.marked.new.out.list c.as_slice-3.result.now
          (marked_to 16 c.args.self.now.live.store) c.marked.ensures.list c.requires.lists.none_marked c.as_slice-3.ensures),
      marked_fit 16 c.args.self.now.live.store,
      c.requires.room,
    )

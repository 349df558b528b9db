use Rattle.std.proofs.Common.{ap, sym, ◌∙◌}
use Rattle.vz_surface_manager.specs.Flown.{subs_of}
use Rattle.vz_surface_manager.proofs.Packed.{names_unpacked}
use Rattle.vz_surface_manager.proofs.roster.Roster.subs.Goals as goal

pub returns : goal.returns
returns c =
    let inside = c.self.inside in
    c.as_slice.ensures
    ∙ (c.keys.ensures.rest ∙ (sym (names_unpacked inside.listings.items inside.subs.entries) ∙ ap subs_of c.self.view_is))

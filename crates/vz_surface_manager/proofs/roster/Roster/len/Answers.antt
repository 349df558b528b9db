use Rattle.std.proofs.Common.{length, ap, sym, ◌∙◌}
use Rattle.std.proofs.lemmas.List.{length-map}
use Rattle.vz_surface_manager.specs.Packed.{unpacked_one}
use Rattle.vz_surface_manager.proofs.roster.Roster.len.Goals as goal

pub returns : goal.returns
returns c =
    let inside = c.self.inside in
    c.len.ensures.len ∙ (sym (length-map inside.subs.entries (unpacked_one inside.listings.items)) ∙ ap length c.self.view_is)

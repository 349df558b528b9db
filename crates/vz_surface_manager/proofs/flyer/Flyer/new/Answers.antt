use Rattle.std.proofs.Common.{◌∙◌, sym}
use Rattle.vz_surface_manager.proofs.Rostered.{nothing_met}
use Rattle.vz_surface_manager.proofs.flyer.Flyer.new.Goals as goal

pub returns : goal.returns
returns c = c.clear.ensures ∙ sym nothing_met

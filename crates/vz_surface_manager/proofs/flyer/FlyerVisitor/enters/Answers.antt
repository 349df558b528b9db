use Rattle.std.proofs.Common.{List, [], ◌∷◌, ap, sym, ◌∙◌}
use Rattle.vz_frame.specs.{declared.frame.CompositorFrame.CompositorFrame, declared.frame.Listing.Listing}
use Rattle.vz_surfaces.specs.declared.held.Held.{Held}
use Rattle.vz_rules.specs.{Closure.adding, Walk.Enters}
use Rattle.vz_damage.proofs.Claiming.{where_ok}
use Rattle.vz_surface_manager.specs.{Rosters.same_flown, declared.flyer.Flyer.Flyer}
use Rattle.vz_surface_manager.proofs.Rostered.{meets_one}
use Rattle.vz_surface_manager.proofs.flyer.FlyerVisitor.enters.Goals as goal

pub returns : goal.returns
returns c =
    let old = c.args.self.now in
    let new : Flyer = record { roster = c.note.new.self } in
    meets_one (λ (f : Flyer). f.roster) c.is_ok.result old new (Enters _ c.args.frame.now _)
    (λ e. where_ok c.note.result _ c.note.ensures (sym c.is_ok.ensures.value ∙ e)
    ∙ (ap (λ (l : List Listing). adding same_flown old.roster ((c.held-held.result.now.sub, l) ∷ [])) c.as_slice-listings.ensures
    ∙ (ap (λ (f : CompositorFrame). adding same_flown old.roster ((c.held-held.result.now.sub, f.resources) ∷ [])) c.frame.ensures
    ∙ ap (λ (h : Held). adding same_flown old.roster ((h.sub, h.frame.resources) ∷ [])) c.held-held.ensures)))

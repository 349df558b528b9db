use Rattle.std.proofs.Common.{◌≤◌, ◌+◌, length, sym, subst}
use Rattle.vz_surface_manager.specs.Live.{AreLive}
use Rattle.vz_surface_manager.proofs.Given.{live_kept, keeps_one}
use Rattle.vz_surface_manager.proofs.live.LiveSurfaces.keep.Goals as goal

pub returns-clause-live : goal.returns-clause-live
returns-clause-live c w x always live new late =
    let h = subst (AreLive w _) (sym c.self.view_is) live in
    live_kept w x _ c.keep.new.self c.args.id c.args.until always new late c.keep.ensures.sets c.keep.ensures.temporary c.keep.ensures.spare h

pub returns-clause-few : goal.returns-clause-few
returns-clause-few c =
    let few = keeps_one c.self.inside.references.sets c.args.id c.args.until c.self.inside.references.temporary in
    subst (λ v. length c.keep.new.self.temporary ≤ length v.kept.temporary + 1) c.self.view_is (subst (λ l. length l ≤ length c.self.inside.references.temporary + 1) (sym c.keep.ensures.temporary) few)

use Rattle.std.proofs.Common.{length, ◌+◌, ◌≤◌, sym, subst}
use Rattle.vz_surface_manager.specs.Live.{Live, AreLive}
use Rattle.vz_surface_manager.proofs.Reaches.{set_there, reaches, few_reached}
use Rattle.vz_surface_manager.proofs.live.LiveSurfaces.reachable.Goals as goal

pub reachable-requires-clause-shown : goal.reachable-requires-clause-shown
reachable-requires-clause-shown c =
    let x = c.requires.live in
    set_there x.0 x.1 _ x.2 (subst (AreLive x.0 x.1) (sym c.self.view_is) x.3)

pub returns-clause-reached : goal.returns-clause-reached
returns-clause-reached c w h live named is =
    reaches w _ c.args.root c.if_exists-root.result _ h (subst (AreLive w _) (sym c.self.view_is) live) named is c.if_exists-root.ensures c.reachable.ensures.least

pub returns-clause-few : goal.returns-clause-few
returns-clause-few c =
    let x = c.requires.live in
    subst (λ (v : Live). length c.reachable.new.out.list ≤ length v.kept.sets + length v.kept.temporary + 1) c.self.view_is
    (few_reached _ _ c.if_exists-root.result _ _ (set_there x.0 x.1 _ x.2 (subst (AreLive x.0 x.1) (sym c.self.view_is) x.3)) c.reachable.ensures.least c.reachable.ensures.once)

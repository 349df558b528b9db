use Rattle.std.proofs.Common.{List, ap, sym, ◌∙◌, subst}
use Rattle.vz_walk.specs.Scenes.{scene_in, walked_in}
use Rattle.vz_surface_manager.specs.{Flown.Flown, Flown.subs_of, Rosters.flown_from, Rosters.IsRosterOf}
use Rattle.vz_surface_manager.proofs.Rostered.{walk_is_roster, drawn_names}
use Rattle.vz_surface_manager.proofs.flyer.Flyer.flight.Goals as goal

pub invariant_of-result : goal.invariant_of-result
invariant_of-result c =
    subst (λ (l : List Flown). IsRosterOf l c.args.self.roster) (sym c.of.ensures)
    (subst (λ (l : List Flown). IsRosterOf (flown_from c.args.size c.args.root.now c.args.store.now) l) (sym c.requires.met)
    (walk_is_roster c.args.size c.args.root.now c.args.store.now c.requires.keeps))

pub returns-clause-subs : goal.returns-clause-subs
returns-clause-subs c =
    ap subs_of c.of.ensures
    ∙ drawn_names (scene_in c.args.root.now c.args.store.now) (walked_in c.args.size c.args.root.now c.args.store.now)

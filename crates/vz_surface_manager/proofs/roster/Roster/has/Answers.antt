use Rattle.std.proofs.Common.{List, ap, sym, ◌∙◌}
use Rattle.vz_ids.specs.declared.Sub.{Sub}
use Rattle.vz_rules.specs.World.{has_sub}
use Rattle.vz_surface_manager.specs.Flown.{Flown, subs_of}
use Rattle.vz_surface_manager.proofs.Entries.{looked}
use Rattle.vz_surface_manager.proofs.Packed.{names_unpacked}
use Rattle.vz_surface_manager.proofs.roster.Roster.has.Goals as goal

pub returns : goal.returns
returns c =
    let inside = c.self.inside in
    c.contains_key.ensures
    ∙ (sym (looked inside.subs.entries c.args.sub.now)
    ∙ (ap (λ (l : List Sub). has_sub l c.args.sub.now) (sym (names_unpacked inside.listings.items inside.subs.entries))
    ∙ ap (λ (l : List Flown). has_sub (subs_of l) c.args.sub.now) c.self.view_is))

use Rattle.std.proofs.Common.{nat_le, subst, ap, ◌∙◌}
use Rattle.vz_surfaces.specs.declared.owners.Owner.{Owner}
use Rattle.vz_surfaces.specs.Memory.{Keeps}
use Rattle.vz_surfaces.proofs.Storing_whole.{mark_none, mark_client, mark_some}
use Rattle.vz_surfaces.proofs.store.Store.is_marked.Goals as goal

pub returns-in-None : goal.returns-in-None
returns-in-None c =
    let inside = c.self.inside in
    mark_none inside.table inside.waits inside.owners c.args.self.now c.args.id.now (subst (Keeps inside.table inside.waits inside.owners) c.self.view_is c.self.invariant.0.kept) c.in-None.ensures

pub get-requires-in-Some-clause-least : goal.get-requires-in-Some-clause-least
get-requires-in-Some-clause-least c =
    let inside = c.self.inside in
    (mark_client inside.table inside.waits inside.owners inside.told c.args.self.now inside.groups c.args.id.now c.in-Some.surface.now c.self.invariant.0 c.self.view_is c.in-Some.ensures).0

pub get-requires-in-Some-clause-most : goal.get-requires-in-Some-clause-most
get-requires-in-Some-clause-most c =
    let inside = c.self.inside in
    (mark_client inside.table inside.waits inside.owners inside.told c.args.self.now inside.groups c.args.id.now c.in-Some.surface.now c.self.invariant.0 c.self.view_is c.in-Some.ensures).1

pub returns-in-Some : goal.returns-in-Some
returns-in-Some c =
    let inside = c.self.inside in
    ap (λ (o : Owner). nat_le c.in-Some.surface.now.number o.marked_to) c.get-in-Some.ensures
    ∙ mark_some inside.table inside.waits inside.owners inside.told c.args.self.now inside.groups c.args.id.now c.in-Some.surface.now c.self.invariant.0 c.self.view_is c.in-Some.ensures

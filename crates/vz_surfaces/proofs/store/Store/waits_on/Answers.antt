use Rattle.std.proofs.Common.{subst}
use Rattle.vz_surfaces.specs.Memory.{Keeps}
use Rattle.vz_surfaces.proofs.Awaited.{waits_there, waits_alone}
use Rattle.vz_surfaces.proofs.Awaiting.{id_found, none_found}
use Rattle.vz_surfaces.proofs.store.Store.waits_on.Goals as goal

pub returns-in-None-clause-found : goal.returns-in-None-clause-found
returns-in-None-clause-found c =
    let inside = c.self.inside in
    waits_there inside.table inside.waits inside.owners c.args.self.now c.args.s _ (subst (Keeps inside.table inside.waits inside.owners) c.self.view_is c.self.invariant.0.kept) (none_found inside.waits c.args.s c.in-None.ensures)

pub returns-in-None-clause-only : goal.returns-in-None-clause-only
returns-in-None-clause-only c =
    let inside = c.self.inside in
    waits_alone inside.table inside.waits inside.owners c.args.self.now c.args.s _ (subst (Keeps inside.table inside.waits inside.owners) c.self.view_is c.self.invariant.0.kept) (none_found inside.waits c.args.s c.in-None.ensures)

pub returns-in-Some-clause-found : goal.returns-in-Some-clause-found
returns-in-Some-clause-found c =
    let inside = c.self.inside in
    waits_there inside.table inside.waits inside.owners c.args.self.now c.args.s _ (subst (Keeps inside.table inside.waits inside.owners) c.self.view_is c.self.invariant.0.kept) (id_found inside.waits c.args.s c.in-Some.surface c.in-Some.ensures)

pub returns-in-Some-clause-only : goal.returns-in-Some-clause-only
returns-in-Some-clause-only c =
    let inside = c.self.inside in
    waits_alone inside.table inside.waits inside.owners c.args.self.now c.args.s _ (subst (Keeps inside.table inside.waits inside.owners) c.self.view_is c.self.invariant.0.kept) (id_found inside.waits c.args.s c.in-Some.surface c.in-Some.ensures)

use Rattle.std.proofs.Common.{subst, ◌∙◌}
use Rattle.vz_surfaces.specs.Memory.{Keeps}
use Rattle.vz_surfaces.proofs.Awaited.{waiting_none, waiting_some}
use Rattle.vz_surfaces.proofs.store.Store.waiting.Goals as goal

pub returns-in-None : goal.returns-in-None
returns-in-None c =
    let inside = c.self.inside in
    waiting_none inside.table inside.waits inside.owners c.args.self.now c.args.id.now (subst (Keeps inside.table inside.waits inside.owners) c.self.view_is c.self.invariant.0.kept) c.in-None.ensures

pub returns-in-Some : goal.returns-in-Some
returns-in-Some c =
    let inside = c.self.inside in
    c.as_ref.ensures.value
    ∙ waiting_some inside.table inside.waits inside.owners c.args.self.now c.args.id.now c.in-Some.surface.now (subst (Keeps inside.table inside.waits inside.owners) c.self.view_is c.self.invariant.0.kept) c.in-Some.ensures

use Rattle.std.proofs.Common.{ap, ◌∙◌, is_some, subst}
use Rattle.vz_surfaces.specs.Memory.{Keeps}
use Rattle.vz_surfaces.proofs.Storing.{exists_is, some_read}
use Rattle.vz_surfaces.proofs.store.Store.exists.Goals as goal

pub returns : goal.returns
returns c =
    let inside = c.self.inside in
    c.is_some.ensures ∙ (some_read c.get.result ∙ (ap is_some c.get.ensures
    ∙ exists_is inside.table inside.waits inside.owners c.args.self.now c.args.id.now (subst (Keeps inside.table inside.waits inside.owners) c.self.view_is c.self.invariant.0.kept)))

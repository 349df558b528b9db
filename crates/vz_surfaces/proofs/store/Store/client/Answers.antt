use Rattle.std.proofs.Common.{ap, subst, ◌∙◌}
use Rattle.std.specs.Option.{option_map}
use Rattle.vz_surfaces.specs.declared.table.Surface.{Surface}
use Rattle.vz_surfaces.specs.Memory.{Keeps}
use Rattle.vz_surfaces.proofs.Storing.{client_reads}
use Rattle.vz_surfaces.proofs.store.Store.client.Goals as goal

pub returns-in-None : goal.returns-in-None
returns-in-None c =
    let inside = c.self.inside in
    ap (option_map (λ (s : Surface). s.client)) c.in-None.ensures
    ∙ client_reads inside.table inside.waits inside.owners c.args.self.now c.args.id.now (subst (Keeps inside.table inside.waits inside.owners) c.self.view_is c.self.invariant.0.kept)

pub returns-in-Some : goal.returns-in-Some
returns-in-Some c =
    let inside = c.self.inside in
    ap (option_map (λ (s : Surface). s.client)) c.in-Some.ensures
    ∙ client_reads inside.table inside.waits inside.owners c.args.self.now c.args.id.now (subst (Keeps inside.table inside.waits inside.owners) c.self.view_is c.self.invariant.0.kept)

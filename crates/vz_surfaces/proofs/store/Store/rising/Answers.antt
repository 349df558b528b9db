use Rattle.std.proofs.Common.{◌≡◌, Some, subst, sym, ◌∙◌}
use Rattle.vz_surfaces.specs.Memory.{look, Keeps}
use Rattle.vz_surfaces.proofs.Lodging.{stands_under, under_is}
use Rattle.vz_surfaces.proofs.Storing.{found_waiting, active_some}
use Rattle.vz_surfaces.proofs.Awaited.{waiting_some, waits_here}
use Rattle.vz_surfaces.proofs.Awaiting.{id_found, none_found}
use Rattle.vz_surfaces.proofs.store.Store.rising.Goals as goal

pub unreachable-requires : goal.unreachable-requires
unreachable-requires c =
    let inside = c.self.inside in
    found_waiting inside.table inside.waits inside.owners inside.told c.args.self.now c.args.s c.self.invariant.0.kept c.self.view_is c.requires (none_found inside.waits c.args.s c.in_default.ensures)

pub unreachable-requires-in_default-by_key : goal.unreachable-requires-in_default-by_key
unreachable-requires-in_default-by_key c =
    let inside = c.self.inside in
    let link = c.in-Some.link in
    stands_under inside.table c.self.invariant.0.kept.table.keyed link.id link.key (c.self.invariant.0.awaited.keys c.args.s link (sym c.in-Some.ensures)) c.in_default-by_key.ensures

pub unreachable-requires-in_default-as_ref : goal.unreachable-requires-in_default-as_ref
unreachable-requires-in_default-as_ref c =
    let inside = c.self.inside in
    let link = c.in-Some.link in
    let kept = subst (Keeps inside.table inside.waits inside.owners) c.self.view_is c.self.invariant.0.kept in
    let at = c.in-Some-by_key.ensures ∙ sym (under_is inside.table link.id link.key (c.self.invariant.0.awaited.keys c.args.s link (sym c.in-Some.ensures))) in
    waits_here inside.table inside.waits inside.owners c.args.self.now c.args.s link.id c.in-Some-by_key.surface.now kept c.requires (id_found inside.waits c.args.s link c.in-Some.ensures) at c.in_default-as_ref.ensures.value

surface_at_id : (c : goal.After-as_ref-2) → Some c.in-Some-by_key.surface.now ≡ look c.self.inside.table c.in-Some.link.id
surface_at_id c =
    let link = c.in-Some.link in
    c.in-Some-by_key.ensures ∙ sym (under_is c.self.inside.table link.id link.key (c.self.invariant.0.awaited.keys c.args.s link (sym c.in-Some.ensures)))

pub returns-clause-waiting : goal.returns-clause-waiting
returns-clause-waiting c =
    let inside = c.self.inside in
    c.in-Some-as_ref.ensures.value
    ∙ waiting_some inside.table inside.waits inside.owners c.args.self.now c.in-Some.link.id c.in-Some-by_key.surface.now (subst (Keeps inside.table inside.waits inside.owners) c.self.view_is c.self.invariant.0.kept) (surface_at_id c)

pub returns-clause-active : goal.returns-clause-active
returns-clause-active c =
    let inside = c.self.inside in
    c.as_ref-2.ensures.value
    ∙ active_some inside.table inside.waits inside.owners c.args.self.now c.in-Some.link.id c.in-Some-by_key.surface.now (subst (Keeps inside.table inside.waits inside.owners) c.self.view_is c.self.invariant.0.kept) (surface_at_id c)

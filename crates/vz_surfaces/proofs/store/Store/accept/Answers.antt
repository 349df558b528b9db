use Rattle.std.proofs.Common.{◌≡◌, ◌+◌, false, Some, None, length, refl, ap, sym, ◌∙◌, subst, cond}
use Rattle.std.specs.Option.{option_map}
use Rattle.vz_surfaces.specs.declared.held.Held.{Held}
use Rattle.vz_surfaces.specs.Numbers.{KeepsLists}
use Rattle.vz_surfaces.proofs.Listing.{lists_alike}
use Rattle.vz_surfaces.specs.Chains.{Stands, KeepsGroups, KeepsLinks, KeepsAwaited}
use Rattle.vz_ids.specs.declared.SurfaceId.{SurfaceId}
use Rattle.vz_frame.specs.declared.frame.CompositorFrame.{CompositorFrame}
use Rattle.vz_frame.specs.Frame.{frame_size}
use Rattle.vz_surfaces.specs.Memory.{Keeps, KeepsMarks, key_at, look, is_key, holding, is_named_last, waiting_on}
use Rattle.vz_surfaces.proofs.Lodging.{same_keyed, keys_same, no_key}
use Rattle.vz_surfaces.proofs.Linking.{chain_more, links_same, links_more}
use Rattle.vz_surfaces.proofs.Awaiting.{ids_found, awaited_accepted}
use Rattle.std.specs.Map.{lookup}
use Rattle.vz_surfaces.proofs.Holding.{IsHeldAt, open_new, few_before, held_before, accepted_keeps, accepted_groups, accepted_marks, accepted_lists}
use Rattle.vz_surfaces.proofs.Storing.{stored_more}
use Rattle.vz_surfaces.proofs.Storing_whole.{stands_still}
use Rattle.vz_surfaces.proofs.store.Store.accept.Goals as goal

pub open-requires-clause-keyed : goal.open-requires-clause-keyed
open-requires-clause-keyed c =
    same_keyed c.self.inside.table c.grow.new.table c.in-Ok-grow.ensures.table c.self.invariant.0.kept.table.keyed

pub open-requires-clause-new : goal.open-requires-clause-new
open-requires-clause-new c =
    let inside = c.self.inside in
    let kept = subst (Keeps inside.table inside.waits inside.owners) c.self.view_is c.self.invariant.0.kept in
    open_new c.args.self.now c.args.c c.args.sink c.args.local c.requires.keeps c.requires.number c.requires.sink c.requires.goes_on inside.table c.grow.new.table inside.waits inside.owners c.is_last-last.result kept c.in-Ok-grow.ensures.table
    (c.is_last-last.ensures ∙ ap (λ o. is_named_last o.last c.args.local) c.get-owner.ensures)

pub open-requires-clause-few : goal.open-requires-clause-few
open-requires-clause-few c =
    let inside = c.self.inside in
    let kept = subst (Keeps inside.table inside.waits inside.owners) c.self.view_is c.self.invariant.0.kept in
    few_before c.args.self.now c.args.c c.args.sink c.args.local c.requires.keeps c.requires.number c.requires.sink c.requires.goes_on inside.owners c.get-owner.result _ kept.owners c.get-owner.ensures c.requires.few

pub counting-requires-clause-created : goal.counting-requires-clause-created
counting-requires-clause-created c =
    let inside = c.self.inside in
    let kept = subst (Keeps inside.table inside.waits inside.owners) c.self.view_is c.self.invariant.0.kept in
    few_before c.args.self.now c.args.c c.args.sink c.args.local c.requires.keeps c.requires.number c.requires.sink c.requires.goes_on inside.owners c.get-owner.result _ kept.owners c.get-owner.ensures c.requires.few

held : (c : goal.After-id-1) → IsHeldAt c.args.self.now (record { sink = c.args.sink; local = c.args.local }) (look c.open.new.self (record { sink = c.args.sink; local = c.args.local })) 4294967295
held c =
    let inside = c.self.inside in
    let kept = subst (Keeps inside.table inside.waits inside.owners) c.self.view_is c.self.invariant.0.kept in
    held_before c.args.self.now c.args.c c.args.sink c.args.local c.requires.keeps c.requires.number c.requires.sink c.requires.goes_on inside.table c.grow.new.table c.open.new.self inside.waits inside.owners c.is_last-last.result c.get-owner.result.created 4294967295
    kept c.in-Ok-grow.ensures.table (c.is_last-last.ensures ∙ ap (λ o. is_named_last o.last c.args.local) c.get-owner.ensures) c.requires.exists c.requires.few c.open.ensures.surfaces

held_after : (c : goal.After-set) → IsHeldAt c.args.self.now (record { sink = c.args.sink; local = c.args.local }) (look c.open.new.self (record { sink = c.args.sink; local = c.args.local })) 4294967295
held_after c =
    let inside = c.self.inside in
    let kept = subst (Keeps inside.table inside.waits inside.owners) c.self.view_is c.self.invariant.0.kept in
    held_before c.args.self.now c.args.c c.args.sink c.args.local c.requires.keeps c.requires.number c.requires.sink c.requires.goes_on inside.table c.grow.new.table c.open.new.self inside.waits inside.owners c.is_last-last.result c.get-owner.result.created 4294967295
    kept c.in-Ok-grow.ensures.table (c.is_last-last.ensures ∙ ap (λ o. is_named_last o.last c.args.local) c.get-owner.ensures) c.requires.exists c.requires.few c.open.ensures.surfaces

pub hold-index-requires : goal.hold-index-requires
hold-index-requires c = let h = held c in record { keyed = c.open.ensures.keyed; there = (h.surface, h.is, h.few) }

pub returns-clause-ok : goal.returns-clause-ok
returns-clause-ok c =
    stored_more c.self.inside.told c.note-acceptance.new.told _ c.args.self.now c.note-acceptance.ensures.told c.self.view_is

pub returns-clause-index : goal.returns-clause-index
returns-clause-index c =
    let h = held_after c in c.hold-index.ensures.index h.surface h.is ∙ ap (λ n. n + 1) h.accepted

pub returns-clause-replaced : goal.returns-clause-replaced
returns-clause-replaced c = let h = held_after c in c.hold-index.ensures.replaced h.surface h.is ∙ h.held

-- what is held is the frame, whose names are followed beside it
held_so : (c : goal.After-set) → (q : SurfaceId)
    → look c.hold-index.new.self q
    ≡ cond (is_key (record { sink = c.args.sink; local = c.args.local }) q)
    (option_map (holding (record { client = c.args.c; ordinal = c.get-owner.result.accepted + 1 }) c.note-acceptance.result.frame c.note-acceptance.result.blocks) (look c.open.new.self q)) (look c.open.new.self q)
held_so c q =
    c.hold-index.ensures.surfaces q
    ∙ ap (λ (f : CompositorFrame). cond (is_key (record { sink = c.args.sink; local = c.args.local }) q)
    (option_map (holding (record { client = c.args.c; ordinal = c.get-owner.result.accepted + 1 }) f c.note-acceptance.result.blocks) (look c.open.new.self q)) (look c.open.new.self q)) c.new-frame.ensures

waited : (c : goal.After-set) → c.sub_of-waited.result ≡ waiting_on c.args.self.now (record { sink = c.args.sink; local = c.args.local })
waited c =
    let h = held_after c in
    c.sub_of-waited.ensures ∙ (ap (option_map (λ (x : Held). x.sub)) (c.hold-index.ensures.replaced h.surface h.is) ∙ h.waiting)

-- the surface has no key before it is made
fresh : (c : goal.After-set) → c.is_last-last.result ≡ false → key_at c.grow.new.table (record { sink = c.args.sink; local = c.args.local }) ≡ None
fresh c e =
    let inside = c.self.inside in
    let grown = c.grow.new.table in
    let same = c.in-Ok-grow.ensures.table in
    let kept = subst (Keeps inside.table inside.waits inside.owners) c.self.view_is c.self.invariant.0.kept in
    no_key grown (same_keyed inside.table grown same c.self.invariant.0.kept.table.keyed) (record { sink = c.args.sink; local = c.args.local })
    (open_new c.args.self.now c.args.c c.args.sink c.args.local c.requires.keeps c.requires.number c.requires.sink c.requires.goes_on inside.table grown inside.waits inside.owners c.is_last-last.result kept same
    (c.is_last-last.ensures ∙ ap (λ o. is_named_last o.last c.args.local) c.get-owner.ensures) e)

-- and then that of what waits on it
awaited_after : (c : goal.After-set) → KeepsAwaited c.hold-index.new.self c.put.new.self
awaited_after c =
    let inside = c.self.inside in
    let grown = c.grow.new.table in
    awaited_accepted inside.table grown c.hold-index.new.self inside.waits c.grow.new.waits c.remove.new.self c.put.new.self c.is_last-last.result (record { sink = c.args.sink; local = c.args.local })
    c.hold-index.result.2 grown.surfaces.vacant_key (record { client = c.args.c; ordinal = c.get-owner.result.accepted + 1 }) c.sub_of-waited.result (keys_same inside.table grown c.in-Ok-grow.ensures.table)
    c.in-Ok-grow.ensures.waits (fresh c) (λ q. ap (lookup (is_key q)) c.hold-index.ensures.keys ∙ c.open.ensures.keys q) c.hold-index.ensures.key
    c.remove.ensures.none c.remove.ensures.others c.put.ensures c.self.invariant.0.awaited

-- the new surface's link has its key
links_after : (c : goal.After-set) → KeepsLinks c.hold-index.new.self c.grow.new.groups
links_after c =
    let inside = c.self.inside in
    let id : SurfaceId = record { sink = c.args.sink; local = c.args.local } in
    let grown = c.grow.new.table in
    let same = c.in-Ok-grow.ensures.table in
    links_more grown c.hold-index.new.self inside.groups c.grow.new.groups c.is_last-last.result id grown.surfaces.vacant_key (fresh c)
    (λ q. ap (lookup (is_key q)) c.hold-index.ensures.keys ∙ c.open.ensures.keys q) c.in-Ok-grow.ensures.chain
    (links_same inside.table grown inside.groups inside.groups (keys_same inside.table grown same) (λ q. refl) c.self.invariant.0.links)

pub invariant_of-self-2 : goal.invariant_of-self-2
invariant_of-self-2 c =
    let inside = c.self.inside in
    let kept = subst (Keeps inside.table inside.waits inside.owners) c.self.view_is c.self.invariant.0.kept in (
      subst (Stands c.hold-index.new.self c.put.new.self c.set.new.self c.grow.new.groups) (sym (returns-clause-ok c))
          (record {
            kept = accepted_keeps c.args.self.now c.args.c c.args.sink c.args.local c.requires.keeps c.requires.number c.requires.sink c.requires.goes_on c.args.frame c.args.blocks inside.table c.grow.new.table c.open.new.self
                c.hold-index.new.self inside.waits c.grow.new.waits c.remove.new.self c.put.new.self inside.owners c.set.new.self c.get-owner.result c.counting.result c.is_last-last.result c.size-size.result c.note-acceptance.result
                c.sub_of-waited.result kept c.in-Ok-grow.ensures.table c.in-Ok-grow.ensures.waits (c.size-size.ensures ∙ ap frame_size c.as_frame-2.ensures) c.get-owner.ensures c.is_last-last.ensures c.note-acceptance.ensures.back
                c.open.ensures.surfaces c.open.ensures.len (held_so c) (ap length c.hold-index.ensures.keys) c.hold-index.ensures.keyed (waited c) c.remove.ensures.none (λ s e. ids_found c.grow.new.waits c.remove.new.self s None (c.remove.ensures.others s e))
                (ids_found c.remove.new.self c.put.new.self (record { client = c.args.c; ordinal = c.get-owner.result.accepted + 1 })
                (Some (record { id = record { sink = c.args.sink; local = c.args.local }; key = c.hold-index.result.2 })) c.put.ensures) c.counting.ensures c.set.ensures.owners;
            groups = accepted_groups c.args.self.now c.args.c c.args.sink c.args.local c.requires.keeps c.requires.number c.requires.sink c.requires.goes_on c.args.frame c.args.blocks inside.owners c.get-owner.result inside.groups c.grow.new.groups
                c.is_last-last.result kept.owners (subst (KeepsGroups inside.groups) c.self.view_is c.self.invariant.0.groups) c.get-owner.ensures c.is_last-last.ensures (chain_more inside.groups c.grow.new.groups c.is_last-last.result (record { id = record { sink = c.args.sink; local = c.args.local }; key = c.grow.new.table.surfaces.vacant_key }) c.in-Ok-grow.ensures.chain) c.in-Ok-grow.ensures.newest;
            links = links_after c;
            awaited = awaited_after c;
            marking = c.set.ensures.marking c.self.invariant.0.marking;
            marks = accepted_marks c.args.self.now c.args.c c.args.sink c.args.local c.requires.keeps c.requires.number c.requires.sink c.requires.goes_on c.args.frame c.args.blocks inside.owners c.set.new.self c.is_last-last.result
                c.size-size.result c.get-owner.result c.counting.result kept.owners (subst (KeepsMarks inside.owners) c.self.view_is c.self.invariant.0.marks) c.get-owner.ensures c.is_last-last.ensures c.counting.ensures c.set.ensures.owners;
          }),
      subst (KeepsLists c.open-2.new.self) (sym (returns-clause-ok c))
          (accepted_lists c.args.self.now c.args.c c.args.sink c.args.local c.requires.keeps c.requires.number c.requires.sink c.requires.goes_on c.args.frame c.args.blocks inside.owners c.get-owner.result inside.standing c.grow.new.standing c.open-2.new.self
          c.is_last-last.result kept.owners (subst (KeepsMarks inside.owners) c.self.view_is c.self.invariant.0.marks) (subst (KeepsLists inside.standing) c.self.view_is c.self.invariant.1) c.get-owner.ensures c.is_last-last.ensures c.in-Ok-grow.ensures.lists c.open-2.ensures),
    )

pub invariant_of-self : goal.invariant_of-self
invariant_of-self c =
    let inside = c.self.inside in (
      stands_still inside.table c.grow.new.table inside.waits c.grow.new.waits inside.owners inside.groups c.grow.new.groups _ c.self.invariant.0 c.in_default-grow.ensures.table c.in_default-grow.ensures.waits c.in_default-grow.ensures.err c.in_default-grow.ensures.newest,
      lists_alike inside.standing c.grow.new.standing _ c.in_default-grow.ensures.lists c.self.invariant.1,
    )

pub open-requires-2-clause-few : goal.open-requires-2-clause-few
open-requires-2-clause-few c =
    let inside = c.self.inside in
    let kept = subst (Keeps inside.table inside.waits inside.owners) c.self.view_is c.self.invariant.0.kept in
    few_before c.args.self.now c.args.c c.args.sink c.args.local c.requires.keeps c.requires.number c.requires.sink c.requires.goes_on inside.owners c.get-owner.result _ kept.owners c.get-owner.ensures c.requires.few

use Rattle.std.proofs.Common.{◌+◌, ◌≤◌, ap, sym, ◌∙◌, subst, length, arith}
use Rattle.vz_frame.specs.{declared.frame.CompositorFrame.CompositorFrame, Frame.root_damage}
use Rattle.vz_surfaces.specs.Reading.{existing_count}
use Rattle.vz_returns.specs.Lent.{resources_out}
use Rattle.vz_surface_manager.specs.{Live.Live, Acceptance.IsAccepting, Acceptance.HasRoomFor}
use Rattle.vz_surface_manager.proofs.{Live_kept.got, Fewer.one_created}
use Rattle.vz_surface_manager.proofs.Arrived.{number_is, keeps_store, good, stands_there, few, sink_is, is_lender, listed_is, replaced_is, is_accepted, room_for, name_is, index_is, next_is, unplaced, few_owed, ended, replaced_name, wants_less, live_accepted}
use Rattle.vz_surface_manager.proofs.live.LiveSurfaces.accept.Goals as goal

pub accept-requires-clause-number : goal.accept-requires-clause-number
accept-requires-clause-number c =
    let x = c.requires.accepts in
    number_is x.0 x.1 x.2 c.args.client c.args.sink c.args.local c.args.frame c.args.blocks _ x.3

pub accept-requires-clause-keeps : goal.accept-requires-clause-keeps
accept-requires-clause-keeps c =
    let x = c.requires.accepts in
    keeps_store x.0 x.1 x.2 c.args.client c.args.sink c.args.local c.args.frame c.args.blocks _ (subst (IsAccepting x.0 x.1 x.2 c.args.client c.args.sink c.args.local c.args.frame c.args.blocks) (sym c.self.view_is) x.3)

pub accept-requires-clause-sink : goal.accept-requires-clause-sink
accept-requires-clause-sink c =
    let x = c.requires.accepts in
    sink_is x.0 x.1 x.2 c.args.client c.args.sink c.args.local c.args.frame c.args.blocks _ (subst (IsAccepting x.0 x.1 x.2 c.args.client c.args.sink c.args.local c.args.frame c.args.blocks) (sym c.self.view_is) x.3)

pub accept-requires-clause-goes_on : goal.accept-requires-clause-goes_on
accept-requires-clause-goes_on c =
    let x = c.requires.accepts in
    good x.0 x.1 x.2 c.args.client c.args.sink c.args.local c.args.frame c.args.blocks _ (subst (IsAccepting x.0 x.1 x.2 c.args.client c.args.sink c.args.local c.args.frame c.args.blocks) (sym c.self.view_is) x.3)

pub accept-requires-clause-exists : goal.accept-requires-clause-exists
accept-requires-clause-exists c =
    let x = c.requires.accepts in
    stands_there x.0 x.1 x.2 c.args.client c.args.sink c.args.local c.args.frame c.args.blocks _ (subst (IsAccepting x.0 x.1 x.2 c.args.client c.args.sink c.args.local c.args.frame c.args.blocks) (sym c.self.view_is) x.3)

pub accept-requires-clause-few : goal.accept-requires-clause-few
accept-requires-clause-few c =
    let x = c.requires.accepts in
    few x.0 x.1 x.2 c.args.client c.args.sink c.args.local c.args.frame c.args.blocks _ (subst (IsAccepting x.0 x.1 x.2 c.args.client c.args.sink c.args.local c.args.frame c.args.blocks) (sym c.self.view_is) x.3)

pub accepted-requires-clause-known : goal.accepted-requires-clause-known
accepted-requires-clause-known c =
    let x = c.requires.accepts in
    is_lender x.0 x.1 x.2 c.args.client c.args.sink c.args.local c.args.frame c.args.blocks _ (subst (IsAccepting x.0 x.1 x.2 c.args.client c.args.sink c.args.local c.args.frame c.args.blocks) (sym c.self.view_is) x.3)

pub accepted-requires-clause-accepted : goal.accepted-requires-clause-accepted
accepted-requires-clause-accepted c =
    let x = c.requires.accepts in
    let h = subst (IsAccepting x.0 x.1 x.2 c.args.client c.args.sink c.args.local c.args.frame c.args.blocks) (sym c.self.view_is) x.3 in (
      x.0,
      x.1,
      x.2,
      c.args.local,
      c.args.frame,
      is_accepted x.0 x.1 x.2 c.args.client c.args.sink c.args.local c.args.frame c.args.blocks _ h c.listings_of.result.now c.listings_of-2.result.now _
          (listed_is x.0 x.1 x.2 c.args.client c.args.sink c.args.local c.args.frame c.args.blocks _ h c.accept.new.self _ c.listings_of.result.now c.in-Ok.ensures.ok c.waiting.ensures c.listings_of.ensures)
          (replaced_is x.0 x.1 x.2 c.args.client c.args.sink c.args.local c.args.frame c.args.blocks _ h _ c.in-Ok.taken.replaced c.as_ref-replaced.ensures.value c.in-Ok.ensures.replaced) c.listings_of-2.ensures,
    )

pub accepted-requires-clause-room : goal.accepted-requires-clause-room
accepted-requires-clause-room c =
    let x = c.requires.accepts in
    let h = subst (IsAccepting x.0 x.1 x.2 c.args.client c.args.sink c.args.local c.args.frame c.args.blocks) (sym c.self.view_is) x.3 in
    let room = subst (HasRoomFor c.args.client (length c.args.frame.resources) (length c.args.frame.metadata.references)) (sym c.self.view_is) c.requires.room in
    room_for x.0 x.1 x.2 c.args.client c.args.sink c.args.local c.args.frame c.args.blocks _ h c.listings_of.result.now
    (listed_is x.0 x.1 x.2 c.args.client c.args.sink c.args.local c.args.frame c.args.blocks _ h c.accept.new.self _ c.listings_of.result.now c.in-Ok.ensures.ok c.waiting.ensures c.listings_of.ensures) room.lent

pub accept-requires-2-clause-new : goal.accept-requires-2-clause-new
accept-requires-2-clause-new c =
    let x = c.requires.accepts in
    let h = subst (IsAccepting x.0 x.1 x.2 c.args.client c.args.sink c.args.local c.args.frame c.args.blocks) (sym c.self.view_is) x.3 in
    unplaced x.0 x.1 x.2 c.args.client c.args.sink c.args.local c.args.frame c.args.blocks _ h c.in-Ok.taken.sub
    (name_is x.0 x.1 x.2 c.args.client c.args.sink c.args.local c.args.frame c.args.blocks _ h c.in-Ok.taken.sub c.in-Ok.ensures.sub)

pub accept-requires-2-clause-few : goal.accept-requires-2-clause-few
accept-requires-2-clause-few c =
    let x = c.requires.accepts in
    few_owed x.0 x.1 x.2 c.args.client c.args.sink c.args.local c.args.frame c.args.blocks _ (subst (IsAccepting x.0 x.1 x.2 c.args.client c.args.sink c.args.local c.args.frame c.args.blocks) (sym c.self.view_is) x.3)

pub accepted-requires-2 : goal.accepted-requires-2
accepted-requires-2 c =
    let x = c.requires.accepts in
    let h = subst (IsAccepting x.0 x.1 x.2 c.args.client c.args.sink c.args.local c.args.frame c.args.blocks) (sym c.self.view_is) x.3 in
    next_is x.0 x.1 x.2 c.args.client c.args.sink c.args.local c.args.frame c.args.blocks _ h c.in-Ok.taken.index c.in-Ok.ensures.index

pub overflow_sub-self : goal.overflow_sub-self
overflow_sub-self c =
    let x = c.requires.accepts in
    let h = subst (IsAccepting x.0 x.1 x.2 c.args.client c.args.sink c.args.local c.args.frame c.args.blocks) (sym c.self.view_is) x.3 in
    wants_less x.0 x.1 x.2 c.args.client c.args.sink c.args.local c.args.frame c.args.blocks _ h c.wanted_by.result (length c.as_slice.result.now + 1) _
    (replaced_is x.0 x.1 x.2 c.args.client c.args.sink c.args.local c.args.frame c.args.blocks _ h _ c.in-Ok.taken.replaced c.as_ref-replaced.ensures.value c.in-Ok.ensures.replaced) c.wanted_by.ensures

pub returns-clause-live : goal.returns-clause-live
returns-clause-live c p w x arrives =
    let h = subst (IsAccepting p w x c.args.client c.args.sink c.args.local c.args.frame c.args.blocks) (sym c.self.view_is) arrives in
    let room = subst (HasRoomFor c.args.client (length c.args.frame.resources) (length c.args.frame.metadata.references)) (sym c.self.view_is) c.requires.room in
    let listed = listed_is p w x c.args.client c.args.sink c.args.local c.args.frame c.args.blocks _ h c.accept.new.self _ c.listings_of.result.now c.in-Ok.ensures.ok c.waiting.ensures c.listings_of.ensures in
    let replaced = replaced_is p w x c.args.client c.args.sink c.args.local c.args.frame c.args.blocks _ h _ c.in-Ok.taken.replaced c.as_ref-replaced.ensures.value c.in-Ok.ensures.replaced in
    live_accepted p w x c.args.client c.args.sink c.args.local c.args.frame c.args.blocks _ h c.accept.new.self c.accepted.new.self c.accept-2.new.self c.accepted-2.new.self c.root_damage-damage.result (length c.as_slice.result.now) c.wanted_by.result _
    c.in-Ok.ensures.ok
    (c.accepted.ensures.lent p w x c.args.local c.args.frame
    (is_accepted p w x c.args.client c.args.sink c.args.local c.args.frame c.args.blocks _ h c.listings_of.result.now c.listings_of-2.result.now _ listed replaced c.listings_of-2.ensures))
    (c.accept-2.ensures.owed w x c.args.local c.args.frame h.keeps.always h.live.owed
    (name_is p w x c.args.client c.args.sink c.args.local c.args.frame c.args.blocks _ h c.in-Ok.taken.sub c.in-Ok.ensures.sub)
    (ended p w x c.args.client c.args.sink c.args.local c.args.frame c.args.blocks _ h _ c.ended_in.result replaced c.ended_in.ensures))
    (got _ _ _ c.unwrap.ensures c.accepted-2.ensures.told) (c.root_damage-damage.ensures ∙ ap root_damage c.as_frame.ensures) c.accepted-2.ensures.others c.accepted-2.ensures.last
    replaced c.wanted_by.ensures (ap length (c.as_slice.ensures ∙ ap (λ (f : CompositorFrame). f.metadata.references) c.as_frame-2.ensures)) room.wanted

pub returns-clause-sub : goal.returns-clause-sub
returns-clause-sub c p w x arrives =
    let h = subst (IsAccepting p w x c.args.client c.args.sink c.args.local c.args.frame c.args.blocks) (sym c.self.view_is) arrives in
    name_is p w x c.args.client c.args.sink c.args.local c.args.frame c.args.blocks _ h c.in-Ok.taken.sub c.in-Ok.ensures.sub

pub returns-clause-index : goal.returns-clause-index
returns-clause-index c p w x arrives =
    let h = subst (IsAccepting p w x c.args.client c.args.sink c.args.local c.args.frame c.args.blocks) (sym c.self.view_is) arrives in
    index_is p w x c.args.client c.args.sink c.args.local c.args.frame c.args.blocks _ h c.in-Ok.taken.index c.in-Ok.ensures.index

pub returns-clause-replaced : goal.returns-clause-replaced
returns-clause-replaced c p w x arrives =
    let h = subst (IsAccepting p w x c.args.client c.args.sink c.args.local c.args.frame c.args.blocks) (sym c.self.view_is) arrives in
    replaced_name p w x c.args.client c.args.sink c.args.local c.args.frame c.args.blocks _ h c.name_of.result _ c.name_of.ensures
    (replaced_is p w x c.args.client c.args.sink c.args.local c.args.frame c.args.blocks _ h _ c.in-Ok.taken.replaced c.as_ref-replaced.ensures.value c.in-Ok.ensures.replaced)

pub returns-clause-out : goal.returns-clause-out
returns-clause-out c =
    let x = c.requires.accepts in
    let h = subst (IsAccepting x.0 x.1 x.2 c.args.client c.args.sink c.args.local c.args.frame c.args.blocks) (sym c.self.view_is) x.3 in
    let listed = listed_is x.0 x.1 x.2 c.args.client c.args.sink c.args.local c.args.frame c.args.blocks _ h c.accept.new.self _ c.listings_of.result.now c.in-Ok.ensures.ok c.waiting.ensures c.listings_of.ensures in
    omega (arith, c.accepted.ensures.out, ap length listed, ap (λ v. resources_out v.lent) c.self.view_is)

pub returns-clause-surfaces : goal.returns-clause-surfaces
returns-clause-surfaces c =
    subst (λ (v : Live). existing_count c.accept.new.self ≤ existing_count v.store + 1) c.self.view_is
    (one_created c.args.client c.args.sink c.args.local c.args.frame c.args.blocks _ _ c.in-Ok.ensures.ok)

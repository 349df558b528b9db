use Rattle.std.proofs.Common.{sym, subst}
use Rattle.vz_surface_manager.specs.Changes.{IsGoing}
use Rattle.vz_surface_manager.proofs.Gone.{client_is, none_missing, is_lender, waits_is, acts_is, releases, wants_less, keeps, stands_there, waiting_is, acting_is, ends_name, acts_name, lost_is, live_gone, named_gone}
use Rattle.vz_surface_manager.proofs.live.LiveSurfaces.go.Goals as goal

pub unreachable-requires : goal.unreachable-requires
unreachable-requires c =
    let x = c.requires.goes in
    none_missing x.0 x.1 c.args.id.now _ (subst (IsGoing x.0 x.1 c.args.id.now) (sym c.self.view_is) x.2) c.in_default.ensures

pub dropped-requires-clause-known : goal.dropped-requires-clause-known
dropped-requires-clause-known c =
    let x = c.requires.goes in
    let h = subst (IsGoing x.0 x.1 c.args.id.now) (sym c.self.view_is) x.2 in
    is_lender x.0 x.1 c.args.id.now _ h c.in-Some.client (client_is x.0 x.1 c.args.id.now _ h c.in-Some.client c.in-Some.ensures)

pub dropped-requires-clause-goes : goal.dropped-requires-clause-goes
dropped-requires-clause-goes c =
    let x = c.requires.goes in
    let h = subst (IsGoing x.0 x.1 c.args.id.now) (sym c.self.view_is) x.2 in (
      x.0,
      x.1,
      releases x.0 x.1 c.args.id.now _ h c.in-Some.client _ _ c.listings_of.result.now c.listings_of-2.result.now
          (client_is x.0 x.1 c.args.id.now _ h c.in-Some.client c.in-Some.ensures) (waits_is x.0 x.1 c.args.id.now _ h _ c.waiting-waiting.ensures)
          (acts_is x.0 x.1 c.args.id.now _ h _ c.active-active.ensures) c.listings_of.ensures c.listings_of-2.ensures,
    )

pub overflow_sub-self : goal.overflow_sub-self
overflow_sub-self c =
    let x = c.requires.goes in
    let h = subst (IsGoing x.0 x.1 c.args.id.now) (sym c.self.view_is) x.2 in
    wants_less x.0 x.1 c.args.id.now _ h c.wanted_by.result _ (waits_is x.0 x.1 c.args.id.now _ h _ c.waiting-waiting.ensures) c.wanted_by.ensures

pub destroy-requires-2-clause-keeps : goal.destroy-requires-2-clause-keeps
destroy-requires-2-clause-keeps c =
    let x = c.requires.goes in
    keeps x.0 x.1 c.args.id.now _ (subst (IsGoing x.0 x.1 c.args.id.now) (sym c.self.view_is) x.2)

pub destroy-requires-2-clause-exists : goal.destroy-requires-2-clause-exists
destroy-requires-2-clause-exists c =
    let x = c.requires.goes in
    stands_there x.0 x.1 c.args.id.now _ (subst (IsGoing x.0 x.1 c.args.id.now) (sym c.self.view_is) x.2)

pub returns-clause-live : goal.returns-clause-live
returns-clause-live c w d x =
    let h = subst (IsGoing w d c.args.id.now) (sym c.self.view_is) x in
    let waits = waits_is w d c.args.id.now _ h _ c.waiting-waiting.ensures in
    let acts = acts_is w d c.args.id.now _ h _ c.active-active.ensures in
    live_gone w d c.args.id.now _ h c.destroy-2.new.self c.dropped.new.self c.destroy.new.self c.remove.new.self c.destroyed.new.self c.wanted_by.result _
    waits c.wanted_by.ensures c.destroy-2.ensures.destroyed
    (c.dropped.ensures.lent w d (releases w d c.args.id.now _ h c.in-Some.client _ _ c.listings_of.result.now c.listings_of-2.result.now
    (client_is w d c.args.id.now _ h c.in-Some.client c.in-Some.ensures) waits acts c.listings_of.ensures c.listings_of-2.ensures))
    (c.destroy.ensures.owed w d h.always h.live.owed (waiting_is w d c.args.id.now _ h _ c.ended_in.result waits c.ended_in.ensures)
    (acting_is w d c.args.id.now _ h _ c.ended_in-2.result acts c.ended_in-2.ensures))
    c.remove.ensures.sets c.remove.ensures.temporary c.remove.ensures.spare c.destroyed.ensures.none c.destroyed.ensures.others c.destroyed.ensures.last

pub returns-clause-named : goal.returns-clause-named
returns-clause-named c w d x = named_gone w d c.args.id.now _ (subst (IsGoing w d c.args.id.now) (sym c.self.view_is) x)

pub returns-clause-lost : goal.returns-clause-lost
returns-clause-lost c w d x =
    lost_is w d c.args.id.now _ (subst (IsGoing w d c.args.id.now) (sym c.self.view_is) x) c.destroy-2.result.lost c.destroy-2.ensures.lost

pub returns-clause-waiting : goal.returns-clause-waiting
returns-clause-waiting c w d x =
    ends_name w d c.args.id.now _ (subst (IsGoing w d c.args.id.now) (sym c.self.view_is) x) c.destroy-2.result.waiting c.destroy-2.ensures.waiting

pub returns-clause-active : goal.returns-clause-active
returns-clause-active c w d x =
    acts_name w d c.args.id.now _ (subst (IsGoing w d c.args.id.now) (sym c.self.view_is) x) c.destroy-2.result.active c.destroy-2.ensures.active

use Rattle.std.proofs.Common.{◌+◌, ◌≤◌, length, ap, sym, ◌∙◌, subst}
use Rattle.vz_frame.specs.declared.frame.CompositorFrame.{CompositorFrame}
use Rattle.vz_surface_manager.specs.{Live.Live, Changes.IsRising}
use Rattle.vz_surface_manager.proofs.{Live_kept.got, Set_counts.one_set, Set_counts.none_more}
use Rattle.vz_surface_manager.proofs.Risen.{id_is, acts_is, releases, is_lender, ranges_are, wants_less, fits, keeps, waits_there, past_is, live_risen}
use Rattle.vz_surface_manager.proofs.live.LiveSurfaces.rise.Goals as goal

pub rising-requires : goal.rising-requires
rising-requires c =
    let x = c.requires.rises in
    waits_there x.0 x.1 x.2 c.args.sub _ (subst (IsRising x.0 x.1 x.2 c.args.sub) (sym c.self.view_is) x.3)

pub past-requires-clause-known : goal.past-requires-clause-known
past-requires-clause-known c =
    let x = c.requires.rises in
    is_lender x.0 x.1 x.2 c.args.sub _ (subst (IsRising x.0 x.1 x.2 c.args.sub) (sym c.self.view_is) x.3)

pub past-requires-clause-rises : goal.past-requires-clause-rises
past-requires-clause-rises c =
    let x = c.requires.rises in
    let h = subst (IsRising x.0 x.1 x.2 c.args.sub) (sym c.self.view_is) x.3 in
    let id = id_is x.0 x.1 x.2 c.args.sub _ h c.rising.result.id c.rising.ensures.surface in (
      x.0,
      x.2,
      releases x.0 x.1 x.2 c.args.sub _ h _ c.listings_of.result.now (acts_is x.0 x.1 x.2 c.args.sub _ h _ c.rising.result.id id c.rising.ensures.active) c.listings_of.ensures,
    )

pub unwrap-requires : goal.unwrap-requires
unwrap-requires c =
    let x = c.requires.rises in
    let h = subst (IsRising x.0 x.1 x.2 c.args.sub) (sym c.self.view_is) x.3 in
    let id = id_is x.0 x.1 x.2 c.args.sub _ h c.rising.result.id c.rising.ensures.surface in
    c.set.ensures.succeeds
    (fits x.0 x.1 x.2 c.args.sub _ h c.as_slice-ranges.result.now
    (c.as_slice-ranges.ensures
    ∙ (ap (λ (f : CompositorFrame). f.metadata.references) c.frame.ensures
    ∙ ranges_are x.0 x.1 x.2 c.args.sub _ h c.rising.result.waiting.now c.rising.result.id id c.rising.ensures.waiting)))

pub overflow_sub-self : goal.overflow_sub-self
overflow_sub-self c =
    let x = c.requires.rises in
    let h = subst (IsRising x.0 x.1 x.2 c.args.sub) (sym c.self.view_is) x.3 in
    let id = id_is x.0 x.1 x.2 c.args.sub _ h c.rising.result.id c.rising.ensures.surface in
    wants_less x.0 x.1 x.2 c.args.sub _ h c.as_slice-ranges.result.now
    (c.as_slice-ranges.ensures
    ∙ (ap (λ (f : CompositorFrame). f.metadata.references) c.frame.ensures
    ∙ ranges_are x.0 x.1 x.2 c.args.sub _ h c.rising.result.waiting.now c.rising.result.id id c.rising.ensures.waiting))

pub activate-requires-2-clause-keeps : goal.activate-requires-2-clause-keeps
activate-requires-2-clause-keeps c =
    let x = c.requires.rises in
    keeps x.0 x.1 x.2 c.args.sub _ (subst (IsRising x.0 x.1 x.2 c.args.sub) (sym c.self.view_is) x.3)

pub activate-requires-2-clause-waits : goal.activate-requires-2-clause-waits
activate-requires-2-clause-waits c =
    let x = c.requires.rises in
    waits_there x.0 x.1 x.2 c.args.sub _ (subst (IsRising x.0 x.1 x.2 c.args.sub) (sym c.self.view_is) x.3)

pub returns-clause-live : goal.returns-clause-live
returns-clause-live c w but s x =
    let h = subst (IsRising w but s c.args.sub) (sym c.self.view_is) x in
    let id = id_is w but s c.args.sub _ h c.rising.result.id c.rising.ensures.surface in
    let acts = acts_is w but s c.args.sub _ h _ c.rising.result.id id c.rising.ensures.active in
    let ranges = c.as_slice-ranges.ensures
    ∙ (ap (λ (f : CompositorFrame). f.metadata.references) c.frame.ensures
    ∙ ranges_are w but s c.args.sub _ h c.rising.result.waiting.now c.rising.result.id id c.rising.ensures.waiting) in
    live_risen w but s c.args.sub _ h c.activate-2.new.self c.past.new.self c.activate.new.self c.set.new.self c.activated.new.self c.as_slice-ranges.result.now c.rising.result.id
    id ranges c.activate-2.ensures.activated
    (c.past.ensures.lent w s (releases w but s c.args.sub _ h _ c.listings_of.result.now acts c.listings_of.ensures))
    (c.activate.ensures.owed w s h.always h.live.owed h.known h.waits (past_is w but s c.args.sub _ h _ c.ended_in.result acts c.ended_in.ensures))
    (got _ _ _ c.unwrap.ensures c.set.ensures.sets) (got _ _ _ c.unwrap.ensures c.set.ensures.temporary) c.set.ensures.spare
    c.activated.ensures.told c.activated.ensures.others c.activated.ensures.last

pub returns-clause-surface : goal.returns-clause-surface
returns-clause-surface c w but s x =
    let h = subst (IsRising w but s c.args.sub) (sym c.self.view_is) x in
    id_is w but s c.args.sub _ h c.rising.result.id c.rising.ensures.surface

pub returns-clause-sets : goal.returns-clause-sets
returns-clause-sets c =
    subst (λ (v : Live). length c.set.new.self.sets ≤ length v.kept.sets + 1) c.self.view_is
    (one_set _ _ _ _ (got _ _ _ c.unwrap.ensures c.set.ensures.sets))

pub returns-clause-temporary : goal.returns-clause-temporary
returns-clause-temporary c =
    subst (λ (v : Live). length c.set.new.self.temporary ≤ length v.kept.temporary) c.self.view_is
    (none_more _ _ _ (got _ _ _ c.unwrap.ensures c.set.ensures.temporary))

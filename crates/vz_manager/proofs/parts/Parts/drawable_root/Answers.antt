use Rattle.std.proofs.Common.{sym, ◌∙◌, subst, ap}
use Rattle.vz_manager.specs.Serving.{Serves}
use Rattle.vz_manager.specs.Hitting.{scene_on}
use Rattle.vz_manager.proofs.Depicting.{store_keeps, frames_fit}
use Rattle.vz_manager.proofs.Showing.{draws_there}
use Rattle.vz_manager.proofs.Hitting.{shows_rootless, shows_unseen, shows_heavy, shows_whole}
use Rattle.vz_manager.proofs.parts.Parts.drawable_root.Goals as goal

pub weight-requires-clause-keeps : goal.weight-requires-clause-keeps
weight-requires-clause-keeps c =
    let x = c.requires.stands in
    let h = subst (Serves x.0 x.1) (sym c.self.view_is) x.2 in
    store_keeps x.0 x.1 _ _ _ (draws_there x.0 x.1 _ h) _ c.store-store.ensures

pub weight-requires-clause-frames : goal.weight-requires-clause-frames
weight-requires-clause-frames c =
    let x = c.requires.stands in
    let h = subst (Serves x.0 x.1) (sym c.self.view_is) x.2 in
    frames_fit x.0 x.1 _ _ _ (draws_there x.0 x.1 _ h) _ c.store-store.ensures

pub returns-in_err-root : goal.returns-in_err-root
returns-in_err-root c p w serves =
    let h = subst (Serves p w) (sym c.self.view_is) serves in
    shows_rootless p w (sym (c.in_err-root.ensures p w h.support)) ∙ sym (ap (scene_on w) c.from_residual.ensures)

pub returns-in_err-frame_on : goal.returns-in_err-frame_on
returns-in_err-frame_on c p w serves =
    let h = subst (Serves p w) (sym c.self.view_is) serves in
    shows_unseen p w _ c.in_ok-root.root c.store-store.result.now h (sym (c.in_ok-root.ensures p w h.support)) c.store-store.ensures
    (sym c.in_err-frame_on.ensures)
    ∙ sym (ap (scene_on w) c.from_residual-in_err-frame_on.ensures)

pub returns-in_err-weight : goal.returns-in_err-weight
returns-in_err-weight c p w serves =
    let h = subst (Serves p w) (sym c.self.view_is) serves in
    shows_heavy p w _ c.in_ok-root.root c.store-store.result.now h (sym (c.in_ok-root.ensures p w h.support)) c.store-store.ensures
    c.in_ok-frame_on.field-0 (sym c.in_ok-frame_on.ensures) (c.in_err-weight.ensures c.self.inside.size)
    ∙ sym (ap (scene_on w) c.from_residual-in_err-weight.ensures)

pub returns : goal.returns
returns c p w serves =
    let h = subst (Serves p w) (sym c.self.view_is) serves in
    shows_whole p w _ c.in_ok-root.root c.store-store.result.now h (sym (c.in_ok-root.ensures p w h.support)) c.store-store.ensures
    c.in_ok-frame_on.field-0 (sym c.in_ok-frame_on.ensures) (c.in_ok-weight.ensures c.self.inside.size).1

use Rattle.std.proofs.Common.{true, false, refl, ap, sym, ◌∙◌, subst}
use Rattle.vz_damage.specs.Accepted.{scene_from}
use Rattle.vz_manager.specs.Serving.{Serves}
use Rattle.vz_manager.specs.Hitting.{scene_on}
use Rattle.vz_manager.proofs.Depicting.{display_is, store_keeps, frames_fit}
use Rattle.vz_manager.proofs.Showing.{draws_there}
use Rattle.vz_manager.proofs.Hitting.{none_alike, some_alike, none_hit, found_hit, on_display}
use Rattle.vz_manager.proofs.parts.Parts.regions.Goals as goal

pub build-requires-clause-size : goal.build-requires-clause-size
build-requires-clause-size c =
    let x = c.requires.stands in
    let h = subst (Serves x.0 x.1) (sym c.self.view_is) x.2 in
    display_is x.0 x.1 _ _ _ (draws_there x.0 x.1 _ h)

pub build-requires-clause-keeps : goal.build-requires-clause-keeps
build-requires-clause-keeps c =
    let x = c.requires.stands in
    let h = subst (Serves x.0 x.1) (sym c.self.view_is) x.2 in
    store_keeps x.0 x.1 _ _ _ (draws_there x.0 x.1 _ h) _ c.store.ensures

pub build-requires-clause-frames : goal.build-requires-clause-frames
build-requires-clause-frames c =
    let x = c.requires.stands in
    let h = subst (Serves x.0 x.1) (sym c.self.view_is) x.2 in
    frames_fit x.0 x.1 _ _ _ (draws_there x.0 x.1 _ h) _ c.store.ensures

pub returns-in_default : goal.returns-in_default
returns-in_default c =
    record {
      none = λ p w serves. none_alike p w (c.drawable_root.ensures p w serves ∙ ap (scene_on w) c.in_default.is);
      hit = λ p w q serves inside. none_hit p w q (c.drawable_root.ensures p w serves ∙ ap (scene_on w) c.in_default.is);
      outside = λ p w q serves inside. refl;
    }

pub returns : goal.returns
returns c =
    record {
      none = λ p w serves.
          some_alike p w c.in_ok-regions.regions (scene_from c.in-Some.root w)
          (c.drawable_root.ensures p w serves ∙ ap (scene_on w) c.in-Some.is);
      hit = λ p w q serves inside.
          let h = subst (Serves p w) (sym c.self.view_is) serves in
          found_hit p w _ c.in-Some.root c.store.result.now c.in_ok-regions.regions q h c.store.ensures
          (c.drawable_root.ensures p w serves ∙ ap (scene_on w) c.in-Some.is)
          (c.in_ok-regions.ensures.hit q (on_display p w _ q true h inside));
      outside = λ p w q serves outside.
          let h = subst (Serves p w) (sym c.self.view_is) serves in
          c.in_ok-regions.ensures.outside q (on_display p w _ q false h outside);
    }

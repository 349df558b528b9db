use Rattle.std.proofs.Common.{sym, subst, ◌∙◌, ap, refl}
use Rattle.vz_rules.specs.Returns.{returned_in, fed_in}
use Rattle.vz_rules.specs.Ends.{landed}
use Rattle.vz_surface_manager.specs.Live.{Live}
use Rattle.vz_manager.specs.Serving.{Serves}
use Rattle.vz_manager.proofs.Resting.{appended}
use Rattle.vz_manager.proofs.Landings.{flying, places_there, step_idle, serves_idle, step_landed, serves_landed}
use Rattle.vz_manager.proofs.parts.Parts.done.Goals as goal

pub returns-then-not-is_flying-clause-step : goal.returns-then-not-is_flying-clause-step
returns-then-not-is_flying-clause-step c p w old =
    let h = subst (Serves p w) (sym c.self.view_is) old in
    step_idle p w _ h c.nothing_follows.result (sym c.is_flying.ensures ∙ c.if-not-is_flying.true) c.nothing_follows.ensures.reply
    c.nothing_follows.ensures.effects

pub returns-then-not-is_flying-clause-serves : goal.returns-then-not-is_flying-clause-serves
returns-then-not-is_flying-clause-serves c p w old =
    let h = subst (Serves p w) (sym c.self.view_is) old in
    subst (Serves p _) c.self.view_is (serves_idle p w _ h (sym c.is_flying.ensures ∙ c.if-not-is_flying.true))

pub land-requires-clause-lands : goal.land-requires-clause-lands
land-requires-clause-lands c =
    let s = c.requires.stands in
    let h = subst (Serves s.0 s.1) (sym c.self.view_is) s.2 in
    let f = flying s.0 s.1 _ h (sym c.is_flying.ensures ∙ c.if-not-is_flying.false) in
    (s.1, f.0, f.1)

pub land-requires-clause-room : goal.land-requires-clause-room
land-requires-clause-room c =
    let s = c.requires.stands in
    let h = subst (Serves s.0 s.1) (sym c.self.view_is) s.2 in
    h.lands.returned (sym c.is_flying.ensures ∙ c.if-not-is_flying.false)

pub land-requires-clause-places : goal.land-requires-clause-places
land-requires-clause-places c =
    let s = c.requires.stands in
    let h = subst (Serves s.0 s.1) (sym c.self.view_is) s.2 in
    places_there s.0 s.1 _ h (sym c.is_flying.ensures ∙ c.if-not-is_flying.false)

pub shown-requires : goal.shown-requires
shown-requires c =
    let s = c.requires.stands in
    let h = subst (Serves s.0 s.1) (sym c.self.view_is) s.2 in
    h.lands.effects (sym c.is_flying.ensures ∙ c.if-not-is_flying.false)

pub returns-clause-step : goal.returns-clause-step
returns-clause-step c p w old =
    let h = subst (Serves p w) (sym c.self.view_is) old in
    let f = flying p w _ h (sym c.is_flying.ensures ∙ c.if-not-is_flying.false) in
    step_landed p w c.shown.result f.0 c.land.new.returned.list c.land.new.fed.list h.keeps f.1.flies c.shown.ensures.reply
    c.shown.ensures.effects
    (appended _ _ _ (returned_in (landed w)) refl (c.land.ensures.returned w f.0 f.1) h.lands.none_returned)
    (appended _ _ _ (fed_in f.0 (landed w)) refl (c.land.ensures.fed w f.0 f.1) h.lands.none_fed)

pub returns-clause-serves : goal.returns-clause-serves
returns-clause-serves c p w old =
    let h = subst (Serves p w) (sym c.self.view_is) old in
    let f = flying p w _ h (sym c.is_flying.ensures ∙ c.if-not-is_flying.false) in
    serves_landed p w _ f.0 c.land.new.self _ _ c.shown.new.room h f.1.flies (c.land.ensures.live w f.0 f.1)
    c.land.ensures.released (ap (λ (v : Live). v.flight) c.land.ensures.rest) c.shown.ensures.none_returned c.shown.ensures.none_fed

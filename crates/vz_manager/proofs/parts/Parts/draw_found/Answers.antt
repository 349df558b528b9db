use Rattle.std.proofs.Common.{None, is_some, sym, ◌∙◌, subst, ap, arith}
use Rattle.vz_surface_manager.specs.Live.{Live}
use Rattle.vz_surface_manager.specs.Drawn_frame.{Measures, Flies}
use Rattle.vz_surface_manager.proofs.Drawn.{reply_is}
use Rattle.vz_manager.specs.Serving.{Served, Serves}
use Rattle.vz_manager.specs.Showing.{IsToShow}
use Rattle.vz_manager.proofs.Showing.{on_err, none_flying, step_unchanged, step_changed}
use Rattle.vz_manager.proofs.Showing.{serves_unchanged, serves_drawn, serves_still}
use Rattle.vz_manager.proofs.Depicting.{answered_so, painted_so, unpainted}
use Rattle.vz_manager.proofs.parts.Parts.draw_found.Goals as goal

pub returns-in_default-clause-step : goal.returns-in_default-clause-step
returns-in_default-clause-step c p w old =
    step_unchanged p w _ c.args.measured.changed old.serves.keeps
    (reply_is p w c.args.root.now _ _ old.shows c.args.measured c.requires.measured)
    (sym c.changed.ensures ∙ c.in_default.is) c.nothing_follows.ensures.reply c.nothing_follows.ensures.effects

pub returns-in_default-clause-picture : goal.returns-in_default-clause-picture
returns-in_default-clause-picture c p w old = unpainted p w _ c.nothing_follows.ensures.reply

pub returns-in_default-clause-serves : goal.returns-in_default-clause-serves
returns-in_default-clause-serves c p w old =
    let h = subst (IsToShow p w c.args.root.now) (sym c.self.view_is) old in
    let m = subst (λ (v : Served). Measures c.args.root.now v.size v.settling.live c.args.measured) (sym c.self.view_is) c.requires.measured in
    serves_unchanged p w c.args.root.now _ c.leave.new.self h c.leave.ensures.rest
    (c.leave.ensures.live p w c.args.root.now _ h.shows m (sym c.changed.ensures ∙ c.in_default.is))

pub ready_to_show-requires : goal.ready_to_show-requires
ready_to_show-requires c =
    let x = c.requires.shows in
    let h = subst (IsToShow x.0 x.1 c.args.root.now) (sym c.self.view_is) x.2 in
    record { shows = (x.0, x.1, h.shows) }

pub returns-in_err-ops-clause-err : goal.returns-in_err-ops-clause-err
returns-in_err-ops-clause-err c p w old =
    let x = c.requires.shows in
    let now = subst (IsToShow x.0 x.1 c.args.root.now) (sym c.self.view_is) x.2 in
    let h = subst (Serves p w) (sym c.self.view_is) old in
    on_err c.from_residual.result _
    (serves_still p w _ c.self.inside.settling.live c.ready_to_show.new.returned c.self.inside.fed c.ready_to_show.new.landed h
    (none_flying x.0 x.1 _ c.args.root.now now) h.settling.live h.released
    (c.ready_to_show.ensures.list ∙ h.lands.none_returned) h.lands.none_fed)

pub show-requires : goal.show-requires
show-requires c =
    let x = c.requires.shows in
    let h = subst (IsToShow x.0 x.1 c.args.root.now) (sym c.self.view_is) x.2 in
    let flown = subst (λ (v : Served). Flies c.args.root.now v.size v.settling.live c.args.flight) (sym c.self.view_is) c.requires.flown in
    record { shows = (x.0, x.1, c.args.root.now, _, h.shows, flown) }

pub returns-in_err-show-clause-err : goal.returns-in_err-show-clause-err
returns-in_err-show-clause-err c p w old =
    let x = c.requires.shows in
    let now = subst (IsToShow x.0 x.1 c.args.root.now) (sym c.self.view_is) x.2 in
    let h = subst (Serves p w) (sym c.self.view_is) old in
    on_err c.from_residual-in_err-show.result _
    (serves_still p w _ c.show.new.self c.ready_to_show.new.returned c.show.new.fed c.ready_to_show.new.landed h
    (ap (λ (v : Live). is_some v.flight) c.in_err-show.ensures.err ∙ none_flying x.0 x.1 _ c.args.root.now now)
    (c.in_err-show.ensures.kept w None h.settling.live) c.show.ensures.released
    (c.ready_to_show.ensures.list ∙ h.lands.none_returned) (c.show.ensures.list ∙ h.lands.none_fed))

pub picture_of-requires : goal.picture_of-requires
picture_of-requires c =
    let x = c.requires.shows in
    let h = subst (IsToShow x.0 x.1 c.args.root.now) (sym c.self.view_is) x.2 in
    let m = subst (λ (v : Served). Measures c.args.root.now v.size v.settling.live c.args.measured) (sym c.self.view_is) c.requires.measured in
    record {
      answered = (
        x.0,
        x.1,
        answered_so x.0 x.1 c.args.root.now _ _ c.args.measured.changed c.in-Some.damage h.shows
            (reply_is x.0 x.1 c.args.root.now _ _ h.shows c.args.measured m) (sym c.changed.ensures ∙ c.in-Some.is),
      );
    }

pub returns-clause-step : goal.returns-clause-step
returns-clause-step c p w old =
    let h = subst (IsToShow p w c.args.root.now) (sym c.self.view_is) old in
    let m = subst (λ (v : Served). Measures c.args.root.now v.size v.settling.live c.args.measured) (sym c.self.view_is) c.requires.measured in
    step_changed p w _ c.args.measured.changed c.in-Some.damage h.serves.keeps
    (reply_is p w c.args.root.now _ _ h.shows c.args.measured m)
    (sym c.changed.ensures ∙ c.in-Some.is) c.nothing_follows-step.ensures.reply c.nothing_follows-step.ensures.effects

pub returns-clause-picture : goal.returns-clause-picture
returns-clause-picture c p w old =
    let h = subst (IsToShow p w c.args.root.now) (sym c.self.view_is) old in
    let m = subst (λ (v : Served). Measures c.args.root.now v.size v.settling.live c.args.measured) (sym c.self.view_is) c.requires.measured in
    painted_so p w _ c.in-Some.damage _ c.nothing_follows-step.ensures.reply
    (c.picture_of.ensures.painted p w (answered_so p w c.args.root.now _ _ c.args.measured.changed c.in-Some.damage h.shows
    (reply_is p w c.args.root.now _ _ h.shows c.args.measured m) (sym c.changed.ensures ∙ c.in-Some.is))
    (c.in_ok-ops.ensures.look p w h.shows))

pub returns-clause-serves : goal.returns-clause-serves
returns-clause-serves c p w old =
    let h = subst (IsToShow p w c.args.root.now) (sym c.self.view_is) old in
    let flown = subst (λ (v : Served). Flies c.args.root.now v.size v.settling.live c.args.flight) (sym c.self.view_is) c.requires.flown in
    let m = subst (λ (v : Served). Measures c.args.root.now v.size v.settling.live c.args.measured) (sym c.self.view_is) c.requires.measured in
    serves_drawn p w _ c.show.new.self c.ready_to_show.new.returned c.show.new.fed c.ready_to_show.new.landed h.serves
    (c.in_ok-show.ensures.live p w c.args.root.now _ c.in-Some.damage h.shows flown m (sym c.changed.ensures ∙ c.in-Some.is))
    c.show.ensures.released
    (c.ready_to_show.ensures.list ∙ h.serves.lands.none_returned) (c.show.ensures.list ∙ h.serves.lands.none_fed)
    (omega (arith, c.in_ok-ops.ensures.room, c.show.ensures.out)) c.in_ok-show.ensures.room c.in_ok-ops.ensures.landed

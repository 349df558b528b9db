use Rattle.std.proofs.Common.{sym, subst}
use Rattle.vz_rules.specs.declared.entry.Reply.TheVariants as reply
use Rattle.vz_surface_manager.specs.Drawn_frame.{Measures, Flies}
use Rattle.vz_surface_manager.proofs.Drawn.{there}
use Rattle.vz_manager.specs.Serving.{Serves}
use Rattle.vz_manager.specs.Showing.{IsToMeasure}
use Rattle.vz_manager.proofs.Showing.{on_err, serves_measured, measures_still, flies_still, found_heavy, found_shows}
use Rattle.vz_manager.proofs.Showing.{step_untouched, serves_untouched}
use Rattle.vz_manager.proofs.parts.Parts.draw_from.Goals as goal

pub measure-requires : goal.measure-requires
measure-requires c =
    let x = c.requires.seen in
    let h = subst (IsToMeasure x.0 x.1 c.args.root.now) (sym c.self.view_is) x.2 in
    record { seen = (x.0, x.1, h.seen) }

pub returns-in_err-measured-clause-err : goal.returns-in_err-measured-clause-err
returns-in_err-measured-clause-err c p w old =
    let h = subst (Serves p w) (sym c.self.view_is) old in
    on_err c.from_residual.result _ (serves_measured p w _ c.measure.new.self h c.measure.ensures.same)

pub returns-in_default-clause-step : goal.returns-in_default-clause-step
returns-in_default-clause-step c p w old =
    let h = subst (IsToMeasure p w c.args.root.now) (sym c.self.view_is) old in
    step_untouched p w reply.TooMuch _ h.serves.keeps
    (found_heavy p w c.args.root.now _ c.in_ok-measured.field-0 h (c.in_ok-measured.ensures.finds p w h.seen) c.in_default.is)
    c.nothing_follows.ensures.reply c.nothing_follows.ensures.effects

pub returns-in_default-clause-serves : goal.returns-in_default-clause-serves
returns-in_default-clause-serves c p w old =
    let h = subst (IsToMeasure p w c.args.root.now) (sym c.self.view_is) old in
    serves_untouched p w reply.TooMuch _ (serves_measured p w _ c.measure.new.self h.serves c.measure.ensures.same)
    (found_heavy p w c.args.root.now _ c.in_ok-measured.field-0 h (c.in_ok-measured.ensures.finds p w h.seen) c.in_default.is)

pub draw_found-requires : goal.draw_found-requires
draw_found-requires c =
    let x = c.requires.seen in
    let p = x.0 in
    let w = x.1 in
    let h = subst (IsToMeasure x.0 x.1 c.args.root.now) (sym c.self.view_is) x.2 in
    let here = c.self.inside in
    record {
      shows = (
        p,
        w,
        found_shows p w c.args.root.now _ c.measure.new.self c.in_ok-measured.field-0 (c.in-Some.measured, c.in-Some.flight) h
            (c.in_ok-measured.ensures.finds p w h.seen) c.in-Some.is c.measure.ensures.same,
      );
      measured = measures_still c.args.root.now here.size here.settling.live c.measure.new.self c.in-Some.measured
          (there (λ f. Measures c.args.root.now here.size here.settling.live f.0) c.in_ok-measured.field-0
          (c.in-Some.measured, c.in-Some.flight) c.in-Some.is c.in_ok-measured.ensures.measured) c.measure.ensures.same;
      flown = flies_still c.args.root.now here.size here.settling.live c.measure.new.self c.in-Some.flight
          (there (λ f. Flies c.args.root.now here.size here.settling.live f.1) c.in_ok-measured.field-0
          (c.in-Some.measured, c.in-Some.flight) c.in-Some.is c.in_ok-measured.ensures.flown) c.measure.ensures.same;
    }

pub returns-clause-step : goal.returns-clause-step
returns-clause-step c p w old =
    let h = subst (IsToMeasure p w c.args.root.now) (sym c.self.view_is) old in
    c.draw_found.ensures.step p w (found_shows p w c.args.root.now _ c.measure.new.self c.in_ok-measured.field-0 (c.in-Some.measured, c.in-Some.flight) h
    (c.in_ok-measured.ensures.finds p w h.seen) c.in-Some.is c.measure.ensures.same)

pub returns-clause-picture : goal.returns-clause-picture
returns-clause-picture c p w old =
    let h = subst (IsToMeasure p w c.args.root.now) (sym c.self.view_is) old in
    c.draw_found.ensures.picture p w (found_shows p w c.args.root.now _ c.measure.new.self c.in_ok-measured.field-0 (c.in-Some.measured, c.in-Some.flight) h
    (c.in_ok-measured.ensures.finds p w h.seen) c.in-Some.is c.measure.ensures.same)

pub returns-clause-serves : goal.returns-clause-serves
returns-clause-serves c p w old =
    let h = subst (IsToMeasure p w c.args.root.now) (sym c.self.view_is) old in
    c.draw_found.ensures.serves p w (found_shows p w c.args.root.now _ c.measure.new.self c.in_ok-measured.field-0 (c.in-Some.measured, c.in-Some.flight) h
    (c.in_ok-measured.ensures.finds p w h.seen) c.in-Some.is c.measure.ensures.same)

pub returns-clause-err : goal.returns-clause-err
returns-clause-err c p w old =
    let h = subst (Serves p w) (sym c.self.view_is) old in
    c.draw_found.ensures.err p w (serves_measured p w _ c.measure.new.self h c.measure.ensures.same)

use Rattle.std.proofs.Common.{Some, is_none, sym, subst, ap, ◌∙◌}
use Rattle.vz_surface_manager.specs.Drawn_frame.{IsSeen, IsShowing}
use Rattle.vz_surface_manager.proofs.Drawn.{store_keeps, frames_fit, reply_is, heavy_there, shows_there, there}
use Rattle.vz_surface_manager.proofs.live.LiveSurfaces.measure.Goals as goal

pub measure-requires-clause-keeps : goal.measure-requires-clause-keeps
measure-requires-clause-keeps c =
    let x = c.requires.seen in
    let h = subst (IsSeen x.0 x.1 c.args.root.now c.args.size) (sym c.self.view_is) x.2 in
    store_keeps x.0 x.1 (Some c.args.root.now) c.args.size _ h.drawing

pub measure-requires-clause-frames : goal.measure-requires-clause-frames
measure-requires-clause-frames c =
    let x = c.requires.seen in
    let h = subst (IsSeen x.0 x.1 c.args.root.now c.args.size) (sym c.self.view_is) x.2 in
    frames_fit x.0 x.1 (Some c.args.root.now) c.args.size _ h.drawing

pub returns-in_default-clause-finds : goal.returns-in_default-clause-finds
returns-in_default-clause-finds c p w x =
    let h = subst (IsSeen p w c.args.root.now c.args.size) (sym c.self.view_is) x in
    heavy_there p w c.args.root.now c.args.size _ h (c.in_ok-measured.ensures.heavy ∙ ap is_none c.in_default.is)

pub flight-flight-requires-clause-keeps : goal.flight-flight-requires-clause-keeps
flight-flight-requires-clause-keeps c =
    let x = c.requires.seen in
    let h = subst (IsSeen x.0 x.1 c.args.root.now c.args.size) (sym c.self.view_is) x.2 in
    store_keeps x.0 x.1 (Some c.args.root.now) c.args.size _ h.drawing

pub returns-clause-finds : goal.returns-clause-finds
returns-clause-finds c p w x =
    let h = subst (IsSeen p w c.args.root.now c.args.size) (sym c.self.view_is) x in
    let shows = shows_there p w c.args.root.now c.args.size _ h (c.in_ok-measured.ensures.heavy ∙ ap is_none c.in-Some.is) in (
      subst (IsShowing p w c.args.root.now c.args.size) c.self.view_is shows,
      reply_is p w c.args.root.now c.args.size _ shows c.in-Some.measured
          (there _ c.in_ok-measured.field-0 (c.in-Some.measured, c.in-Some.flyer) c.in-Some.is c.in_ok-measured.ensures.measured),
    )

use Rattle.std.proofs.Common.{◌≡◌, true, false, refl, ap, sym, subst, ◌∙◌, arith}
use Rattle.std.specs.Option.{option_map}
use Rattle.vz_rules.specs.World.{Machine}
use Rattle.vz_rules.specs.declared.entry.Event.TheVariants as event
use Rattle.vz_player.specs.Played.{Played, IsPlayed, StopsAt}
use Rattle.vz_player.proofs.Playing.{on_err, picture_fits, display_size, unturned, turn_invariant, turn_stops, turn_taken, turn_written, turn_counted}
use Rattle.vz_player.specs.declared.actors.TheConstants.{MOST_ACTORS, DISPLAY}
use Rattle.vz_player.proofs.{Telling.turn_counts, Telling.turn_gated, Telling.unturned_gated}
use Rattle.vz_player.proofs.player.Player.draw_alone.Goals as goal

pub returns-clause-written : goal.returns-clause-written
returns-clause-written g c =
    let step = c.in_ok-entry.ensures in
    turn_written (g.M.Machine.state c.self.inside.machine) (g.M.Machine.state c.draw_gated.new.machine) event.Draw (option_map g.M.Picture.Picture.pictured c.in_ok-entry.picture)
    c.self.view_is c.self.invariant.0 step.entry step.world step.picture c.in_ok-reserve.ensures.list c.put.ensures.list c.requires.going false refl c.in_ok-drawn.drawn c.in_ok-drawn.ensures.drawn

pub returns-clause-counted : goal.returns-clause-counted
returns-clause-counted g c =
    let step = c.in_ok-entry.ensures in
    turn_counted (g.M.Machine.state c.self.inside.machine) (g.M.Machine.state c.draw_gated.new.machine) event.Draw (option_map g.M.Picture.Picture.pictured c.in_ok-entry.picture)
    c.self.view_is c.self.invariant.0 step.entry step.world step.picture c.in_ok-reserve.ensures.list c.put.ensures.list c.requires.going false refl c.args.steps.now c.show_some_alone.new.steps c.in_ok-drawn.ensures.counted

pub returns-clause-taken : goal.returns-clause-taken
returns-clause-taken g c =
    let step = c.in_ok-entry.ensures in
    turn_taken (g.M.Machine.state c.self.inside.machine) (g.M.Machine.state c.draw_gated.new.machine) event.Draw (option_map g.M.Picture.Picture.pictured c.in_ok-entry.picture)
    c.self.view_is c.self.invariant.0 step.entry step.world step.picture c.in_ok-reserve.ensures.list c.put.ensures.list c.requires.going false refl

pub invariant_of-self-2 : goal.invariant_of-self-2
invariant_of-self-2 g c =
    let step = c.in_ok-entry.ensures in (
      turn_invariant (g.M.Machine.state c.self.inside.machine) (g.M.Machine.state c.draw_gated.new.machine) event.Draw (option_map g.M.Picture.Picture.pictured c.in_ok-entry.picture)
          c.self.view_is c.self.invariant.0 step.entry step.world step.picture c.in_ok-reserve.ensures.list c.put.ensures.list c.requires.going tt c.show_some_alone.new.display.shown false (λ t. c.in_ok-drawn.ensures.display),
      turn_counts _ _ MOST_ACTORS event.Draw DISPLAY c.self.invariant.1 c.in_ok-entry.ensures.entry c.in_ok-reserve.ensures.list c.put.ensures.list (omega arith) refl _ c.count.ensures,
    )

pub returns-in_err-drawn-clause-err : goal.returns-in_err-drawn-clause-err
returns-in_err-drawn-clause-err g c =
    let step = c.in_ok-entry.ensures in
    on_err c.from_residual-in_err-drawn.result (StopsAt c.args.self.now event.Draw _)
    (turn_stops (g.M.Machine.state c.self.inside.machine) (g.M.Machine.state c.draw_gated.new.machine) event.Draw (option_map g.M.Picture.Picture.pictured c.in_ok-entry.picture)
    c.self.view_is c.self.invariant.0 step.entry step.world step.picture c.in_ok-reserve.ensures.list c.put.ensures.list c.requires.going)

pub invariant_of-self-in_err-drawn : goal.invariant_of-self-in_err-drawn
invariant_of-self-in_err-drawn g c =
    let step = c.in_ok-entry.ensures in (
      turn_invariant (g.M.Machine.state c.self.inside.machine) (g.M.Machine.state c.draw_gated.new.machine) event.Draw (option_map g.M.Picture.Picture.pictured c.in_ok-entry.picture)
          c.self.view_is c.self.invariant.0 step.entry step.world step.picture c.in_ok-reserve.ensures.list c.put.ensures.list c.requires.going tt c.show_some_alone.new.display.shown true (λ t. absurd (true_not t)),
      turn_counts _ _ MOST_ACTORS event.Draw DISPLAY c.self.invariant.1 c.in_ok-entry.ensures.entry c.in_ok-reserve.ensures.list c.put.ensures.list (omega arith) refl _ c.count.ensures,
    )
  where
    true_not : true ≡ false → ⊥
    true_not e = cc

pub returns-in_err-entry-clause-err : goal.returns-in_err-entry-clause-err
returns-in_err-entry-clause-err g c =
    on_err c.from_residual-in_err-entry.result (StopsAt c.args.self.now event.Draw _)
    (unturned (g.M.Machine.state c.self.inside.machine) (g.M.Machine.state c.draw_gated.new.machine) event.Draw c.self.view_is c.in_err-entry.ensures.err
    c.in_ok-reserve.ensures.list)

pub show_some_alone-requires-after_bounds : goal.show_some_alone-requires-after_bounds
show_some_alone-requires-after_bounds g c κs within =
    let old : Played = c.args.self.now in
    let m : Machine = g.M.Machine.state c.self.inside.machine in
    let is : IsPlayed m c.self.inside.display.shown old = subst (IsPlayed m c.self.inside.display.shown) c.self.view_is c.self.invariant.0 in
    picture_fits g.M.Picture.Picture.pictured m c.in_ok-entry.entry.reply c.in_ok-entry.picture c.self.inside.display.shown.turns.size c.in_ok-entry.ensures.picture
    (ap (λ (x : Machine). x.plan.size) is.behind ∙ sym (display_size m c.self.inside.display.shown old is c.requires.going))

pub returns-in_err-reserve-clause-err : goal.returns-in_err-reserve-clause-err
returns-in_err-reserve-clause-err g c =
    let m : Machine = g.M.Machine.state c.self.inside.machine in
    on_err c.from_residual.result (StopsAt c.args.self.now event.Draw _) (unturned m m event.Draw c.self.view_is refl c.in_err-reserve.ensures.list)

pub returns-in_err-reserve-clause-gated : goal.returns-in_err-reserve-clause-gated
returns-in_err-reserve-clause-gated g c = unturned_gated (g.G.Gate.told c.args.gate.now) c.args.self.now.history c.in_err-reserve.ensures.list (ap (λ (p : Played). p.history) c.self.view_is)

pub returns-in_err-entry-clause-gated : goal.returns-in_err-entry-clause-gated
returns-in_err-entry-clause-gated g c = unturned_gated (g.G.Gate.told c.args.gate.now) c.args.self.now.history c.in_ok-reserve.ensures.list (ap (λ (p : Played). p.history) c.self.view_is)

pub returns-clause-gated : goal.returns-clause-gated
returns-clause-gated g c =
    turn_gated _ _ MOST_ACTORS event.Draw DISPLAY c.self.invariant.1 c.in_ok-entry.ensures.entry c.in_ok-reserve.ensures.list c.put.ensures.list (omega arith) refl (g.G.Gate.told c.args.gate.now) c.args.self.now.history c.next_turn-turn.result.actor c.next_turn-turn.result.number
    (ap (λ (p : Played). p.history) c.self.view_is) c.next_turn-turn.ensures.actor c.next_turn-turn.ensures.number c.in_ok-entry.ensures.told

pub returns-in_err-drawn-clause-gated : goal.returns-in_err-drawn-clause-gated
returns-in_err-drawn-clause-gated g c =
    turn_gated _ _ MOST_ACTORS event.Draw DISPLAY c.self.invariant.1 c.in_ok-entry.ensures.entry c.in_ok-reserve.ensures.list c.put.ensures.list (omega arith) refl (g.G.Gate.told c.args.gate.now) c.args.self.now.history c.next_turn-turn.result.actor c.next_turn-turn.result.number
    (ap (λ (p : Played). p.history) c.self.view_is) c.next_turn-turn.ensures.actor c.next_turn-turn.ensures.number c.in_ok-entry.ensures.told

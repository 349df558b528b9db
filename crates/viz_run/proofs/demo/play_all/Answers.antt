use Rattle.std.proofs.Common.{All, sym, ap, subst, ◌∙◌}
use Rattle.vz_base.specs.declared.limits.TheConstants.{DEFAULT_BUFFERS}
use Rattle.vz_display.specs.Displayed.{Displayed}
use Rattle.vz_geom.specs.Display.{IsDisplaySize}
use Rattle.vz_player.specs.Played.{Played}
use Rattle.vz_rules.specs.Plan.{Plan}
use Rattle.vz_rules.specs.Step.{NamesClient}
use Rattle.viz_run.proofs.Takes.{points_shown, points_counted}
use Rattle.viz_run.proofs.Gating.{made_gated}
use Rattle.viz_run.proofs.demo.play_all.Goals as goal

pub new-player-requires-clause-files : goal.new-player-requires-clause-files
new-player-requires-clause-files g c = λ _ _. c.requires.plan.few_files

pub new-player-requires-clause-sides : goal.new-player-requires-clause-sides
new-player-requires-clause-sides g c = λ _ _. subst IsDisplaySize c.requires.size c.requires.plan.sizes

pub take_all-requires-clause-going : goal.take_all-requires-clause-going
take_all-requires-clause-going g c = λ _ _. ap (λ (x : Played). x.stopped) c.new-player.ensures

pub take_all-requires-clause-named : goal.take_all-requires-clause-named
take_all-requires-clause-named g c = λ _ _.
    subst (λ (p : Plan). All (NamesClient p) c.args.events.now) (sym (ap (λ (x : Played). x.plan) c.new-player.ensures)) c.requires.named

pub returns-in-Ok-clause-painted : goal.returns-in-Ok-clause-painted
returns-in-Ok-clause-painted g c =
    let p = (g.M.Machine.state c.args.machine).plan in
    points_shown p DEFAULT_BUFFERS c.args.events.now c.new-player.result c.take_all.new.player c.into_history.result c.new-player.ensures
    c.in-Ok.ensures.taken c.into_history.ensures.value _ (c.painted-points.ensures ∙ ap (λ (d : Displayed). d.painted)
    c.display.ensures.value)

pub returns-in-Ok-clause-counted : goal.returns-in-Ok-clause-counted
returns-in-Ok-clause-counted g c =
    let p = (g.M.Machine.state c.args.machine).plan in
    points_counted p DEFAULT_BUFFERS c.args.events.now c.new-player.result c.take_all.new.player c.into_history.result c.new-player.ensures
    c.in-Ok.ensures.taken c.into_history.ensures.value _ _ c.in-Ok.ensures.counted

pub returns-in-Ok-clause-gated : goal.returns-in-Ok-clause-gated
returns-in-Ok-clause-gated g c =
    made_gated (g.G.Gate.told c.args.gate.now) c.new-player.result.history c.take_all.new.player.history c.into_history.result (ap (λ (x : Played). x.history) c.new-player.ensures) c.into_history.ensures.value c.take_all.ensures.gated

pub returns-in-Err-clause-gated : goal.returns-in-Err-clause-gated
returns-in-Err-clause-gated g c =
    made_gated (g.G.Gate.told c.args.gate.now) c.new-player.result.history c.take_all.new.player.history c.into_history-in-Err.result (ap (λ (x : Played). x.history) c.new-player.ensures) c.into_history-in-Err.ensures.value c.take_all.ensures.gated

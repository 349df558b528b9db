use Rattle.std.proofs.Common.{ℕ, All, take, sym, ap, subst, ◌∙◌}
use Rattle.vz_base.specs.declared.limits.TheConstants.{DEFAULT_BUFFERS}
use Rattle.vz_outside.proofs.Behaving.{on_err}
use Rattle.vz_geom.specs.Display.{IsDisplaySize}
use Rattle.vz_player.specs.Played.{Played}
use Rattle.vz_rules.specs.Plan.{Plan}
use Rattle.vz_rules.specs.Step.{NamesClient}
use Rattle.vz_threads.specs.Courses.{frames_of}
use Rattle.viz_run.specs.Ends.{IsHistory}
use Rattle.viz_run.proofs.Demonstrated.{all_played}
use Rattle.viz_run.proofs.Showing.{has_played, has_stopped, is_history, rest_is, frames_appended, frames_begun, whole_appended}
use Rattle.viz_run.proofs.Takes.{points_counted}
use Rattle.viz_run.proofs.Gating.{made_gated}
use Rattle.viz_run.proofs.playing.show.Goals as goal

pub new-player-requires-clause-files : goal.new-player-requires-clause-files
new-player-requires-clause-files g c = λ _ _. c.requires.plan.few_files

pub new-player-requires-clause-sides : goal.new-player-requires-clause-sides
new-player-requires-clause-sides g c = λ _ _. subst IsDisplaySize c.requires.size c.requires.plan.sizes

pub play_frames-requires-clause-going : goal.play_frames-requires-clause-going
play_frames-requires-clause-going g c = λ _ _. ap (λ (x : Played). x.stopped) c.new-player.ensures

pub play_frames-requires-clause-named : goal.play_frames-requires-clause-named
play_frames-requires-clause-named g c = λ _ _.
    subst (λ (p : Plan). All (NamesClient p) c.args.events.now) (sym (ap (λ (x : Played). x.plan) c.new-player.ensures)) c.requires.named

pub play_frames-requires-clause-size : goal.play_frames-requires-clause-size
play_frames-requires-clause-size g c = λ _ _. ap (λ (x : Played). x.plan.size) c.new-player.ensures ∙ c.requires.size

pub play_frames-requires-clause-sides : goal.play_frames-requires-clause-sides
play_frames-requires-clause-sides g c = λ _ _. subst IsDisplaySize c.requires.size c.requires.plan.sizes

pub returns-in_err-rest-in-Ok-clause-front : goal.returns-in_err-rest-in-Ok-clause-front
returns-in_err-rest-in-Ok-clause-front g c =
    let p = (g.M.Machine.state c.args.machine).plan in
    let es = c.args.events.now in
    let old = c.new-player.result in
    let new = c.play_frames.new.player in
    let first = c.new-player.ensures in
    let taken = has_played old new es c.in-Ok.ensures.played in
    on_err c.from_residual.result ((n : ℕ) × IsHistory p (take n es) c.into_history.result)
    (all_played p es c.into_history.result (is_history p DEFAULT_BUFFERS es old new c.into_history.result first taken
    c.into_history.ensures.value c.into_history.ensures.legal))

pub returns-in_err-rest-in-Ok-clause-begun : goal.returns-in_err-rest-in-Ok-clause-begun
returns-in_err-rest-in-Ok-clause-begun g c =
    let p = (g.M.Machine.state c.args.machine).plan in
    let es = c.args.events.now in
    let old = c.new-player.result in
    let new = c.play_frames.new.player in
    let a = g.F.Shelf.shelved c.args.shelf.now in
    let b = g.F.Shelf.shelved c.play_frames.new.shelf in
    let first = c.new-player.ensures in
    let taken = has_played old new es c.in-Ok.ensures.played in
    on_err c.from_residual.result _
    (whole_appended (frames_of p c.into_history.result DEFAULT_BUFFERS) (a.name c.args.slot) a b
    (frames_appended p DEFAULT_BUFFERS es old new c.into_history.result first taken c.into_history.ensures.value (a.name c.args.slot) a b
    c.in-Ok.ensures.written))

pub returns-in_ok-rest-in-Ok-clause-history : goal.returns-in_ok-rest-in-Ok-clause-history
returns-in_ok-rest-in-Ok-clause-history g c =
    let es = c.args.events.now in
    let old = c.new-player.result in
    let new = c.play_frames.new.player in
    let first = c.new-player.ensures in
    let taken = has_played old new es c.in-Ok.ensures.played in
    is_history (g.M.Machine.state c.args.machine).plan DEFAULT_BUFFERS es old new c.into_history.result first taken
    c.into_history.ensures.value c.into_history.ensures.legal

pub returns-in_ok-rest-in-Ok-clause-rest : goal.returns-in_ok-rest-in-Ok-clause-rest
returns-in_ok-rest-in-Ok-clause-rest g c =
    let es = c.args.events.now in
    let old = c.new-player.result in
    let new = c.play_frames.new.player in
    let first = c.new-player.ensures in
    let taken = has_played old new es c.in-Ok.ensures.played in
    rest_is (g.M.Machine.state c.args.machine).plan DEFAULT_BUFFERS es old new c.into_history.result first taken
    c.into_history.ensures.value _ c.in_ok-rest-in-Ok.ensures

pub returns-in_ok-rest-in-Ok-clause-frames : goal.returns-in_ok-rest-in-Ok-clause-frames
returns-in_ok-rest-in-Ok-clause-frames g c =
    let es = c.args.events.now in
    let old = c.new-player.result in
    let new = c.play_frames.new.player in
    let a = g.F.Shelf.shelved c.args.shelf.now in
    let b = g.F.Shelf.shelved c.play_frames.new.shelf in
    let first = c.new-player.ensures in
    let taken = has_played old new es c.in-Ok.ensures.played in
    frames_appended (g.M.Machine.state c.args.machine).plan DEFAULT_BUFFERS es old new c.into_history.result first taken
    c.into_history.ensures.value (a.name c.args.slot) a b c.in-Ok.ensures.written

pub returns-in_ok-rest-in-Ok-clause-counted : goal.returns-in_ok-rest-in-Ok-clause-counted
returns-in_ok-rest-in-Ok-clause-counted g c =
    let es = c.args.events.now in
    let old = c.new-player.result in
    let new = c.play_frames.new.player in
    let first = c.new-player.ensures in
    let taken = has_played old new es c.in-Ok.ensures.played in
    points_counted (g.M.Machine.state c.args.machine).plan DEFAULT_BUFFERS es old new c.into_history.result first taken
    c.into_history.ensures.value _ _ c.in-Ok.ensures.counted

pub returns-in-Err-clause-front : goal.returns-in-Err-clause-front
returns-in-Err-clause-front g c =
    let p = (g.M.Machine.state c.args.machine).plan in
    let es = c.args.events.now in
    let old = c.new-player.result in
    let new = c.play_frames.new.player in
    let h = c.into_history-in-Err.result in
    let first = c.new-player.ensures in
    let taken = has_stopped old new es c.in-Err.ensures.stops in (
      taken.0,
      is_history p DEFAULT_BUFFERS (take taken.0 es) old new h first taken.1 c.into_history-in-Err.ensures.value
          c.into_history-in-Err.ensures.legal,
    )

pub returns-in-Err-clause-begun : goal.returns-in-Err-clause-begun
returns-in-Err-clause-begun g c =
    let es = c.args.events.now in
    let old = c.new-player.result in
    let new = c.play_frames.new.player in
    let a = g.F.Shelf.shelved c.args.shelf.now in
    let b = g.F.Shelf.shelved c.play_frames.new.shelf in
    let first = c.new-player.ensures in
    let taken = has_stopped old new es c.in-Err.ensures.stops in
    frames_begun (g.M.Machine.state c.args.machine).plan DEFAULT_BUFFERS (take taken.0 es) old new c.into_history-in-Err.result first
    taken.1 c.into_history-in-Err.ensures.value (a.name c.args.slot) a b c.in-Err.ensures.begun

pub returns-in_err-rest-in-Ok-clause-gated : goal.returns-in_err-rest-in-Ok-clause-gated
returns-in_err-rest-in-Ok-clause-gated g c =
    made_gated (g.G.Gate.told c.args.gate.now) c.new-player.result.history c.play_frames.new.player.history c.into_history.result (ap (λ (x : Played). x.history) c.new-player.ensures) c.into_history.ensures.value c.play_frames.ensures.gated

pub returns-in_ok-rest-in-Ok-clause-gated : goal.returns-in_ok-rest-in-Ok-clause-gated
returns-in_ok-rest-in-Ok-clause-gated g c =
    made_gated (g.G.Gate.told c.args.gate.now) c.new-player.result.history c.play_frames.new.player.history c.into_history.result (ap (λ (x : Played). x.history) c.new-player.ensures) c.into_history.ensures.value c.play_frames.ensures.gated

pub returns-in-Err-clause-gated : goal.returns-in-Err-clause-gated
returns-in-Err-clause-gated g c =
    made_gated (g.G.Gate.told c.args.gate.now) c.new-player.result.history c.play_frames.new.player.history c.into_history-in-Err.result (ap (λ (x : Played). x.history) c.new-player.ensures) c.into_history-in-Err.ensures.value c.play_frames.ensures.gated

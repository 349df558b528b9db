use Rattle.vz_outside.proofs.Calls.{ran_one, ran_then_ran}
use Rattle.vz_outside.proofs.Behaving.{on_err, behaves_at, behaves_as, then_behaves}
use Rattle.vz_player.proofs.Outs.{none_made}
use Rattle.vz_base.specs.declared.limits.TheConstants.{DEFAULT_BUFFERS}
use Rattle.viz_run.proofs.Demonstrated.{none_played, all_played}
use Rattle.vz_threads.specs.Courses.{frames_of}
use Rattle.viz_run.specs.Ends.{log_of}
use Rattle.viz_run.proofs.Shown_whole.{frames_begun, frames_whole, log_begun, both_whole}
use Rattle.viz_run.proofs.Gating.{none_gated}
use Rattle.viz_run.proofs.playing.play.Goals as goal

pub returns-in_err-outputs-clause-front : goal.returns-in_err-outputs-clause-front
returns-in_err-outputs-clause-front g c =
    on_err c.from_residual.result _ (none_played (g.M.Machine.state c.args.machine).plan c.args.events.now c.args.history.now
    c.requires.empty)

pub returns-in_err-outputs-clause-begun : goal.returns-in_err-outputs-clause-begun
returns-in_err-outputs-clause-begun g c =
    let p = (g.M.Machine.state c.args.machine).plan in
    let h = c.args.history.now in
    let e = c.in_err-outputs.ensures in
    on_err c.from_residual.result _
    (none_made _ _ (frames_of p h DEFAULT_BUFFERS) (log_of p h) _ _ e.no_frames e.no_log e.others)

pub show-requires-clause-open : goal.show-requires-clause-open
show-requires-clause-open g c = λ _ _. c.in_ok-outputs.ensures.frames.writing

pub returns-in_err-rest-clause-begun : goal.returns-in_err-rest-clause-begun
returns-in_err-rest-clause-begun g c =
    let made = c.in_ok-outputs.ensures in
    let shown = c.in_err-rest.ensures in
    on_err c.from_residual-in_err-rest.result _
    (frames_begun _ _ c.requires.apart c.in_ok-outputs.outputs _ _ _ (g.M.Machine.state c.args.machine).plan c.show.new.history DEFAULT_BUFFERS
    made.frames made.log made.others made.behaves shown.others shown.begun shown.behaves.call)

pub returns-in_err-rest-clause-behaves : goal.returns-in_err-rest-clause-behaves
returns-in_err-rest-clause-behaves g c =
    behaves_at _ _ _ _ c.from_residual-in_err-rest.ensures.1
    (behaves_as c.in_err-rest.field-0.0 _ _
    (then_behaves _ _ _ _ (ran_one c.in_ok-outputs.outputs _ _ c.in_ok-outputs.ensures.behaves) c.in_err-rest.ensures.behaves (λ z. z))
    (λ z. z))

pub write_log-requires : goal.write_log-requires
write_log-requires g c =
    let made = c.in_ok-outputs.ensures in
    let shown = c.in_ok-rest.ensures in
    record {
      «open» = (frames_whole _ _ c.requires.apart c.in_ok-outputs.outputs _ _ _ (g.M.Machine.state c.args.machine).plan c.show.new.history DEFAULT_BUFFERS
          made.frames made.log made.others made.behaves shown.others shown.frames (ran_one c.in_ok-rest.rest _ _ shown.behaves)).log_is.writing;
    }

pub returns-in_err-write_log-clause-front : goal.returns-in_err-write_log-clause-front
returns-in_err-write_log-clause-front g c =
    on_err c.from_residual-in_err-write_log.result _
    (all_played (g.M.Machine.state c.args.machine).plan c.args.events.now c.show.new.history c.in_ok-rest.ensures.history)

pub returns-in_err-write_log-clause-begun : goal.returns-in_err-write_log-clause-begun
returns-in_err-write_log-clause-begun g c =
    let made = c.in_ok-outputs.ensures in
    let shown = c.in_ok-rest.ensures in
    let told = c.in_err-write_log.ensures in
    on_err c.from_residual-in_err-write_log.result _
    (log_begun _ _ c.requires.apart c.in_ok-outputs.outputs _ _ _ (g.M.Machine.state c.args.machine).plan c.show.new.history DEFAULT_BUFFERS
    made.frames made.log made.others made.behaves shown.others shown.frames (ran_one c.in_ok-rest.rest _ _ shown.behaves)
    c.in_ok-rest.rest shown.rest _ told.others told.begun told.behaves.call)

pub returns-in_err-write_log-clause-behaves : goal.returns-in_err-write_log-clause-behaves
returns-in_err-write_log-clause-behaves g c =
    behaves_at _ _ _ _ c.from_residual-in_err-write_log.ensures.1
    (then_behaves _ _ _ _ (ran_then_ran _ _ _ (ran_one c.in_ok-outputs.outputs _ _ c.in_ok-outputs.ensures.behaves)
    (ran_one c.in_ok-rest.rest _ _ c.in_ok-rest.ensures.behaves))
    c.in_err-write_log.ensures.behaves (λ z. z))

pub returns-clause-whole : goal.returns-clause-whole
returns-clause-whole g c =
    let made = c.in_ok-outputs.ensures in
    let shown = c.in_ok-rest.ensures in
    let told = c.in_ok-write_log.ensures in
    both_whole _ _ c.requires.apart c.in_ok-outputs.outputs _ _ _ (g.M.Machine.state c.args.machine).plan c.show.new.history DEFAULT_BUFFERS
    made.frames made.log made.others made.behaves shown.others shown.frames (ran_one c.in_ok-rest.rest _ _ shown.behaves)
    c.in_ok-rest.rest shown.rest _ told.others told.appended (ran_one tt _ _ told.behaves)

pub returns-clause-behaves : goal.returns-clause-behaves
returns-clause-behaves g c =
    then_behaves _ _ _ _ (ran_then_ran _ _ _ (ran_one c.in_ok-outputs.outputs _ _ c.in_ok-outputs.ensures.behaves)
    (ran_one c.in_ok-rest.rest _ _ c.in_ok-rest.ensures.behaves))
    c.in_ok-write_log.ensures.behaves (λ z. z)

pub returns-in_err-outputs-clause-gated : goal.returns-in_err-outputs-clause-gated
returns-in_err-outputs-clause-gated g c = none_gated (g.G.Gate.told c.args.gate.now) c.args.history.now c.requires.empty

pub returns-in_err-rest-clause-gated : goal.returns-in_err-rest-clause-gated
returns-in_err-rest-clause-gated g c = c.show.ensures.gated

pub returns-in_err-write_log-clause-gated : goal.returns-in_err-write_log-clause-gated
returns-in_err-write_log-clause-gated g c = c.show.ensures.gated

pub returns-clause-gated : goal.returns-clause-gated
returns-clause-gated g c = c.show.ensures.gated

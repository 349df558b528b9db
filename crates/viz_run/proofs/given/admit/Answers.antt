use Rattle.std.proofs.Common.{ℕ, length, sym, ap, ◌∙◌, arith, List}
use Rattle.vz_outside.proofs.Calls.{ran_none, ran_one, ran_then_ran}
use Rattle.vz_outside.proofs.Behaving.{missing_before}
use Rattle.viz_run.specs.Read.{texts, contents}
use Rattle.viz_run.specs.Refusals.{plan_read}
use Rattle.viz_run.specs.Schedule.{events_of}
use Rattle.viz_run.specs.Stepped.{refused_of}
use Rattle.viz_run.proofs.Stepping.{ok_is_none}
use Rattle.viz_run.proofs.Stopping.{stops_at, stops_after}
use Rattle.viz_run.specs.declared.stop.Stop.TheVariants as stop
use Rattle.viz_run.proofs.Admitting.{input_no_fault, inputs_with, are_taken, first_of, one_schedule, input_of, misses_left, misses_right}
use Rattle.viz_run.proofs.given.admit.Goals as goal

pub returns-in_err-bytes-clause-behaves : goal.returns-in_err-bytes-clause-behaves
returns-in_err-bytes-clause-behaves g c =
    let s = g.F.Shelf.shelved c.args.shelf.now in
    stops_at c.in_err-bytes.field-0.0 c.from_residual.result s s _ c.from_residual.ensures.1 (ran_none s) c.in_err-bytes.ensures.behaves
    (λ missing. misses_left (texts c.args.files.now) _ s missing)

pub returns-in_err-lines-clause-behaves : goal.returns-in_err-lines-clause-behaves
returns-in_err-lines-clause-behaves g c =
    let s = g.F.Shelf.shelved c.args.shelf.now in
    let ran = ran_one c.in_ok-bytes.bytes s _ c.in_ok-bytes.ensures.behaves in
    stops_at c.in_err-lines.field-0.0 c.from_residual-in_err-lines.result s _ _ c.from_residual-in_err-lines.ensures.1 ran c.in_err-lines.ensures.behaves
    (λ missing. misses_right (texts c.args.files.now) c.args.schedule.now s (missing_before c.args.schedule.now s _ ran c.read_files.ensures.files missing))

pub accept-requires-clause-some : goal.accept-requires-clause-some
accept-requires-clause-some g c = omega (arith, ap length c.deref.ensures.value, c.in_ok-bytes.ensures.all, c.requires.some)

pub accept-requires-clause-few : goal.accept-requires-clause-few
accept-requires-clause-few g c = omega (arith, ap length c.deref.ensures.value, c.in_ok-bytes.ensures.all, c.requires.few)

pub returns-in_err-accept-clause-input : goal.returns-in_err-accept-clause-input
returns-in_err-accept-clause-input g c =
    let s = g.F.Shelf.shelved c.args.shelf.now in
    let files = c.in_ok-bytes.bytes.items in
    let schedule = c.in_ok-lines.lines.items in
    let ran = ran_one c.in_ok-bytes.bytes s _ c.in_ok-bytes.ensures.behaves in
    let same = ap (λ fs. refused_of c.args.size (contents fs) schedule) (sym c.deref.ensures.value)
    ∙ ap (λ (bytes : List ℕ). refused_of c.args.size (contents c.deref.result.now) bytes) (sym c.deref-2.ensures.value) in
    input_of c.in_err-accept.field-0.0 c.from_residual-in_err-accept.result _ c.from_residual-in_err-accept.ensures.1
    (λ x is. (
      inputs_with (contents files) schedule,
      are_taken c.args.schedule.now (texts c.args.files.now) (contents files) schedule s _ ran c.read_files.ensures.files
          c.in_ok-bytes.ensures.read c.in_ok-lines.ensures.read,
      first_of c.args.size (contents files) schedule ∙ (same ∙ c.in_err-accept.ensures.refused x is),
    ))

pub returns-clause-accepted : goal.returns-clause-accepted
returns-clause-accepted g c =
    let s = g.F.Shelf.shelved c.args.shelf.now in
    let files = c.in_ok-bytes.bytes.items in
    let schedule = c.in_ok-lines.lines.items in
    let ran = ran_one c.in_ok-bytes.bytes s _ c.in_ok-bytes.ensures.behaves in
    let same = ap (λ fs. refused_of c.args.size (contents fs) schedule) (sym c.deref.ensures.value)
    ∙ ap (λ (bytes : List ℕ). refused_of c.args.size (contents c.deref.result.now) bytes) (sym c.deref-2.ensures.value) in (
      inputs_with (contents files) schedule,
      record {
        read = are_taken c.args.schedule.now (texts c.args.files.now) (contents files) schedule s _ ran c.read_files.ensures.files
            c.in_ok-bytes.ensures.read c.in_ok-lines.ensures.read;
        good = first_of c.args.size (contents files) schedule ∙ (same ∙ c.in_ok-accept.ensures.good);
        plan = c.in_ok-accept.ensures.plan ∙ ap (λ fs. plan_read c.args.size (contents fs)) c.deref.ensures.value;
        events = c.in_ok-accept.ensures.events ∙ (ap events_of c.deref-2.ensures.value ∙ sym (one_schedule schedule));
      },
    )

pub returns-in_err-accept-clause-behaves : goal.returns-in_err-accept-clause-behaves
returns-in_err-accept-clause-behaves g c =
    let s = g.F.Shelf.shelved c.args.shelf.now in
    let t = g.F.Shelf.shelved c.read_file.new.shelf in
    let read = ran_one c.in_ok-bytes.bytes s _ c.in_ok-bytes.ensures.behaves in
    stops_after c.from_residual-in_err-accept.result s t (ran_then_ran s _ t read (ran_one c.in_ok-lines.lines _ t c.in_ok-lines.ensures.behaves))
    (input_no_fault c.in_err-accept.field-0.0 c.from_residual-in_err-accept.result c.from_residual-in_err-accept.ensures.1)

pub returns-clause-behaves : goal.returns-clause-behaves
returns-clause-behaves g c =
    let s = g.F.Shelf.shelved c.args.shelf.now in
    let t = g.F.Shelf.shelved c.read_file.new.shelf in
    let read = ran_one c.in_ok-bytes.bytes s _ c.in_ok-bytes.ensures.behaves in
    stops_after _ s t (ran_then_ran s _ t read (ran_one c.in_ok-lines.lines _ t c.in_ok-lines.ensures.behaves)) (ok_is_none _ stop.Fault)

use Rattle.std.proofs.Common.{◌≡◌, ℕ, pos, List, length, sym, ap, ◌∙◌, subst, inl, inr, arith}
use Rattle.std.proofs.lemmas.List.{length-map}
use Rattle.std.specs.String.{string_bytes}
use Rattle.std.specs.declared.string.String.{String}
use Rattle.vz_outside.proofs.Calls.{ran_none, ran_one, ran_then_ran, files_then_files}
use Rattle.vz_check.specs.Verdict.{IsVerdict}
use Rattle.vz_geom.specs.declared.Size.{Size}
use Rattle.vz_rules.specs.Plan.{Plan}
use Rattle.vz_outside.proofs.Behaving.{missing_before}
use Rattle.viz_run.specs.Read.{texts, contents}
use Rattle.viz_run.specs.Refusals.{plan_read}
use Rattle.viz_run.specs.Judged.{refused_of}
use Rattle.viz_run.proofs.Fitting.{judged_files_fit, judged_sides_fit}
use Rattle.viz_run.proofs.Stepping.{ok_is_none}
use Rattle.viz_run.proofs.Stopping.{stops_at, stops_after}
use Rattle.viz_run.specs.declared.stop.Stop.TheVariants as stop
use Rattle.viz_run.proofs.Admitting.{input_of, misses_left, misses_behind}
use Rattle.viz_run.proofs.Logs_read.{judged_inputs, are_read, first_of, held_by}
use Rattle.viz_run.proofs.judging.judge.Goals as goal

-- there are as many texts as names
long : {A : Type 0} (names : List (String A)) → length (texts names) ≡ length names
long names = length-map names string_bytes

pub returns-in_err-files-clause-behaves : goal.returns-in_err-files-clause-behaves
returns-in_err-files-clause-behaves g c =
    let w = c.args.words.now in
    let s = g.F.Shelf.shelved c.args.shelf.now in
    stops_at c.in_err-files.field-0.0 c.from_residual.result s s _ c.from_residual.ensures.1 (ran_none s) c.in_err-files.ensures.behaves
    (λ missing. misses_left (texts w.files.now) _ s missing)

pub returns-in_err-log-clause-behaves : goal.returns-in_err-log-clause-behaves
returns-in_err-log-clause-behaves g c =
    let w = c.args.words.now in
    let s = g.F.Shelf.shelved c.args.shelf.now in
    let ran = ran_one c.in_ok-files.files s _ c.in_ok-files.ensures.behaves in
    stops_at c.in_err-log.field-0.0 c.from_residual-in_err-log.result s _ _ c.from_residual-in_err-log.ensures.1 ran c.in_err-log.ensures.behaves
    (λ missing. misses_behind (texts w.files.now) _ s (inl (missing_before w.log.now s _ ran c.read_files.ensures.files missing)))

pub returns-in_err-slot-clause-behaves : goal.returns-in_err-slot-clause-behaves
returns-in_err-slot-clause-behaves g c =
    let w = c.args.words.now in
    let s = g.F.Shelf.shelved c.args.shelf.now in
    let t = g.F.Shelf.shelved c.read_file.new.shelf in
    let one = ran_one c.in_ok-files.files s _ c.in_ok-files.ensures.behaves in
    let ran = ran_then_ran s _ t one (ran_one c.in_ok-log.log _ t c.in_ok-log.ensures.behaves) in
    let same = files_then_files s _ t one.call c.read_files.ensures.files c.read_file.ensures.files in
    stops_at c.in_err-slot.field-0.0 c.from_residual-in_err-slot.result s _ _ c.from_residual-in_err-slot.ensures.1 ran c.in_err-slot.ensures.behaves
    (λ missing. misses_behind (texts w.files.now) _ s (inr (inl (missing_before w.frames.now s t ran same missing))))

pub size_of-size-requires : goal.size_of-size-requires
size_of-size-requires g c =
    let w = c.args.words.now in
    judged_sides_fit w.width w.height w.frames.now w.log.now (texts w.files.now) c.requires

pub accept-requires-clause-some : goal.accept-requires-clause-some
accept-requires-clause-some g c =
    let w = c.args.words.now in
    omega (
      arith,
      ap length c.deref.ensures.value,
      c.in_ok-files.ensures.all,
      long w.files.now,
      (judged_files_fit w.width w.height w.frames.now w.log.now (texts w.files.now) c.requires).0,
    )

pub accept-requires-clause-few : goal.accept-requires-clause-few
accept-requires-clause-few g c =
    let w = c.args.words.now in
    omega (
      arith,
      ap length c.deref.ensures.value,
      c.in_ok-files.ensures.all,
      long w.files.now,
      (judged_files_fit w.width w.height w.frames.now w.log.now (texts w.files.now) c.requires).1,
    )

pub returns-in_err-plan-clause-input : goal.returns-in_err-plan-clause-input
returns-in_err-plan-clause-input g c =
    let w = c.args.words.now in
    let s = g.F.Shelf.shelved c.args.shelf.now in
    let t = g.F.Shelf.shelved c.read_file.new.shelf in
    let u = g.F.Shelf.shelved c.open.new.self in
    let files = c.in_ok-files.files.items in
    let log = c.in_ok-log.log.items in
    let read = ran_one c.in_ok-files.files s _ c.in_ok-files.ensures.behaves in
    let ran = ran_then_ran s _ t read (ran_one c.in_ok-log.log _ t c.in_ok-log.ensures.behaves) in
    let same = files_then_files s _ t read.call c.read_files.ensures.files c.read_file.ensures.files in
    let refused = ap (λ fs. refused_of (contents fs) log) (sym c.deref.ensures.value)
    ∙ ap (λ (bytes : List ℕ). refused_of (contents c.deref.result.now) bytes) (sym c.deref-2.ensures.value) in
    input_of c.in_err-plan.field-0.0 c.from_residual-in_err-plan.result _ c.from_residual-in_err-plan.ensures.1
    (λ x is. (
      judged_inputs (contents files) log (u.rest c.in_ok-slot.slot),
      record {
        read = are_read w.width w.height w.frames.now w.log.now (texts w.files.now) (contents files) log (u.rest c.in_ok-slot.slot) s _ t
            read c.read_files.ensures.files ran same c.in_ok-files.ensures.read c.in_ok-log.ensures.read c.in_ok-slot.ensures.whole;
        first = first_of w.width w.height w.frames.now w.log.now (texts w.files.now) (contents files) log (u.rest c.in_ok-slot.slot)
            ∙ (refused ∙ c.in_err-plan.ensures.refused x is);
      },
    ))

pub returns-in_err-check-clause-behaves : goal.returns-in_err-check-clause-behaves
returns-in_err-check-clause-behaves g c =
    let s = g.F.Shelf.shelved c.args.shelf.now in
    let t = g.F.Shelf.shelved c.read_file.new.shelf in
    let u = g.F.Shelf.shelved c.open.new.self in
    let files = c.in_ok-files.files.items in
    let log = c.in_ok-log.log.items in
    let read = ran_one c.in_ok-files.files s _ c.in_ok-files.ensures.behaves in
    let ran = ran_then_ran s _ t read (ran_one c.in_ok-log.log _ t c.in_ok-log.ensures.behaves) in
    let opened = ran_one c.in_ok-slot.slot t u c.in_ok-slot.ensures.behaves in
    stops_at c.in_err-check.field-0.0 c.from_residual-in_err-check.result s u _ c.from_residual-in_err-check.ensures.1
    (ran_then_ran s t u ran opened) c.in_err-check.ensures.behaves (λ none. absurd none)

pub returns-clause-verdict : goal.returns-clause-verdict
returns-clause-verdict g c =
    let w = c.args.words.now in
    let s = g.F.Shelf.shelved c.args.shelf.now in
    let t = g.F.Shelf.shelved c.read_file.new.shelf in
    let u = g.F.Shelf.shelved c.open.new.self in
    let files = c.in_ok-files.files.items in
    let log = c.in_ok-log.log.items in
    let read = ran_one c.in_ok-files.files s _ c.in_ok-files.ensures.behaves in
    let ran = ran_then_ran s _ t read (ran_one c.in_ok-log.log _ t c.in_ok-log.ensures.behaves) in
    let same = files_then_files s _ t read.call c.read_files.ensures.files c.read_file.ensures.files in
    let judged = c.in_ok-check.ensures.verdict in
    let refused = ap (λ fs. refused_of (contents fs) log) (sym c.deref.ensures.value)
    ∙ ap (λ (bytes : List ℕ). refused_of (contents c.deref.result.now) bytes) (sym c.deref-2.ensures.value) in
    let bytes = judged.0 in
    let holds = held_by w.frames.now c.in_ok-slot.slot bytes t u c.in_ok-slot.ensures.behaves.call c.in_ok-slot.ensures.whole judged.1 in
    let planned = c.in_ok-plan.ensures.plan ∙ (ap (λ (z : Size). plan_read z (contents c.deref.result.now)) c.size_of-size.ensures.size
    ∙ ap (λ fs. plan_read (record { w = pos w.width; h = pos w.height }) (contents fs)) c.deref.ensures.value) in (
      judged_inputs (contents files) log bytes,
      record {
        read = are_read w.width w.height w.frames.now w.log.now (texts w.files.now) (contents files) log bytes s _ t
            read c.read_files.ensures.files ran same c.in_ok-files.ensures.read c.in_ok-log.ensures.read holds;
        good = first_of w.width w.height w.frames.now w.log.now (texts w.files.now) (contents files) log bytes
            ∙ (refused ∙ c.in_ok-plan.ensures.good);
      },
      subst (λ (x : Plan). IsVerdict x log bytes c.in_ok-check.field-0) planned
          (subst (λ (l : List ℕ). IsVerdict c.in_ok-plan.plan l bytes c.in_ok-check.field-0) c.deref-3.ensures.value judged.2),
    )

pub returns-clause-behaves : goal.returns-clause-behaves
returns-clause-behaves g c =
    let s = g.F.Shelf.shelved c.args.shelf.now in
    let t = g.F.Shelf.shelved c.read_file.new.shelf in
    let u = g.F.Shelf.shelved c.open.new.self in
    let v = g.F.Shelf.shelved c.check.new.shelf in
    let read = ran_then_ran s _ t (ran_one c.in_ok-files.files s _ c.in_ok-files.ensures.behaves) (ran_one c.in_ok-log.log _ t c.in_ok-log.ensures.behaves) in
    let opened = ran_one c.in_ok-slot.slot t u c.in_ok-slot.ensures.behaves in
    stops_after _ s v (ran_then_ran s u v (ran_then_ran s t u read opened) (ran_one c.in_ok-check.field-0 u v c.in_ok-check.ensures.behaves))
    (ok_is_none _ stop.Fault)

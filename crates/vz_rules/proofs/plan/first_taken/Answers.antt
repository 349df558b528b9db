use Rattle.std.proofs.Common.{◌+◌, Bool, cond, Some, take, drop, get_or, sym, ap, ◌∙◌, arith}
use Rattle.vz_frame.specs.declared.message.ClientFile.{ClientFile}
use Rattle.vz_rules.specs.Plan.{taken_from}
use Rattle.vz_rules.proofs.Sinks_before.{sinks_before, taken_step}
use Rattle.vz_rules.proofs.plan.first_taken.Goals as goal

pub returns-then-has_sink : goal.returns-then-has_sink
returns-then-has_sink c =
    let files = c.args.files.now in
    let place = c.loop-place.place in
    let step = taken_step files place (get_or files place c.index-files-place.result) c.loop-place-test.true (ap (λ (f : ClientFile). get_or files place f) c.index-files-place.is) in
    let further = taken_from (sinks_before (take (place + 1) files)) (place + 1) (drop (place + 1) files) in
    sym (c.loop-place.invariant.same ∙ (step ∙ ap (λ (t : Bool). cond t (Some place) further) (sym c.has_sink.ensures ∙ c.if-has_sink.true)))

pub loop-place-preserved : goal.loop-place-preserved
loop-place-preserved c =
    let files = c.args.files.now in
    let place = c.loop-place.place in
    let step = taken_step files place (get_or files place c.index-files-place.result) c.loop-place-test.true (ap (λ (f : ClientFile). get_or files place f) c.index-files-place.is) in
    let further = taken_from (sinks_before (take (place + 1) files)) (place + 1) (drop (place + 1) files) in
    record {
      within = omega arith;
      same = c.loop-place.invariant.same ∙ (step ∙ ap (λ (t : Bool). cond t (Some place) further) (sym c.has_sink.ensures ∙ c.if-has_sink.false));
    }

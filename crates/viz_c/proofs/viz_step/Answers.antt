use Rattle.std.proofs.Common.{sym, ◌∙◌}
use Rattle.viz_c.proofs.Parts_of_calls.{sides, some_files, few_files}
use Rattle.viz_c.proofs.Said_of_steps.{steps_for, refused_for, done, room, refused, in_range, not_call, kept, behind, lengths}
use Rattle.viz_c.specs.Calls.{size_of, cut}
use Rattle.viz_c.proofs.viz_step.Goals as goal

pub size_of-size-requires : goal.size_of-size-requires
size_of-size-requires c =
    sides c.args.w c.args.h c.args.files.now c.args.lengths.now (sym c.is_call.ensures ∙ c.if-not-is_call.false)

pub step-left-requires-clause-some : goal.step-left-requires-clause-some
step-left-requires-clause-some c =
    some_files c.args.w c.args.h c.args.files.now c.args.lengths.now (sym c.is_call.ensures ∙ c.if-not-is_call.false)

pub step-left-requires-clause-few : goal.step-left-requires-clause-few
step-left-requires-clause-few c =
    few_files c.args.w c.args.h c.args.files.now c.args.lengths.now (sym c.is_call.ensures ∙ c.if-not-is_call.false)

pub returns-clause-done : goal.returns-clause-done
returns-clause-done c is =
    let files = cut c.args.lengths.now c.args.files.now in
    done (size_of c.args.w c.args.h) files c.args.schedule.now _ _ _ _ c.step-left.result
    (steps_for _ _ files c.args.schedule.now c.step-left.result c.size_of-size.ensures.size c.step-left.ensures.steps) c.tell_step.ensures.told is

pub returns-clause-room : goal.returns-clause-room
returns-clause-room c is =
    let files = cut c.args.lengths.now c.args.files.now in
    room (size_of c.args.w c.args.h) files c.args.schedule.now _ _ _ _ c.step-left.result
    (steps_for _ _ files c.args.schedule.now c.step-left.result c.size_of-size.ensures.size c.step-left.ensures.steps) c.tell_step.ensures.told is

pub returns-clause-refused : goal.returns-clause-refused
returns-clause-refused c is =
    let files = cut c.args.lengths.now c.args.files.now in
    refused (size_of c.args.w c.args.h) files c.args.schedule.now _ _ _ _ c.step-left.result
    (refused_for _ _ files c.args.schedule.now c.step-left.result c.size_of-size.ensures.size c.step-left.ensures.refused) c.tell_step.ensures.told is

pub returns-clause-call : goal.returns-clause-call
returns-clause-call c is =
    absurd (not_call (size_of c.args.w c.args.h) (cut c.args.lengths.now c.args.files.now) c.args.schedule.now _ _ _ _ c.step-left.result c.tell_step.ensures.told is)

pub returns-clause-no_other : goal.returns-clause-no_other
returns-clause-no_other c none = absurd (let yes = sym c.is_call.ensures ∙ c.if-not-is_call.false in cc)

pub returns-clause-range : goal.returns-clause-range
returns-clause-range c =
    in_range (size_of c.args.w c.args.h) (cut c.args.lengths.now c.args.files.now) c.args.schedule.now _ _ _ _ c.step-left.result c.tell_step.ensures.told

pub returns-clause-kept : goal.returns-clause-kept
returns-clause-kept c other =
    kept (size_of c.args.w c.args.h) (cut c.args.lengths.now c.args.files.now) c.args.schedule.now _ _ _ _ c.step-left.result c.tell_step.ensures.told other

pub returns-clause-behind : goal.returns-clause-behind
returns-clause-behind c is =
    behind (size_of c.args.w c.args.h) (cut c.args.lengths.now c.args.files.now) c.args.schedule.now _ _ _ _ c.step-left.result c.tell_step.ensures.told is

pub returns-clause-lengths : goal.returns-clause-lengths
returns-clause-lengths c is =
    lengths (size_of c.args.w c.args.h) (cut c.args.lengths.now c.args.files.now) c.args.schedule.now _ _ _ _ c.step-left.result c.tell_step.ensures.told is

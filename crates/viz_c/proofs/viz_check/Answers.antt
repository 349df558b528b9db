use Rattle.std.proofs.Common.{sym, ◌∙◌}
use Rattle.viz_c.proofs.Parts_of_calls.{sides, some_files, few_files}
use Rattle.viz_c.proofs.Said_of_logs.{judges_for, agrees, differs, refused, in_range, not_call, not_room}
use Rattle.viz_c.specs.Calls.{size_of, cut}
use Rattle.viz_c.proofs.viz_check.Goals as goal

pub size_of-requires : goal.size_of-requires
size_of-requires c =
    sides c.args.w c.args.h c.args.files.now c.args.lengths.now (sym c.is_call.ensures ∙ c.if-not-is_call.false)

pub judge-verdict-requires-clause-some : goal.judge-verdict-requires-clause-some
judge-verdict-requires-clause-some c =
    some_files c.args.w c.args.h c.args.files.now c.args.lengths.now (sym c.is_call.ensures ∙ c.if-not-is_call.false)

pub judge-verdict-requires-clause-few : goal.judge-verdict-requires-clause-few
judge-verdict-requires-clause-few c =
    few_files c.args.w c.args.h c.args.files.now c.args.lengths.now (sym c.is_call.ensures ∙ c.if-not-is_call.false)

pub returns-clause-agrees : goal.returns-clause-agrees
returns-clause-agrees c is =
    let files = cut c.args.lengths.now c.args.files.now in
    agrees (size_of c.args.w c.args.h) files c.args.log.now c.args.frames.now _ _ _ _ c.judge-verdict.result
    (judges_for _ _ files c.args.log.now c.args.frames.now c.judge-verdict.result c.size_of.ensures.size c.judge-verdict.ensures.judges)
    c.tell_check.ensures.told is

pub returns-clause-differs : goal.returns-clause-differs
returns-clause-differs c is =
    let files = cut c.args.lengths.now c.args.files.now in
    differs (size_of c.args.w c.args.h) files c.args.log.now c.args.frames.now _ _ _ _ c.judge-verdict.result
    (judges_for _ _ files c.args.log.now c.args.frames.now c.judge-verdict.result c.size_of.ensures.size c.judge-verdict.ensures.judges)
    c.tell_check.ensures.told is

pub returns-clause-refused : goal.returns-clause-refused
returns-clause-refused c is =
    refused (size_of c.args.w c.args.h) (cut c.args.lengths.now c.args.files.now) c.args.log.now c.args.frames.now _ _ _ _
    c.judge-verdict.result c.judge-verdict.ensures.refused c.tell_check.ensures.told is

pub returns-clause-call : goal.returns-clause-call
returns-clause-call c is =
    absurd (not_call (size_of c.args.w c.args.h) (cut c.args.lengths.now c.args.files.now) c.args.log.now c.args.frames.now _ _ _ _
    c.judge-verdict.result c.tell_check.ensures.told is)

pub returns-clause-no_other : goal.returns-clause-no_other
returns-clause-no_other c none = absurd (let yes = sym c.is_call.ensures ∙ c.if-not-is_call.false in cc)

pub returns-clause-range : goal.returns-clause-range
returns-clause-range c =
    in_range (size_of c.args.w c.args.h) (cut c.args.lengths.now c.args.files.now) c.args.log.now c.args.frames.now _ _ _ _
    c.judge-verdict.result c.tell_check.ensures.told

pub returns-clause-no_room : goal.returns-clause-no_room
returns-clause-no_room c is =
    not_room (size_of c.args.w c.args.h) (cut c.args.lengths.now c.args.files.now) c.args.log.now c.args.frames.now _ _ _ _
    c.judge-verdict.result c.tell_check.ensures.told is

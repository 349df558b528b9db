use Rattle.std.proofs.Common.{sym, ◌∙◌}
use Rattle.viz_c.proofs.Parts_of_calls.{few_rounds, three_lengths}
use Rattle.viz_c.proofs.Said_of_files.{as_many, done, each_length, room, in_range, not_call, kept, behind}
use Rattle.viz_c.proofs.viz_gen.Goals as goal

pub make_files-requires : goal.make_files-requires
make_files-requires c = few_rounds c.args.rounds c.args.lengths.now (sym c.is_gen_call.ensures ∙ c.if-not-is_gen_call.false)

pub tell_made-requires : goal.tell_made-requires
tell_made-requires c =
    as_many c.args.rounds c.make_files.result _ c.make_files.ensures.lengths
    (three_lengths c.args.rounds c.args.lengths.now (sym c.is_gen_call.ensures ∙ c.if-not-is_gen_call.false))

pub returns-clause-done : goal.returns-clause-done
returns-clause-done c is =
    done c.args.rounds _ _ _ _ c.make_files.result c.make_files.ensures.bytes c.make_files.ensures.lengths c.tell_made.ensures.told is

pub returns-clause-lengths : goal.returns-clause-lengths
returns-clause-lengths c is =
    each_length c.args.rounds _ _ _ _ c.make_files.result c.make_files.ensures.bytes c.make_files.ensures.lengths c.tell_made.ensures.told is

pub returns-clause-room : goal.returns-clause-room
returns-clause-room c is =
    room c.args.rounds _ _ _ _ c.make_files.result c.make_files.ensures.bytes c.make_files.ensures.lengths c.tell_made.ensures.told is

pub returns-clause-call : goal.returns-clause-call
returns-clause-call c is = absurd (not_call c.args.rounds _ _ _ _ c.make_files.result c.tell_made.ensures.told is)

pub returns-clause-no_other : goal.returns-clause-no_other
returns-clause-no_other c none = absurd (let yes = sym c.is_gen_call.ensures ∙ c.if-not-is_gen_call.false in cc)

pub returns-clause-range : goal.returns-clause-range
returns-clause-range c = in_range c.args.rounds _ _ _ _ c.make_files.result c.tell_made.ensures.told

pub returns-clause-kept : goal.returns-clause-kept
returns-clause-kept c other = kept c.args.rounds _ _ _ _ c.make_files.result c.tell_made.ensures.told other

pub returns-clause-behind : goal.returns-clause-behind
returns-clause-behind c is = behind c.args.rounds _ _ _ _ c.make_files.result c.tell_made.ensures.told is

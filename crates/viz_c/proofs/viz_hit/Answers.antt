use Rattle.std.proofs.Common.{sym, ◌∙◌, inl, inr}
use Rattle.viz_c.proofs.Parts_of_calls.{sides, some_files, few_files, column_near, row_near, point_shown, both_hold, one_fails}
use Rattle.viz_c.proofs.Said_of_steps.{refused_for}
use Rattle.viz_c.proofs.Said_of_points.{hits_for, some_hit, none_hit, refused, in_range, not_call, not_room, not_fault}
use Rattle.viz_c.specs.Calls.{size_of, cut}
use Rattle.viz_c.proofs.viz_hit.Goals as goal

pub size_of-requires : goal.size_of-requires
size_of-requires c =
    sides c.args.w c.args.h c.args.files.now c.args.lengths.now (sym c.is_call.ensures ∙ c.if-not-is_call.false)

pub point_of-point-requires-clause-column : goal.point_of-point-requires-clause-column
point_of-point-requires-clause-column c =
    column_near c.args.w c.args.h (sides c.args.w c.args.h c.args.files.now c.args.lengths.now (sym c.is_call.ensures ∙ c.if-not-is_call.false))
    c.args.x c.args.y (sym c.is_inside.ensures ∙ c.if-not-is_inside.false)

pub point_of-point-requires-clause-row : goal.point_of-point-requires-clause-row
point_of-point-requires-clause-row c =
    row_near c.args.w c.args.h (sides c.args.w c.args.h c.args.files.now c.args.lengths.now (sym c.is_call.ensures ∙ c.if-not-is_call.false))
    c.args.x c.args.y (sym c.is_inside.ensures ∙ c.if-not-is_inside.false)

pub hit-found-requires-clause-some : goal.hit-found-requires-clause-some
hit-found-requires-clause-some c =
    some_files c.args.w c.args.h c.args.files.now c.args.lengths.now (sym c.is_call.ensures ∙ c.if-not-is_call.false)

pub hit-found-requires-clause-few : goal.hit-found-requires-clause-few
hit-found-requires-clause-few c =
    few_files c.args.w c.args.h c.args.files.now c.args.lengths.now (sym c.is_call.ensures ∙ c.if-not-is_call.false)

pub hit-found-requires-clause-point : goal.hit-found-requires-clause-point
hit-found-requires-clause-point c =
    point_shown c.args.w c.args.h (sides c.args.w c.args.h c.args.files.now c.args.lengths.now (sym c.is_call.ensures ∙ c.if-not-is_call.false))
    c.args.x c.args.y (sym c.is_inside.ensures ∙ c.if-not-is_inside.false) _ _ c.size_of.ensures.size c.point_of-point.ensures

pub returns-clause-hit : goal.returns-clause-hit
returns-clause-hit c is =
    let files = cut c.args.lengths.now c.args.files.now in
    some_hit (size_of c.args.w c.args.h) files c.args.schedule.now _ _ _ _ c.hit-found.result
    (hits_for _ _ _ _ files c.args.schedule.now c.hit-found.result c.size_of.ensures.size c.point_of-point.ensures c.hit-found.ensures.hits)
    c.tell_hit.ensures.told is

pub returns-clause-nothing : goal.returns-clause-nothing
returns-clause-nothing c is =
    let files = cut c.args.lengths.now c.args.files.now in
    none_hit (size_of c.args.w c.args.h) files c.args.schedule.now _ _ _ _ c.hit-found.result
    (hits_for _ _ _ _ files c.args.schedule.now c.hit-found.result c.size_of.ensures.size c.point_of-point.ensures c.hit-found.ensures.hits)
    c.tell_hit.ensures.told is

pub returns-clause-refused : goal.returns-clause-refused
returns-clause-refused c is =
    let files = cut c.args.lengths.now c.args.files.now in
    refused (size_of c.args.w c.args.h) files c.args.schedule.now c.point_of-point.result _ _ _ c.hit-found.result
    (refused_for _ _ files c.args.schedule.now c.hit-found.result c.size_of.ensures.size c.hit-found.ensures.refused) c.tell_hit.ensures.told is

pub returns-then-not-is_call-clause-call : goal.returns-then-not-is_call-clause-call
returns-then-not-is_call-clause-call c is =
    one_fails c.args.w c.args.h c.args.x c.args.y c.args.files.now c.args.lengths.now (inl (sym c.is_call.ensures ∙ c.if-not-is_call.true))

pub returns-then-not-is_inside-clause-call : goal.returns-then-not-is_inside-clause-call
returns-then-not-is_inside-clause-call c is =
    one_fails c.args.w c.args.h c.args.x c.args.y c.args.files.now c.args.lengths.now (inr (sym c.is_inside.ensures ∙ c.if-not-is_inside.true))

pub returns-clause-call : goal.returns-clause-call
returns-clause-call c is =
    absurd (not_call (size_of c.args.w c.args.h) (cut c.args.lengths.now c.args.files.now) c.args.schedule.now c.point_of-point.result _ _ _
    c.hit-found.result c.tell_hit.ensures.told is)

pub returns-clause-no_other : goal.returns-clause-no_other
returns-clause-no_other c none =
    absurd (both_hold c.args.w c.args.h c.args.x c.args.y c.args.files.now c.args.lengths.now (sym c.is_call.ensures ∙ c.if-not-is_call.false)
    (sym c.is_inside.ensures ∙ c.if-not-is_inside.false) none)

pub returns-clause-range : goal.returns-clause-range
returns-clause-range c =
    in_range (size_of c.args.w c.args.h) (cut c.args.lengths.now c.args.files.now) c.args.schedule.now c.point_of-point.result _ _ _
    c.hit-found.result c.tell_hit.ensures.told

pub returns-clause-no_room : goal.returns-clause-no_room
returns-clause-no_room c is =
    not_room (size_of c.args.w c.args.h) (cut c.args.lengths.now c.args.files.now) c.args.schedule.now c.point_of-point.result _ _ _
    c.hit-found.result c.tell_hit.ensures.told is

pub returns-clause-no_fault : goal.returns-clause-no_fault
returns-clause-no_fault c is =
    not_fault (size_of c.args.w c.args.h) (cut c.args.lengths.now c.args.files.now) c.args.schedule.now c.point_of-point.result _ _ _
    c.hit-found.result c.tell_hit.ensures.told is

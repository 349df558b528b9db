use Rattle.std.proofs.Common.{sym, ap, ◌∙◌}
use Rattle.std.specs.Option.{option_copied}
use Rattle.vz_rules.specs.Walk.{whole, walk_of, too_much}
use Rattle.vz_placement.proofs.Rooms.{place_room, room_first}
use Rattle.vz_scene.proofs.Rooting.{walk_none, walk_some, nothing_is_little}
use Rattle.vz_scene.proofs.walk.walk_of.Goals as goal

pub enter-requires : goal.enter-requires
enter-requires c = place_room 51118080 c.whole-place.result (whole c.args.size) c.whole-place.ensures room_first

pub returns-in-None : goal.returns-in-None
returns-in-None c =
    let none = walk_none c.args.size c.args.root.now c.args.active.now _ c.frame_on.ensures (ap option_copied c.in-None.is) in
    (c.new-walked.ensures ∙ sym none, ap too_much none ∙ nothing_is_little)

pub returns-in_ok-run-in-Some : goal.returns-in_ok-run-in-Some
returns-in_ok-run-in-Some c =
    let active = c.args.active.now in
    c.in_ok-run-in-Some.ensures (walk_of c.args.size (record { root = c.args.root.now; active = active }))
    (walk_some c.args.size c.args.root.now active _ c.in-Some.submitted.now c.new-walked.result c.add_enters.new.self c.new-stack.result.items _ c.in_ok-enter-in-Some.field-0 c.whole-place.result
    c.frame_on.ensures (ap option_copied c.in-Some.is) c.new-walked.ensures c.in_ok-add_enters-in-Some.ensures.visits c.whole-place.ensures c.new-stack.ensures.items c.in_ok-push_some-in-Some.ensures
    (c.in_ok-enter-in-Some.ensures active))

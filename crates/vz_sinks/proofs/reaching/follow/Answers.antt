use Rattle.std.proofs.Common.{◌+◌, drop, sym, ◌∙◌}
use Rattle.vz_rules.specs.Messages.{children}
use Rattle.vz_sinks.proofs.Followed.{room_for, child_step}
use Rattle.vz_sinks.proofs.reaching.follow.Goals as goal

-- there is room for the children that are left
pub add-requires : goal.add-requires
add-requires c none =
    let l = c.loop-relation in
    room_for l.out.list (children (drop (l.relation-index + 1) c.args.relations.now) c.args.from) _ _ _ l.out.spare
    (child_step c.args.relations.now l.relation-index _ c.args.from l.out.list _ c.loop-relation-test.true l.invariant.0 (sym c.is_same.ensures ∙ c.if-is_same.true)) c.requires l.invariant.1 none

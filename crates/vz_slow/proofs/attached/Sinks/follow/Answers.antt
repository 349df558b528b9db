use Rattle.std.proofs.Common.{◌+◌, drop, sym, ◌∙◌}
use Rattle.vz_rules.specs.Messages.{children}
use Rattle.vz_slow.proofs.Attaching.{room_for, child_step}
use Rattle.vz_slow.proofs.attached.Sinks.follow.Goals as goal

-- there is room for the children that are left
pub add-requires : goal.add-requires
add-requires c none =
    let l = c.loop-relation in
    room_for l.self (children (drop (l.relation-index + 1) c.args.relations.now) c.args.from) _ _
    (child_step c.args.relations.now l.relation-index _ c.args.from l.self _ c.loop-relation-test.true l.invariant (sym c.eq.ensures ∙ c.if-eq.true)) c.requires none

use Rattle.std.proofs.Common.{sym, ◌∙◌}
use Rattle.std.specs.BTreeMap.{get}
use Rattle.vz_scene.specs.Groups.{by_group}
use Rattle.vz_scene.proofs.Reaching.{reached_already, reached_beside, reached_instead, covers_none, covers_older}
use Rattle.vz_scene.proofs.newest.put.Goals as goal

pub returns-then-is_at_least-clause-ok : goal.returns-then-is_at_least-clause-ok
returns-then-is_at_least-clause-ok c =
    reached_already c.args.groups.now c.args.others.now.items c.args.id.now c.in-Some.newest.now c.group-key.result c.group-key.ensures c.in-Some.ensures.value
    (sym c.is_at_least.ensures ∙ c.if-is_at_least.true)

pub returns-then-is_at_least-2-clause-ok : goal.returns-then-is_at_least-2-clause-ok
returns-then-is_at_least-2-clause-ok c =
    let key = c.group-key.result in
    let old = c.args.groups.now in
    reached_instead old c.insert-then-is_at_least-2.new.self c.args.others.now.items c.args.id.now key c.group-key.ensures c.in_ok-insert-in-Some.ensures.updates.0
    (covers_older (get by_group old key) c.args.id.now c.in-Some.newest.now c.in-Some.ensures.value (sym c.is_at_least-in-Some.ensures ∙ c.if-is_at_least-2.true))

pub returns-in_ok-insert-in-None-clause-ok : goal.returns-in_ok-insert-in-None-clause-ok
returns-in_ok-insert-in-None-clause-ok c =
    let key = c.group-key.result in
    let old = c.args.groups.now in
    reached_instead old c.insert.new.self c.args.others.now.items c.args.id.now key c.group-key.ensures c.in_ok-insert-in-None.ensures.updates.0
    (covers_none (get by_group old key) c.args.id.now c.in-None.ensures.value)

pub returns-in_ok-push-in-Some-clause-ok : goal.returns-in_ok-push-in-Some-clause-ok
returns-in_ok-push-in-Some-clause-ok c = reached_beside c.args.groups.now c.args.others.now.items c.push.new.self.items c.args.id.now c.in_ok-push-in-Some.ensures.items

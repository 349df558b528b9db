use Rattle.std.proofs.Common.{ap, ◌∙◌}
use Rattle.vz_rules.specs.World.{World}
use Rattle.vz_slow.proofs.Losing.{collect_is, destroyed_is}
use Rattle.vz_slow.proofs.world.World.collect.Goals as goal

pub returns-clause-destroyed : goal.returns-clause-destroyed
returns-clause-destroyed c =
    let clients = c.deref.ensures.value ∙ ap (λ (u : World). u.clients) c.self.view_is in
    let lost = c.deref-2.ensures.value ∙ c.in_ok-lost.ensures in
    destroyed_is c.args.self.now c.name_all.new.self c.deref.result.now c.deref-2.result.now c.in_ok-names.names.items c.in_ok-name_all.ensures clients lost c.in_ok-names.ensures

pub returns-clause-world : goal.returns-clause-world
returns-clause-world c = collect_is c.args.self.now c.name_all.new.self c.clear.new.self c.in_ok-name_all.ensures c.clear.ensures

use Rattle.std.proofs.Common.{◌∙◌, ap}
use Rattle.vz_player.specs.Tested.{first_tested}
use Rattle.vz_rules.specs.Plan.{Plan}
use Rattle.vz_rules.specs.World.{Machine}
use Rattle.viz_c.proofs.Tested_more.{hit_in}
use Rattle.viz_c.proofs.hit.find.Goals as goal

pub returns : goal.returns
returns c =
    let opened = ap (λ (m : Machine). m.plan) c.in_ok-machine.ensures in
    hit_in c.args.plan c.args.point c.args.events.now c.new-tester.result c.take_all.new.tester c.hit.result
    (c.new-tester.ensures ∙ ap (λ (p : Plan). first_tested p c.args.point) opened) c.in_ok-take_all.ensures c.history.ensures.legal c.hit.ensures

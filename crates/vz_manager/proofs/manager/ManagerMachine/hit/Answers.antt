use Rattle.std.proofs.Common.{◌∙◌}
use Rattle.vz_manager.proofs.Hitting.{found_there}
use Rattle.vz_manager.proofs.manager.ManagerMachine.hit.Goals as goal

pub returns-in-None : goal.returns-in-None
returns-in-None c = found_there _ _ c.args.p _ c.in-None.is (c.in_ok-regions.ensures.hit c.args.p c.requires)

pub returns-in-Some : goal.returns-in-Some
returns-in-Some c =
    c.hit_in_regions.ensures ∙ found_there _ _ c.args.p _ c.in-Some.is (c.in_ok-regions.ensures.hit c.args.p c.requires)

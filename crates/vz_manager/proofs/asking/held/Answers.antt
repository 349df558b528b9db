use Rattle.std.proofs.Common.{◌∙◌}
use Rattle.vz_rules.specs.Log.{rest_in}
use Rattle.vz_manager.proofs.Resting.{appended}
use Rattle.vz_manager.proofs.asking.held.Goals as goal

pub returns : goal.returns
returns c w always live =
    appended _ _ _ (rest_in w).held c.into_list.ensures (c.held.ensures w _ always live) (c.make_room.ensures.list ∙ c.new-out.ensures)

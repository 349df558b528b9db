use Rattle.std.proofs.Common.{◌∙◌}
use Rattle.vz_rules.specs.Log.{rest_in}
use Rattle.vz_manager.proofs.Resting.{appended}
use Rattle.vz_manager.proofs.asking.unfed.Goals as goal

pub returns : goal.returns
returns c w keeps live =
    appended _ _ _ (rest_in w).unfed c.into_list.ensures (c.subs.ensures w _ keeps live) (c.reserve.ensures.list ∙ c.new-out.ensures)

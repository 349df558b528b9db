use Rattle.std.proofs.Common.{sym, ◌∙◌}
use Rattle.vz_rules.specs.Settle.{is_met}
use Rattle.vz_manager.proofs.Judged.{put_lack, put_none}
use Rattle.vz_manager.proofs.judging.put_lacked.Goals as goal

pub returns-then-not-is_met-clause-list : goal.returns-then-not-is_met-clause-list
returns-then-not-is_met-clause-list c p w asks =
    put_lack (is_met w) c.args.d.now _ _ (sym (c.is_met.ensures p w asks) ∙ c.if-not-is_met.true) c.put.ensures.list

pub returns-else-not-is_met-clause-list : goal.returns-else-not-is_met-clause-list
returns-else-not-is_met-clause-list c p w asks =
    put_none (is_met w) c.args.d.now _ (sym (c.is_met.ensures p w asks) ∙ c.if-not-is_met.false)

use Rattle.std.proofs.Common.{None, sym, ◌∙◌}
use Rattle.vz_manager.proofs.Reading_all.{created_none, created_some}
use Rattle.vz_manager.proofs.arriving.created.Goals as goal

pub returns-then-is_last : goal.returns-then-is_last
returns-then-is_last c w x local live number named tick =
    created_none w c.args.c x local c.args.id _ number named (c.last.ensures.last w None live) (sym c.is_last.ensures ∙ c.if-is_last.true)

pub returns : goal.returns
returns c w x local live number named tick =
    created_some w c.args.c x local c.args.id _ number named (c.last.ensures.last w None live) c.args.tick tick
    (sym c.is_last.ensures ∙ c.if-is_last.false)

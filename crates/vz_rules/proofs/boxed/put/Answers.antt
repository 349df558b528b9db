use Rattle.std.proofs.Common.{sym, ◌∙◌}
use Rattle.vz_rules.proofs.boxed.put.Goals as goal

pub returns-then-is_nothing : goal.returns-then-is_nothing
returns-then-is_nothing c = c.none.ensures ∙ sym (c.is_nothing.ensures c.if-is_nothing.true)

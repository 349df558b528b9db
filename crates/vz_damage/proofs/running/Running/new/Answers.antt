use Rattle.std.proofs.Common.{ap, ◌∙◌, ◌++◌, ◌∷◌, []}
use Rattle.vz_damage.proofs.Joining.{as_first}
use Rattle.vz_damage.proofs.running.Running.new.Goals as goal

pub invariant_of-result : goal.invariant_of-result
invariant_of-result c = as_first _ c.args.damage c.empty.ensures c.is_empty.ensures.proper _ (c.show.ensures ∙ ap (λ l. l ++ c.args.damage ∷ []) c.new-damages.ensures)

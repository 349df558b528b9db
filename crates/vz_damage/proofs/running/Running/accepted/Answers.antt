use Rattle.std.proofs.Common.{ap, sym, ◌∙◌, ◌+◌, length}
use Rattle.vz_damage.proofs.Joining.{as_told}
use Rattle.vz_damage.proofs.running.Running.accepted.Goals as goal

pub invariant_of-self : goal.invariant_of-self
invariant_of-self c = as_told _ c.self.inside.waiting _ c.args.damage c.self.inside.told c.args.index _ _ c.self.invariant c.bound-self-inside.ensures.value c.is_empty.ensures.proper (c.requires ∙ ap (λ t. length t.damages + 1) (sym c.self.view_is)) c.show.ensures

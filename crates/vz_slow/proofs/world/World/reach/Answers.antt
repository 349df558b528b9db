use Rattle.std.proofs.Common.{ap, ◌∙◌}
use Rattle.vz_rules.specs.World.{World}
use Rattle.vz_slow.proofs.Losing.{reach_is}
use Rattle.vz_slow.proofs.world.World.reach.Goals as goal

pub returns : goal.returns
returns c =
    reach_is c.args.self.now c.in_ok-active.active c.deref.result.now _ (c.in_ok-active.ensures ∙ (c.deref-2.ensures.value ∙ c.in_ok-frames.ensures))
    (c.deref.ensures.value ∙ ap (λ (u : World). u.subs) c.self.view_is) c.in_ok-reach_over.ensures

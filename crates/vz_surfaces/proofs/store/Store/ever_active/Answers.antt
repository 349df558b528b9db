use Rattle.std.proofs.Common.{ap, ◌∙◌}
use Rattle.vz_surfaces.specs.Reading.{was_reached}
use Rattle.vz_surfaces.proofs.store.Store.ever_active.Goals as goal

pub returns : goal.returns
returns c = c.was_active.ensures ∙ (c.self.invariant.0.groups.reached c.args.d.now ∙ ap (λ st. was_reached st c.args.d.now) c.self.view_is)

use Rattle.std.proofs.Common.{◌∙◌, ap}
use Rattle.vz_geom.specs.Rectangle.{has}
use Rattle.vz_test_calls.proofs.hits.is_on.Goals as goal

pub returns : goal.returns
returns c = c.contains.ensures.value ∙ ap (λ r. has r c.args.p) c.of_display.ensures

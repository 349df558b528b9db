use Rattle.std.proofs.Common.{Some, ap, ◌∙◌}
use Rattle.vz_damage.specs.Told.{Damaged}
use Rattle.vz_damage.specs.Measured.{Measurement}
use Rattle.vz_damage.proofs.damage.Damage.remember.Goals as goal

pub returns-clause-last : goal.returns-clause-last
returns-clause-last c = ap (λ (d : Damaged). d.last) c.keep.ensures ∙ ap (λ (m : Measurement). Some m.kept) c.measured.view_is

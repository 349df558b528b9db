use Rattle.std.proofs.Common.{refl}
use Rattle.vz_test_parts.proofs.Screen.{all_inside}
use Rattle.vz_test_parts.proofs.occluded.thin_of.Goals as goal

pub new-picture-requires-clause-inside : goal.new-picture-requires-clause-inside
new-picture-requires-clause-inside c = all_inside c.new-all.result _ c.new-all.ensures.value refl

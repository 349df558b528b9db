-- The tests that maps make of their keys are those of the definitions.
use Rattle.std.proofs.Common.{arith, ◌≡◌}
use Rattle.std.proofs.lemmas.Bool.Decides.{nat_tests}
use Rattle.vz_ids.specs.Ids.{same_surface, same_sub}
use Rattle.vz_surfaces.specs.Memory.{is_key, is_name}

pub keys : is_key ≡ same_surface
keys = grind (arith, nat_tests)

pub names : is_name ≡ same_sub
names = grind (arith, nat_tests)

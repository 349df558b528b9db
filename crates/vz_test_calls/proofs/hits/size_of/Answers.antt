use Rattle.std.proofs.Common.{arith}
use Rattle.vz_test_calls.proofs.hits.size_of.Goals as goal

pub overflow_cast-result : goal.overflow_cast-result
overflow_cast-result c = let near = c.requires.not_too_wide in omega arith

pub overflow_cast-result-2 : goal.overflow_cast-result-2
overflow_cast-result-2 c = let near = c.requires.not_too_high in omega arith

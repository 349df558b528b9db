use Rattle.vz_test_parts.proofs.Screen.{all_inside}
use Rattle.vz_test_parts.proofs.thinned.painted.Goals as goal

pub paint-requires-clause-inside : goal.paint-requires-clause-inside
paint-requires-clause-inside g c = λ _ _. all_inside c.new-all.result c.in_ok-buffer.buffer.size c.new-all.ensures.value c.in_ok-buffer.ensures.size

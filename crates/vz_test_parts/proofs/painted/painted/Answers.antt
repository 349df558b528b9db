use Rattle.vz_test_parts.proofs.Screen.{lies_inside}
use Rattle.vz_test_parts.proofs.painted.painted.Goals as goal

pub paint-requires-clause-inside : goal.paint-requires-clause-inside
paint-requires-clause-inside g c = λ _ _. lies_inside c.intersect-area.result c.new-part.result c.new-all.result c.in_ok-buffer.buffer.size c.intersect-area.ensures.points c.new-all.ensures.value c.in_ok-buffer.ensures.size

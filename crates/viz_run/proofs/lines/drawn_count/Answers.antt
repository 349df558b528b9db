use Rattle.std.proofs.Common.{rules}
use Rattle.viz_run.proofs.lines.drawn_count.Goals as goal

pub returns : goal.returns
returns c = search rules

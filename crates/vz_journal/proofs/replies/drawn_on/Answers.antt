use Rattle.std.proofs.Common.{◌∙◌}
use Rattle.vz_journal.proofs.Damages.{drawn_sides}
use Rattle.vz_journal.proofs.replies.drawn_on.Goals as goal

pub returns : goal.returns
returns c = c.new.ensures.value ∙ drawn_sides c.args.x c.args.y c.args.w c.args.h c.requires

use Rattle.std.proofs.Common.{◌∙◌}
use Rattle.vz_gen.proofs.Small.{rect_is}
use Rattle.vz_gen.proofs.parts.rect.Goals as goal

pub returns : goal.returns
returns c = c.new.ensures.value ∙ rect_is c.args.x c.args.y c.args.w c.args.h c.requires.x c.requires.y c.requires.w c.requires.h

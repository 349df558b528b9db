use Rattle.std.proofs.Common.{◌∙◌}
use Rattle.vz_geom.proofs.Displays.{display_read}
use Rattle.vz_geom.proofs.rect.Rect.of_display.Goals as goal

pub returns : goal.returns
returns c = c.new.ensures.value ∙ display_read c.args.size c.requires

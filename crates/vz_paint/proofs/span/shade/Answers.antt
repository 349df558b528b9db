use Rattle.std.proofs.Common.{sym, ap, ◌∙◌}
use Rattle.vz_pixels.specs.Colour.{scale}
use Rattle.vz_pixels.proofs.Over.{scale_full}
use Rattle.vz_paint.proofs.span.shade.Goals as goal

pub returns-then-opacity-eq255 : goal.returns-then-opacity-eq255
returns-then-opacity-eq255 c = sym (ap (scale c.args.color) c.if-opacity-eq255.true ∙ scale_full c.args.color)

use Rattle.std.proofs.Common.{ap, sym, ◌∙◌}
use Rattle.vz_pixels.specs.Colour.{scale}
use Rattle.vz_pixels.proofs.Over.{scale_full}
use Rattle.vz_frame.proofs.blend.scaled.Goals as goal

pub returns-then-opacity-eq255 : goal.returns-then-opacity-eq255
returns-then-opacity-eq255 c = sym (ap (scale c.args.colour) c.if-opacity-eq255.true ∙ scale_full c.args.colour)

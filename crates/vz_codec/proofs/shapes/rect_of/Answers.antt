use Rattle.std.proofs.Common.{◌≡◌, true, rules, sym, ◌∙◌}
use Rattle.vz_frame.specs.Fits.{fits_rect}
use Rattle.vz_codec.specs.Fields.{rectangle}
use Rattle.vz_codec.proofs.Rects.{made}
use Rattle.vz_codec.proofs.shapes.rect_of.Goals as goal

pub returns-then-are_rect-clause-value : goal.returns-then-are_rect-clause-value
returns-then-are_rect-clause-value c =
    let s = c.args.sides.now in
    let fits : fits_rect (rectangle s) ≡ true = sym c.are_rect.ensures ∙ c.if-are_rect.true in
    c.new.ensures.value ∙ made s.x s.y s.w s.h (search rules) (search rules) (search rules) (search rules) fits

use Rattle.std.proofs.Common.{sym, ◌∙◌}
use Rattle.vz_pixels.specs.Colour.{transparent}
use Rattle.vz_frame.specs.Blending.{laid}
use Rattle.vz_plain.specs.Painting.{embedded, inside_here}
use Rattle.vz_plain.proofs.Rowed.{straight_content, laid_content}
use Rattle.vz_plain.proofs.Waiting.{mapped}
use Rattle.vz_plain.proofs.paint.Painter.content.Goals as goal

pub returns-in_ok-straight-clause-painted : goal.returns-in_ok-straight-clause-painted
returns-in_ok-straight-clause-painted c =
    let p = c.args.self.now in
    let i = c.args.submitted.now in
    mapped p.active (embedded p p.path i) (inside_here p i c.args.mode c.args.opacity) c.args.first c.args.first c.args.row.now c.args.row.now _
    (λ new h. straight_content p i c.args.mode c.args.opacity c.args.first c.args.row.now new (sym c.is_straight.ensures ∙ c.if-is_straight.true) h) c.in_ok-straight.ensures.painted

pub returns-in_ok-apart-clause-painted : goal.returns-in_ok-apart-clause-painted
returns-in_ok-apart-clause-painted c =
    let p = c.args.self.now in
    let i = c.args.submitted.now in
    mapped p.active (λ q d. laid c.args.mode (embedded p p.path i q transparent) c.args.opacity d) (inside_here p i c.args.mode c.args.opacity) c.args.first c.args.first c.args.row.now c.apart.new.row _
    (λ new h. laid_content p i c.args.mode c.args.opacity c.args.first c.args.row.now new (sym c.is_straight.ensures ∙ c.if-is_straight.false) h) c.in_ok-apart.ensures.painted

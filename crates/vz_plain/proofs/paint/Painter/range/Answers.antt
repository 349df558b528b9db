use Rattle.std.proofs.Common.{sym, ap, ◌∙◌}
use Rattle.std.specs.Option.{option_copied}
use Rattle.vz_rules.specs.Scene.{shown_frame}
use Rattle.vz_plain.specs.Painting.{Painter, ranges, shown_here}
use Rattle.vz_plain.proofs.Rowed.{range_shown}
use Rattle.vz_plain.proofs.Showing.{off_path}
use Rattle.vz_plain.proofs.Waiting.{mapped}
use Rattle.vz_plain.proofs.paint.Painter.range.Goals as goal

pub returns-in_ok-shown-in-Some-clause-painted : goal.returns-in_ok-shown-in-Some-clause-painted
returns-in_ok-shown-in-Some-clause-painted c =
    let p = c.args.self.now in
    let i = c.in-Some.submitted.now in
    let off = off_path _ p i _ _ c.self.view_is c.id.ensures c.has.ensures c.if-has.false in
    mapped p.active (shown_here p c.args.range.now c.args.background i c.args.mode c.args.opacity) (ranges p c.args.range.now c.args.background c.args.mode c.args.opacity) c.args.local c.args.local c.args.row.now c.shown.new.row _
    (λ new h.
    range_shown p c.args.range.now c.args.background i c.args.mode c.args.opacity c.args.local c.args.row.now new
    (sym (c.shown_frame.ensures ∙ ap (λ (s : Painter). shown_frame s.active c.args.range.now) c.self.view_is) ∙ ap option_copied c.in-Some.is) off h)
    c.in_ok-shown-in-Some.ensures.painted

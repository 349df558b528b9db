use Rattle.std.proofs.Common.{sym, ap, ◌∙◌}
use Rattle.vz_frame.specs.declared.frame.CompositorFrame.{CompositorFrame}
use Rattle.vz_plain.proofs.Beginning.{entered_begun}
use Rattle.vz_plain.proofs.paint.Painter.entered.Goals as goal

pub returns-in_ok-path-in-Some-clause-entered : goal.returns-in_ok-path-in-Some-clause-entered
returns-in_ok-path-in-Some-clause-entered c =
    entered_begun _ c.args.self.now c.self.view_is c.args.submitted.now c.id.result _ c.in-Some.earlier.now c.in-Some.root.now _ c.args.first c.args.row.items c.args.mode c.args.opacity
    c.if-self-eq0.false c.id.ensures c.in_ok-path-in-Some.ensures (sym (c.as_slice.ensures ∙ ap (λ (f : CompositorFrame). f.passes) c.frame.ensures.value) ∙ c.in-Some.ensures.cases.0) c.as_slice-in-Some.ensures

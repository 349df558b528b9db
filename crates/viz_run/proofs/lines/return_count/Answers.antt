use Rattle.std.proofs.Common.{◌+◌, refl, ap, ◌∙◌, take_all}
use Rattle.vz_display.specs.Displayed.{upto_most}
use Rattle.viz_run.specs.Lines.{return_count}
use Rattle.viz_run.proofs.Returns.{upto_more}
use Rattle.viz_run.proofs.lines.return_count.Goals as goal

pub loop-entry-init : goal.loop-entry-init
loop-entry-init c = refl

pub loop-entry-preserved : goal.loop-entry-preserved
loop-entry-preserved c =
    upto_more c.args.history.now c.loop-entry.entry-index c.entry-item.result c.loop-entry.count c.saturating_add-count.result c.entry-item.result
    c.loop-entry-test.true c.entry-item.is c.loop-entry.invariant (c.saturating_add-count.ensures ∙ ap (λ n. upto_most (c.loop-entry.count + n)) c.returned_in.ensures)

pub returns : goal.returns
returns c = c.loop-entry.invariant ∙ ap (λ h. upto_most (return_count h)) (take_all c.loop-entry.entry-index c.args.history.now c.loop-entry-test.false)

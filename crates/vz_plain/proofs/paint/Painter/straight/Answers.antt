use Rattle.vz_plain.proofs.Entering.{straight_with}
use Rattle.vz_plain.proofs.paint.Painter.straight.Goals as goal

pub returns-clause-painted : goal.returns-clause-painted
returns-clause-painted c =
    straight_with c.args.self.now c.args.submitted.now c.args.first c.args.row.now c.in_ok-own.own.items _ c.in_ok-own.ensures c.in_ok-entered.ensures.entered

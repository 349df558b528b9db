use Rattle.std.proofs.Common.{◌∙◌}
use Rattle.vz_plain.proofs.Spans.{own_reach_is, column_fits}
use Rattle.vz_plain.proofs.span.span_of.Goals as goal

pub returns-clause-exact : goal.returns-clause-exact
returns-clause-exact c = λ i low.
    let r = c.reach_of.ensures in
    own_reach_is c.args.area.now c.args.start c.reach_of.result r.left r.right r.row i ∙ c.places.ensures.exact i low

pub returns-clause-fits : goal.returns-clause-fits
returns-clause-fits c = λ i low inside.
    let r = c.reach_of.ensures in
    column_fits c.args.area.now c.args.start i r.proper
    (own_reach_is c.args.area.now c.args.start c.reach_of.result r.left r.right r.row i ∙ (c.places.ensures.exact i low ∙ inside))

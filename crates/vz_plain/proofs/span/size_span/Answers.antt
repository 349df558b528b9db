use Rattle.std.proofs.Common.{◌∙◌, sym, ap}
use Rattle.vz_geom.specs.declared.Size.{Size}
use Rattle.vz_geom.specs.Rectangle.{has, sized}
use Rattle.vz_plain.specs.Rows.{right_of}
use Rattle.vz_plain.proofs.Spans.{size_reach_is, size_column_fits}
use Rattle.vz_plain.proofs.span.size_span.Goals as goal

pub returns-clause-exact : goal.returns-clause-exact
returns-clause-exact c = λ i low.
    let r = c.reach_of_size.ensures in
    ap (λ (s : Size). has (sized s) (right_of c.args.start i)) (sym c.size_of.ensures.value)
    ∙ (size_reach_is c.size_of.result c.args.start c.reach_of_size.result r.left r.right r.row i ∙ c.places.ensures.exact i low)

pub returns-clause-fits : goal.returns-clause-fits
returns-clause-fits c = λ i low inside.
    let r = c.reach_of_size.ensures in
    size_column_fits c.size_of.result c.args.start i c.size_of.ensures.small
    (size_reach_is c.size_of.result c.args.start c.reach_of_size.result r.left r.right r.row i ∙ (c.places.ensures.exact i low ∙ inside))

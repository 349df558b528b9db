use Rattle.std.proofs.Common.{◌∙◌}
use Rattle.vz_plain.specs.Rows.{right_of, within}
use Rattle.vz_plain.proofs.Spans.{reach_is, covered_is, first_of_three}
use Rattle.vz_plain.proofs.span.covered.Goals as goal

pub returns-clause-exact : goal.returns-clause-exact
returns-clause-exact c = λ i low.
    let r = c.reach_of.ensures in
    covered_is c.args.pass.now c.args.quad.now (right_of c.args.start i) (within c.span_of-drawn.result i) (within c.clip_span-kept.result i) (within c.places-seen.result i)
    (within c.meet-both.result i) (within c.meet.result i)
    (c.span_of-drawn.ensures.exact i low) (c.clip_span-kept.ensures i low)
    (reach_is c.args.quad.now.visible c.args.start c.args.quad.now.offset c.reach_of.result r.left r.right r.row i ∙ c.places-seen.ensures.exact i low)
    (c.meet-both.ensures.exact i) (c.meet.ensures.exact i)

pub returns-clause-fits : goal.returns-clause-fits
returns-clause-fits c = λ i low inside.
    c.span_of-drawn.ensures.fits i low
    (first_of_three (within c.span_of-drawn.result i) (within c.clip_span-kept.result i) (within c.places-seen.result i) (within c.meet-both.result i) (within c.meet.result i)
    (c.meet-both.ensures.exact i) (c.meet.ensures.exact i) inside)

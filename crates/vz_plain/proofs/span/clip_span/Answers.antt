use Rattle.vz_plain.specs.Rows.{right_of, within}
use Rattle.vz_plain.proofs.Spans.{no_clip, some_clip}
use Rattle.vz_plain.proofs.span.clip_span.Goals as goal

pub returns-in-None : goal.returns-in-None
returns-in-None c = λ i low. no_clip c.args.clip.now c.args.count c.args.start i c.in-None.is low

pub returns-in-Some : goal.returns-in-Some
returns-in-Some c = λ i low. some_clip c.args.clip.now c.in-Some.area (within c.span_of.result i) (right_of c.args.start i) c.in-Some.is (c.span_of.ensures.exact i low)

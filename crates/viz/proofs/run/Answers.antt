use Rattle.std.proofs.Common.{subst, sym}
use Rattle.vz_words.specs.Words.{texts}
use Rattle.viz_run.specs.Site.{Outside, outside}
use Rattle.viz.specs.Ended.{EndsWith}
use Rattle.viz.proofs.run.Goals as goal

pub returns : goal.returns
returns g c =
    let v = c.viz-ended.ensures in
    let words = texts c.args.words.now in
    let shelf = g.F.Shelf.shelved c.args.shelf.now in
    let sink = g.O.Sink.sunk c.args.out.now in
    let status = c.viz-ended.result.status in
    let after : Outside = outside (g.F.Shelf.shelved c.viz-ended.new.shelf) (g.O.Sink.sunk c.viz-ended.new.out) c.viz-ended.new.steps in
    let ended : EndsWith words status (outside shelf sink c.new-steps.result) after =
    record {
      history = c.viz-ended.result.history;
      range = v.range;
      ends = v.ends;
      refuses_words = v.words;
      no_other = v.no_other;
      refuses_input = v.input;
      fault = v.fault;
      quiet = v.quiet;
      printed = v.printed;
      front = v.front;
    } in
    let at_0 : EndsWith words status (outside shelf sink 0) after = subst (λ n. EndsWith words status (outside shelf sink n) after) c.new-steps.ensures ended in
    (c.viz-ended.new.steps, subst (λ s. EndsWith words s (outside shelf sink 0) after) (sym c.from.ensures) at_0)

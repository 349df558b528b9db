use Rattle.std.proofs.Common.{refl, arith}
use Rattle.std.specs.Int.{w32}
use Rattle.std.proofs.lemmas.Int.{to_z_pos}
use Rattle.viz_run.proofs.Fitting.{wide, high, display_fits}
use Rattle.viz_run.proofs.sides.size_of.Goals as goal

pub overflow_cast-result : goal.overflow_cast-result
overflow_cast-result c = let fits = wide c.args.width c.args.height c.requires in omega arith

pub overflow_cast-result-2 : goal.overflow_cast-result-2
overflow_cast-result-2 c = let fits = high c.args.width c.args.height c.requires in omega arith

pub returns-clause-size : goal.returns-clause-size
returns-clause-size c =
    let across = wide c.args.width c.args.height c.requires in
    let down = high c.args.width c.args.height c.requires in
    rw (to_z_pos w32 c.args.width (omega arith), to_z_pos w32 c.args.height (omega arith)) refl

pub returns-clause-range : goal.returns-clause-range
returns-clause-range c =
    let across = wide c.args.width c.args.height c.requires in
    let down = high c.args.width c.args.height c.requires in
    rw (to_z_pos w32 c.args.width (omega arith), to_z_pos w32 c.args.height (omega arith)) (display_fits c.args.width c.args.height c.requires)

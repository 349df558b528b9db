use Rattle.std.proofs.Common.{refl, arith}
use Rattle.std.specs.Int.{w32}
use Rattle.std.proofs.lemmas.Int.{to_z_pos}
use Rattle.viz_c.proofs.Parts_of_calls.{wide, high, display_fits}
use Rattle.viz_c.proofs.call.size_of.Goals as goal

pub overflow_cast-result : goal.overflow_cast-result
overflow_cast-result c = let fits = wide c.args.w c.args.h c.requires in omega arith

pub overflow_cast-result-2 : goal.overflow_cast-result-2
overflow_cast-result-2 c = let fits = high c.args.w c.args.h c.requires in omega arith

pub returns-clause-size : goal.returns-clause-size
returns-clause-size c =
    let across = wide c.args.w c.args.h c.requires in
    let down = high c.args.w c.args.h c.requires in
    rw (to_z_pos w32 c.args.w (omega arith), to_z_pos w32 c.args.h (omega arith)) refl

pub returns-clause-range : goal.returns-clause-range
returns-clause-range c =
    let across = wide c.args.w c.args.h c.requires in
    let down = high c.args.w c.args.h c.requires in
    rw (to_z_pos w32 c.args.w (omega arith), to_z_pos w32 c.args.h (omega arith)) (display_fits c.args.w c.args.h c.requires)

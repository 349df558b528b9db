use Rattle.std.proofs.Common.{refl, arith}
use Rattle.std.specs.Int.{w32}
use Rattle.std.proofs.lemmas.Int.{to_z_pos}
use Rattle.viz_c.proofs.hit.point_of.Goals as goal

pub overflow_cast-result : goal.overflow_cast-result
overflow_cast-result c = let near = c.requires.column in omega arith

pub overflow_cast-result-2 : goal.overflow_cast-result-2
overflow_cast-result-2 c = let near = c.requires.row in omega arith

pub returns : goal.returns
returns c =
    let across = c.requires.column in
    let down = c.requires.row in
    rw (to_z_pos w32 c.args.x (omega arith), to_z_pos w32 c.args.y (omega arith)) refl

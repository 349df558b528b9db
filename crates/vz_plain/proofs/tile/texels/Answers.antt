use Rattle.std.proofs.Common.{FitsSigned, nat_abs, length, arith, rules, ap, sym, ◌∙◌}
use Rattle.std.specs.Int.{w32}
use Rattle.std.proofs.lemmas.Int.{to_z-of_z}
use Rattle.vz_plain.proofs.Tiles.{none_right, none_below, part_of_block}
use Rattle.vz_plain.proofs.tile.texels.Goals.{then-w-x-via-then-w-x, then-w-x-via-else-w-x+then-h-y}
use Rattle.vz_plain.proofs.tile.texels.Goals as goal

pub returns-then-w-x-clause-each : goal.returns-then-w-x-clause-each
returns-then-w-x-clause-each c = λ k low.
    let a = c.args in
    let left : FitsSigned w32 a.first.x = search rules in
    let top : FitsSigned w32 a.first.y = search rules in
    let x = c.unsigned_abs-x.ensures.value ∙ ap nat_abs (to_z-of_z w32 a.first.x left) in
    let y = c.unsigned_abs-y.ensures.value ∙ ap nat_abs (to_z-of_z w32 a.first.y top) in
    elim c.then-w-x.branch [
      | then-w-x-via-then-w-x w ↦
          none_right a.block.now a.first c.unsigned_abs-x.result c.unsigned_abs-y.result c.w-w.result k x y c.requires c.w-w.ensures.value w.if-w-x.true
      | then-w-x-via-else-w-x+then-h-y w ↦
          none_below a.block.now a.first c.unsigned_abs-x.result c.unsigned_abs-y.result c.h-h.result k x y c.requires c.h-h.ensures.value (sym (ap length c.pixels.ensures.value) ∙ c.pixels.ensures.counted) w.if-h-y.true
    ]

pub returns-clause-each : goal.returns-clause-each
returns-clause-each c = λ k low.
    let a = c.args in
    let left : FitsSigned w32 a.first.x = search rules in
    let top : FitsSigned w32 a.first.y = search rules in
    let x = c.unsigned_abs-x.ensures.value ∙ ap nat_abs (to_z-of_z w32 a.first.x left) in
    let y = c.unsigned_abs-y.ensures.value ∙ ap nat_abs (to_z-of_z w32 a.first.y top) in
    let within = c.if-w-x.false in
    let least = c.min.ensures in
    part_of_block a.block.now a.first c.unsigned_abs-x.result c.unsigned_abs-y.result c.w-w.result _ k a.count c.pixels-2.result.now x y c.requires c.w-w.ensures.value c.pixels-2.ensures.value
    (omega (arith, least)) (omega (arith, within)) low

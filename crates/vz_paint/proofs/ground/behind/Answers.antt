use Rattle.std.proofs.Common.{◌-◌, length, drop, map, take_all, sym, ap, ◌∙◌, Bor, arith}
use Rattle.std.proofs.lemmas.List.{length-drop, drop-map}
use Rattle.vz_flat.specs.declared.op.Op.{Op}
use Rattle.vz_paint.proofs.ground.behind.Goals as goal

pub returns : goal.returns
returns c =
    let a = c.args in
    let long = length-drop a.drawn a.ops.now in
    ap (map (λ (r : Bor Op). r.now)) (take_all (length a.ops.now - a.drawn) (drop a.drawn a.ops.now) (omega (arith, long)))
    ∙ sym (drop-map (λ (r : Bor Op). r.now) a.drawn a.ops.now)

use Rattle.std.proofs.Common.{◌≡◌, ◌+◌, ◌∙◌, length, ap, arith}
use Rattle.vz_pixels.specs.Colour.{transparent}
use Rattle.vz_kernel.specs.Rows.{changed_upto}
use Rattle.vz_kernel.proofs.Walked.{one_changed, length_changed}
use Rattle.vz_kernel.proofs.walks.change_rest.Goals as goal

pub loop-i-preserved : goal.loop-i-preserved
loop-i-preserved g c old e =
    let f = g.C.Change.changed c.args.change.now in
    let is = c.loop-i.invariant old e in
    let long = ap length is ∙ length_changed f c.loop-i.i old in
    one_changed f c.loop-i.i (c.loop-i.i + 1) old c.loop-i.row _ c.one.result transparent (omega arith) (omega arith) is c.index-row-i.is c.one.ensures

pub returns : goal.returns
returns g c old e =
    let f = g.C.Change.changed c.args.change.now in
    let long = ap length e ∙ length_changed f c.args.from old in
    let end : c.loop-i.i ≡ length old = omega arith in
    c.loop-i.invariant old e ∙ ap (λ n. changed_upto f n old) end

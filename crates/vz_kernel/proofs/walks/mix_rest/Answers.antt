use Rattle.std.proofs.Common.{◌+◌, ◌∙◌, length, ap, sym, arith}
use Rattle.vz_pixels.specs.Colour.{transparent}
use Rattle.vz_kernel.proofs.Walked.{one_mixed, length_upto, length_before}
use Rattle.vz_kernel.proofs.walks.mix_rest.Goals as goal

pub loop-i-preserved : goal.loop-i-preserved
loop-i-preserved g c old e =
    let f = g.M.Mix.mixed c.args.mix.now in
    let src = c.args.src.now in
    let is = c.loop-i.invariant old e in
    let before = length_before f c.args.from src old (ap length (sym e) ∙ c.requires.dst) in
    let long = ap length is ∙ length_upto f c.loop-i.i src old before in
    one_mixed f c.loop-i.i (c.loop-i.i + 1) src old c.loop-i.dst _ _ c.one.result transparent (omega arith) long c.loop-i-test.true is c.index-src-i.is c.index-dst-i.is c.one.ensures

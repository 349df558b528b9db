use Rattle.std.proofs.{Common.rules, Common.sym, Common.subst, lemmas.Simd.Each1-weaker}
use Rattle.vz_kernel.specs.Lanes.{AreBytes}
use Rattle.vz_kernel.proofs.Vectors.{parts_is, parts_small, bytes_parts}
use Rattle.vz_kernel.proofs.lanes.parts.Goals as goal

pub overflow_cast-result : goal.overflow_cast-result
overflow_cast-result c = Each1-weaker _ _ (λ x h. search rules) _ (parts_small 32 c.args.a c.args.b)

pub returns : goal.returns
returns c =
    let e = parts_is 32 c.args.a c.args.b c.fits-a.0 c.requires.a c.requires.b in
    record { value = e; bytes = subst AreBytes (sym e) (bytes_parts c.args.a c.args.b c.requires.a c.requires.b) }

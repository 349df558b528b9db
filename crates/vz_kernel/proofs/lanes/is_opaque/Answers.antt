use Rattle.std.proofs.Common.{false, length, ltb, ap, sym, subst, ◌≡◌, ◌∙◌, refl}
use lib.Lanes.{zip2, Each1}
use Rattle.vz_kernel.specs.Lanes.{AreBytes}
use Rattle.vz_kernel.proofs.{Vectors.bytes_fit, Tested.none_pass, Tested.least_opaque, Tested.opaque}
use Rattle.vz_kernel.proofs.lanes.is_opaque.Goals as goal

pub returns : goal.returns
returns c cs are h =
    let e = are.value in
    let long = c.fits-lanes.0 in
    opaque cs 16 (subst AreBytes e (bytes_fit c.args.lanes c.fits-lanes.1)) (ap length (sym e) ∙ long)
    (subst (λ v. Each1 (λ m. m ≡ false) (zip2 ltb v (least_opaque 16))) e (none_pass ltb c.args.lanes (least_opaque 16) long refl h))

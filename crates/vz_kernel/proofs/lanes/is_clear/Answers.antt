use Rattle.std.proofs.Common.{false, length, ap, sym, subst, ◌≡◌, ◌∙◌, refl}
use Rattle.std.specs.Prelude.{replicate}
use lib.Lanes.{zip2, Each1}
use Rattle.vz_kernel.proofs.Tested.{none_pass, differs, clear}
use Rattle.vz_kernel.proofs.lanes.is_clear.Goals as goal

pub returns : goal.returns
returns c cs are h =
    let e = are.value in
    let long = c.fits-lanes.0 in
    clear cs 64 (ap length (sym e) ∙ long) (subst (λ v. Each1 (λ m. m ≡ false) (zip2 differs v (replicate 64 0))) e (none_pass differs c.args.lanes (replicate 64 0) long refl h))

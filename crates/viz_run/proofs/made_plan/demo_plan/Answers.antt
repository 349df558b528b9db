use Rattle.std.proofs.Common.{IsTrue, length, ap, sym, subst, ◌∙◌, arith}
use Rattle.std.specs.List.{list_all}
use Rattle.vz_frame.specs.Fits.{fits_file}
use Rattle.vz_rules.specs.Plan.{first_taken}
use Rattle.vz_gen.proofs.Fitting.{made_three, made_fit}
use Rattle.viz_run.proofs.Demo_fits.{none_taken}
use Rattle.viz_run.proofs.made_plan.demo_plan.Goals as goal

pub new-requires-clause-some : goal.new-requires-clause-some
new-requires-clause-some c =
    let same = c.into_vec-files.ensures ∙ c.in_ok-make.ensures in
    omega (arith, made_three c.args.n, ap length same)

pub new-requires-clause-few : goal.new-requires-clause-few
new-requires-clause-few c =
    let same = c.into_vec-files.ensures ∙ c.in_ok-make.ensures in
    omega (arith, made_three c.args.n, ap length same)

pub new-requires-clause-fit : goal.new-requires-clause-fit
new-requires-clause-fit c =
    let same = c.into_vec-files.ensures ∙ c.in_ok-make.ensures in
    subst (λ files. IsTrue (list_all fits_file files)) (sym same) (made_fit c.args.n (omega arith))

pub unreachable-requires : goal.unreachable-requires
unreachable-requires c =
    let same = ap first_taken (c.into_vec-files.ensures ∙ c.in_ok-make.ensures) in
    let none = none_taken c.args.n in
    let taken = c.in-Err.ensures.back.1 in
    cc

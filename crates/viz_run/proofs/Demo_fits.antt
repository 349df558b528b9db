-- The files by rule are a plan.
use Rattle.std.proofs.Common.{◌≡◌, ℕ, pos, ◌≤◌, None, refl, arith}
use Rattle.std.proofs.lemmas.Int.{ints}
use Rattle.vz_geom.specs.Display.{IsDisplaySize}
use Rattle.vz_rules.specs.Plan.{IsPlan, first_taken}
use Rattle.vz_gen.specs.Make.{make}
use Rattle.vz_gen.proofs.Fitting.{made_three, made_fit}
use Rattle.viz_run.specs.Planned.{demo_plan}

pub none_taken : (n : ℕ) → first_taken (make n) ≡ None
unfolding first_taken make
none_taken n = refl

small : IsDisplaySize (record { w = pos 64; h = pos 32 })
small = record { wide = omega (arith, ints); not_too_wide = omega (arith, ints); high = omega (arith, ints); not_too_high = omega (arith, ints) }

pub planned : (n : ℕ) → n ≤ 1000 → IsPlan (demo_plan n)
planned n few =
    record {
      some_files = omega (arith, made_three n);
      few_files = omega (arith, made_three n);
      all_fit = made_fit n few;
      distinct = none_taken n;
      sizes = small;
    }

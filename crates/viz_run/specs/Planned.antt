-- The plan of the files by rule.
use Rattle.std.specs.Prelude.{ℕ, pos}
use Rattle.vz_rules.specs.Plan.{Plan}
use Rattle.vz_gen.specs.Make.{make}

-- the files for n rounds, on a display of 64 by 32 pixels
abbrev pub demo_plan : ℕ → Plan
demo_plan n = record { files = make n; size = record { w = pos 64; h = pos 32 } }

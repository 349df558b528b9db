-- A client that has sent nothing is told so, and then sends a message: the history is none of the longer plan.
use Rattle.std.proofs.Common.{refl, arith}
use Rattle.std.proofs.lemmas.Int.{ints}
use Rattle.vz_frame.specs.declared.message.Message.{Message}
use Rattle.vz_frame.specs.Fits.{fits_file}
use Rattle.vz_rules.specs.Plan.{IsPlan, first_taken}
use Rattle.vz_rules.specs.Step.{Legal, LegalFrom}
use Rattle.vz_sessions.specs.Grown.{grown, NeverMisses}
use Rattle.vz_sessions.specs.Worked.{silent_plan, told_too_early}
use Rattle.vz_sessions.proofs.Told_none_left.{never_told}
use Rattle.vz_rules.proofs.Rows.{opened}

-- it is a plan
pub silent_is_plan : IsPlan silent_plan
unfolding fits_file first_taken
silent_is_plan =
    record {
      some_files = omega arith;
      few_files = omega arith;
      all_fit = refl;
      distinct = refl;
      sizes = record { wide = omega (arith, ints); not_too_wide = omega (arith, ints); high = omega (arith, ints); not_too_high = omega (arith, ints) };
    }

-- the entry is the one that the machine makes
pub told_is_legal : Legal silent_plan told_too_early
unfolding Legal LegalFrom opened
told_is_legal = ((omega arith, omega arith), refl, tt)

-- the client is told that all its messages were taken
pub told_once : NeverMisses 1 told_too_early → ⊥
told_once never = absurd (cc)

-- with any message more the machine answers that
pub told_is_wrong : (m : Message) → Legal (grown silent_plan 1 m) told_too_early → ⊥
told_is_wrong m l = told_once (never_told silent_plan told_too_early 1 m silent_is_plan (omega arith, omega arith) told_is_legal l)

-- The verdict on a log and its frames, and what C is told of it.
use Rattle.std.specs.Prelude.{◌≡◌, ℕ, None, Result, Ok, Err, List}
use Rattle.vz_geom.specs.declared.Size.{Size}
use Rattle.vz_check.specs.Verdict.{IsVerdict}
use Rattle.vz_check.specs.declared.verdict.What.{What}
use Rattle.vz_check.specs.declared.verdict.Verdict.{Verdict}
use Rattle.vz_check.specs.declared.verdict.Verdict.TheVariants.{Yes, No}
use Rattle.viz_run.specs.Refusals.{plan_read}
use Rattle.viz_run.specs.declared.refused.InputError.{InputError}
use Rattle.viz_c.specs.Calls.{log_refused_of}
use Rattle.viz_c.specs.Numbers.{IsErrorTold, what_number}
use Rattle.viz_c.specs.declared.answer.Cause.{Cause}
use Rattle.viz_c.specs.Answers.{DONE, FAULT}

-- none of the files and of the log is refused, and this is the verdict on the log and its frames
-- with the plan of the files
abbrev pub Judges : Size → List (List ℕ) → List ℕ → List ℕ → Verdict → Type 0
Judges size files log frames verdict = (log_refused_of files log ≡ None) × IsVerdict (plan_read size files) log frames verdict

-- the same, of the verdict no with this place and the fault with this number
pub record JudgesNo (size : Size) (files : List (List ℕ)) (log frames : List ℕ) (place number : ℕ) : Type 0 where
  pub what : What
  pub judges : Judges size files log frames (No place what)
  pub is : number ≡ what_number what

-- the answer for a verdict, and the place and the fault that are told
abbrev pub IsVerdictTold : Verdict → ℕ → ℕ → ℕ → Type 0
IsVerdictTold Yes code entry what = code ≡ DONE
IsVerdictTold (No place fault) code entry what = (code ≡ FAULT) × (entry ≡ place) × (what ≡ what_number fault)

-- the answer for a verdict, or for inputs that are not accepted
abbrev pub IsCheckTold : Result Verdict InputError → ℕ → ℕ → ℕ → Cause → Type 0
IsCheckTold (Ok verdict) code entry what cause = IsVerdictTold verdict code entry what
IsCheckTold (Err error) code entry what cause = IsErrorTold error code cause

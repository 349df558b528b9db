-- What the answer of `viz_check` says.
use Rattle.std.proofs.Common.{◌≡◌, ◌≢◌, ◌⊎◌, ℕ, ◌∙◌, Some, Result, Ok, Err, List, refl, sym, ap, subst, inl, inr, arith}
use Rattle.std.specs.{Option.option_map, Prelude.IfOk, Prelude.IsErrOf}
use Rattle.vz_check.specs.{declared.verdict.Verdict.Verdict, declared.verdict.Verdict.TheVariants.Yes, declared.verdict.Verdict.TheVariants.No}
use Rattle.vz_geom.specs.declared.Size.{Size}
use Rattle.viz_run.specs.{declared.refused.InputError.InputError, declared.refused.Refused.Refused}
use Rattle.viz_run.specs.declared.refused.InputError.TheVariants as input_error
use Rattle.viz_c.specs.{Calls.log_refused_of, declared.answer.Cause.Cause}
use Rattle.viz_c.specs.{Judging.Judges, Judging.JudgesNo, Judging.IsCheckTold, Numbers.cause_of, Numbers.IsCause, Numbers.IsWithin}
use Rattle.viz_c.specs.Answers.{DONE, MEMORY, CALL, ROOM, REFUSED, FAULT}
use Rattle.viz_c.proofs.Said_of_steps.{error_code, not_done}

-- what holds for a size holds for one that is equal
pub judges_for :
    (a b : Size) (files : List (List ℕ)) (log frames : List ℕ) (verdict : Result Verdict InputError) → a ≡ b
    → IfOk verdict (λ v. Judges a files log frames v) → IfOk verdict (λ v. Judges b files log frames v)
judges_for a b files log frames verdict e judges =
    subst (λ (z : Size). IfOk verdict (λ (v : Verdict). Judges z files log frames v)) e judges

-- one of the answers of `viz_check`
abbrev OneOf : ℕ → Type 0
OneOf code = (code ≡ DONE) ⊎ ((code ≡ FAULT) ⊎ ((code ≡ REFUSED) ⊎ (code ≡ MEMORY)))

module _ (size : Size) (files : List (List ℕ)) (log frames : List ℕ) (code entry what : ℕ) (cause : Cause) where
  pub agrees :
      (verdict : Result Verdict InputError) → IfOk verdict (λ v. Judges size files log frames v)
      → IsCheckTold verdict code entry what cause → code ≡ DONE → Judges size files log frames Yes
  agrees (Ok Yes) judges told is = judges
  agrees (Ok (No place fault)) judges told is = absurd (omega (arith, told.0, is))
  agrees (Err e) judges told is = absurd (not_done e code cause told is)

  pub differs :
      (verdict : Result Verdict InputError) → IfOk verdict (λ v. Judges size files log frames v)
      → IsCheckTold verdict code entry what cause → code ≡ FAULT → JudgesNo size files log frames entry what
  differs (Ok Yes) judges told is = absurd (omega (arith, told, is))
  differs (Ok (No place fault)) judges told is =
      record { what = fault; judges = subst (λ (n : ℕ). Judges size files log frames (No n fault)) (sym told.1) judges; is = told.2 }
  differs (Err e) judges told is =
      absurd (elim (error_code e code cause told) [ inl a ↦ omega (arith, a, is) | inr b ↦ omega (arith, b, is) ])

  pub refused :
      (verdict : Result Verdict InputError) → ((x : Refused) → IsErrOf verdict (input_error.Refused x) → log_refused_of files log ≡ Some x)
      → IsCheckTold verdict code entry what cause → code ≡ REFUSED → IsCause (log_refused_of files log) cause
  refused (Ok Yes) why told is = absurd (omega (arith, told, is))
  refused (Ok (No place fault)) why told is = absurd (omega (arith, told.0, is))
  refused (Err (input_error.Refused x)) why told is = ap (option_map cause_of) (why x refl) ∙ ap Some (sym told.1)
  refused (Err input_error.Memory) why told is = absurd (omega (arith, told, is))

  one_of : (verdict : Result Verdict InputError) → IsCheckTold verdict code entry what cause → OneOf code
  one_of (Ok Yes) told = inl told
  one_of (Ok (No place fault)) told = inr (inl told.0)
  one_of (Err e) told = inr (inr (error_code e code cause told))

  pub in_range : (verdict : Result Verdict InputError) → IsCheckTold verdict code entry what cause → (code ≡ DONE) ⊎ IsWithin MEMORY FAULT code
  in_range verdict told =
      elim (one_of verdict told) [
        | inl a ↦ inl a
        | inr (inl a) ↦ inr (omega (arith, a), omega (arith, a))
        | inr (inr (inl a)) ↦ inr (omega (arith, a), omega (arith, a))
        | inr (inr (inr a)) ↦ inr (omega (arith, a), omega (arith, a))
      ]

  pub not_call : (verdict : Result Verdict InputError) → IsCheckTold verdict code entry what cause → code ≢ CALL
  not_call verdict told is =
      elim (one_of verdict told) [
        | inl a ↦ omega (arith, a, is)
        | inr (inl a) ↦ omega (arith, a, is)
        | inr (inr (inl a)) ↦ omega (arith, a, is)
        | inr (inr (inr a)) ↦ omega (arith, a, is)
      ]

  pub not_room : (verdict : Result Verdict InputError) → IsCheckTold verdict code entry what cause → code ≢ ROOM
  not_room verdict told is =
      elim (one_of verdict told) [
        | inl a ↦ omega (arith, a, is)
        | inr (inl a) ↦ omega (arith, a, is)
        | inr (inr (inl a)) ↦ omega (arith, a, is)
        | inr (inr (inr a)) ↦ omega (arith, a, is)
      ]

-- What the answer of `viz_hit` says.
use Rattle.std.proofs.Common.{◌≡◌, ◌≢◌, ◌⊎◌, ℕ, ◌∙◌, Some, None, Result, Ok, Err, List, refl, sym, ap, subst, inl, inr, arith}
use Rattle.std.specs.{Option.option_map, Prelude.IfOk, Prelude.IsErrOf}
use Rattle.vz_geom.specs.{declared.Point.Point, declared.Size.Size}
use Rattle.viz_run.specs.{declared.refused.InputError.InputError, declared.refused.Refused.Refused}
use Rattle.viz_run.specs.declared.refused.InputError.TheVariants as input_error
use Rattle.vz_rules.specs.Hit.{Target as Hit}
use Rattle.viz_c.specs.{Calls.schedule_refused_of, declared.answer.Cause.Cause, declared.hit.Target.Target}
use Rattle.viz_c.specs.{Hitting.Hits, Hitting.HitsSome, Hitting.IsHitTold, Numbers.cause_of, Numbers.IsCause, Numbers.IsWithin}
use Rattle.viz_c.specs.Answers.{DONE, MEMORY, CALL, ROOM, REFUSED, FAULT, NOTHING}
use Rattle.viz_c.proofs.Said_of_steps.{error_code, not_done}

-- what holds for a size and a point holds for those that are equal
pub hits_for :
    (a b : Size) (p q : Point) (files : List (List ℕ)) (schedule : List ℕ) (hit : Result Hit InputError) → a ≡ b → p ≡ q
    → IfOk hit (λ x. Hits a files schedule p x) → IfOk hit (λ x. Hits b files schedule q x)
hits_for a b p q files schedule hit e f hits =
    subst (λ (z : Size). IfOk hit (λ (x : Hit). Hits z files schedule q x)) e
    (subst (λ (o : Point). IfOk hit (λ (x : Hit). Hits a files schedule o x)) f hits)

-- one of the answers of `viz_hit`
abbrev OneOf : ℕ → Type 0
OneOf code = (code ≡ DONE) ⊎ ((code ≡ NOTHING) ⊎ ((code ≡ REFUSED) ⊎ (code ≡ MEMORY)))

module _ (size : Size) (files : List (List ℕ)) (schedule : List ℕ) (point : Point) (code : ℕ) (target : Target) (cause : Cause) where
  pub some_hit :
      (hit : Result Hit InputError) → IfOk hit (λ x. Hits size files schedule point x)
      → IsHitTold hit code target cause → code ≡ DONE → HitsSome size files schedule point target
  some_hit (Ok (Some (surface, local))) hits told is = record { surface = surface; local = local; hits = hits; is = told.1 }
  some_hit (Ok None) hits told is = absurd (omega (arith, told, is))
  some_hit (Err e) hits told is = absurd (not_done e code cause told is)

  pub none_hit :
      (hit : Result Hit InputError) → IfOk hit (λ x. Hits size files schedule point x)
      → IsHitTold hit code target cause → code ≡ NOTHING → Hits size files schedule point None
  none_hit (Ok (Some (surface, local))) hits told is = absurd (omega (arith, told.0, is))
  none_hit (Ok None) hits told is = hits
  none_hit (Err e) hits told is =
      absurd (elim (error_code e code cause told) [ inl a ↦ omega (arith, a, is) | inr b ↦ omega (arith, b, is) ])

  pub refused :
      (hit : Result Hit InputError) → ((x : Refused) → IsErrOf hit (input_error.Refused x) → schedule_refused_of size files schedule ≡ Some x)
      → IsHitTold hit code target cause → code ≡ REFUSED → IsCause (schedule_refused_of size files schedule) cause
  refused (Ok (Some (surface, local))) why told is = absurd (omega (arith, told.0, is))
  refused (Ok None) why told is = absurd (omega (arith, told, is))
  refused (Err (input_error.Refused x)) why told is = ap (option_map cause_of) (why x refl) ∙ ap Some (sym told.1)
  refused (Err input_error.Memory) why told is = absurd (omega (arith, told, is))

  one_of : (hit : Result Hit InputError) → IsHitTold hit code target cause → OneOf code
  one_of (Ok (Some (surface, local))) told = inl told.0
  one_of (Ok None) told = inr (inl told)
  one_of (Err e) told = inr (inr (error_code e code cause told))

  pub in_range : (hit : Result Hit InputError) → IsHitTold hit code target cause → (code ≡ DONE) ⊎ IsWithin MEMORY NOTHING code
  in_range hit told =
      elim (one_of hit told) [
        | inl a ↦ inl a
        | inr (inl a) ↦ inr (omega (arith, a), omega (arith, a))
        | inr (inr (inl a)) ↦ inr (omega (arith, a), omega (arith, a))
        | inr (inr (inr a)) ↦ inr (omega (arith, a), omega (arith, a))
      ]

  pub not_call : (hit : Result Hit InputError) → IsHitTold hit code target cause → code ≢ CALL
  not_call hit told is =
      elim (one_of hit told) [
        | inl a ↦ omega (arith, a, is)
        | inr (inl a) ↦ omega (arith, a, is)
        | inr (inr (inl a)) ↦ omega (arith, a, is)
        | inr (inr (inr a)) ↦ omega (arith, a, is)
      ]

  pub not_room : (hit : Result Hit InputError) → IsHitTold hit code target cause → code ≢ ROOM
  not_room hit told is =
      elim (one_of hit told) [
        | inl a ↦ omega (arith, a, is)
        | inr (inl a) ↦ omega (arith, a, is)
        | inr (inr (inl a)) ↦ omega (arith, a, is)
        | inr (inr (inr a)) ↦ omega (arith, a, is)
      ]

  pub not_fault : (hit : Result Hit InputError) → IsHitTold hit code target cause → code ≢ FAULT
  not_fault hit told is =
      elim (one_of hit told) [
        | inl a ↦ omega (arith, a, is)
        | inr (inl a) ↦ omega (arith, a, is)
        | inr (inr (inl a)) ↦ omega (arith, a, is)
        | inr (inr (inr a)) ↦ omega (arith, a, is)
      ]

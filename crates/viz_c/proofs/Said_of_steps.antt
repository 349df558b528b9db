-- What the answer of `viz_step` says.
use Rattle.std.proofs.Common.{◌≡◌, ◌≢◌, ◌⊎◌, ℕ, suc, ◌∙◌, ◌&&◌, nat_le, Some, Result, Ok, Err, List, length, take, drop, refl, sym, ap, subst, inl, inr, arith}
use Rattle.std.specs.{String.string_bytes, Option.option_map, Prelude.zero, Prelude.IfOk, Prelude.IsErrOf}
use Rattle.vz_geom.specs.declared.Size.{Size}
use Rattle.viz_run.specs.{declared.refused.InputError.InputError, declared.refused.Refused.Refused}
use Rattle.viz_run.specs.declared.refused.InputError.TheVariants as input_error
use Rattle.viz_c.specs.{Calls.schedule_refused_of, declared.step.Left.Left}
use Rattle.viz_c.specs.{Numbers.cause_of, Numbers.IsCause, Numbers.IsErrorTold, Numbers.IsWithin, declared.answer.Cause.Cause}
use Rattle.viz_c.specs.{Rooms.Room, Rooms.IsPut, Rooms.Keeps, Rooms.KeepsRest, Rooms.IsLengthIn, Stepping.AreStepped, Stepping.NeedsRoom, Stepping.IsStepTold}
use Rattle.viz_c.specs.Answers.{DONE, MEMORY, CALL, ROOM, REFUSED}

-- the bytes that are put into a room are its front
front_is : (bytes : List ℕ) (r : Room) → r.count ≡ length bytes → IsPut bytes r.before r.after → take r.count r.after ≡ bytes
front_is bytes r count put = ap (λ (n : ℕ). take n r.after) count ∙ put.front

behind_is : (bytes : List ℕ) (r : Room) → r.count ≡ length bytes → IsPut bytes r.before r.after → drop r.count r.after ≡ drop r.count r.before
behind_is bytes r count put =
    ap (λ (n : ℕ). drop n r.after) count ∙ (put.behind ∙ ap (λ (n : ℕ). drop n r.before) (sym count))

count_is : (bytes : List ℕ) (r : Room) → r.count ≡ length bytes → IsPut bytes r.before r.after → IsLengthIn r.count r.after
count_is bytes r count put = count ∙ sym (ap (λ (xs : List ℕ). length xs) (front_is bytes r count put))

-- what holds for a size holds for one that is equal
pub steps_for :
    (a b : Size) (files : List (List ℕ)) (schedule : List ℕ) (left : Result Left InputError) → a ≡ b
    → IfOk left (λ l. AreStepped a files schedule l.frames.items (string_bytes l.log))
    → IfOk left (λ l. AreStepped b files schedule l.frames.items (string_bytes l.log))
steps_for a b files schedule left e steps =
    subst (λ (z : Size). IfOk left (λ (l : Left). AreStepped z files schedule l.frames.items (string_bytes l.log))) e steps

pub refused_for :
    (a b : Size) (files : List (List ℕ)) (schedule : List ℕ) {T : Type 0} (r : Result T InputError) → a ≡ b
    → ((x : Refused) → IsErrOf r (input_error.Refused x) → schedule_refused_of a files schedule ≡ Some x)
    → (x : Refused) → IsErrOf r (input_error.Refused x) → schedule_refused_of b files schedule ≡ Some x
refused_for a b files schedule r e why x is = ap (λ (z : Size). schedule_refused_of z files schedule) (sym e) ∙ why x is

-- the answer for inputs that are not accepted is that of a refusal or of want of memory
pub error_code : (e : InputError) (code : ℕ) (cause : Cause) → IsErrorTold e code cause → (code ≡ REFUSED) ⊎ (code ≡ MEMORY)
error_code (input_error.Refused r) code cause told = inl told.0
error_code input_error.Memory code cause told = inr told

pub not_done : (e : InputError) (code : ℕ) (cause : Cause) → IsErrorTold e code cause → code ≢ DONE
not_done e code cause told is =
    elim (error_code e code cause told) [ inl a ↦ omega (arith, a, is) | inr b ↦ omega (arith, b, is) ]

module _ (size : Size) (files : List (List ℕ)) (schedule : List ℕ) (code : ℕ) (r s : Room) (cause : Cause) where
  pub done :
      (left : Result Left InputError) → IfOk left (λ l. AreStepped size files schedule l.frames.items (string_bytes l.log))
      → IsStepTold left code r s cause → code ≡ DONE → AreStepped size files schedule (take r.count r.after) (take s.count s.after)
  done (Ok l) steps told is =
      let frames = l.frames.items in
      let log = string_bytes l.log in
      let put = told.done is in
      subst (λ (f : List ℕ). AreStepped size files schedule f (take s.count s.after)) (sym (front_is frames r told.drawn_count put.0))
      (subst (λ (t : List ℕ). AreStepped size files schedule frames t) (sym (front_is log s told.log_count put.1)) steps)
  done (Err e) steps told is = absurd (not_done e code cause told.0 is)

  pub room :
      (left : Result Left InputError) → IfOk left (λ l. AreStepped size files schedule l.frames.items (string_bytes l.log))
      → IsStepTold left code r s cause → code ≡ ROOM → NeedsRoom size files schedule (length r.before) (length s.before) r.count s.count
  room (Ok l) steps told is =
      record {
        frames = l.frames.items;
        log = string_bytes l.log;
        steps = steps;
        frames_count = told.drawn_count;
        log_count = told.log_count;
        small = ap (λ (n : ℕ). nat_le n (length r.before) && nat_le s.count (length s.before)) told.drawn_count
            ∙ (ap (λ (n : ℕ). nat_le (length l.frames.items) (length r.before) && nat_le n (length s.before)) told.log_count
            ∙ told.room is);
      }
  room (Err e) steps told is =
      absurd (elim (error_code e code cause told.0) [ inl a ↦ omega (arith, a, is) | inr b ↦ omega (arith, b, is) ])

  pub refused :
      (left : Result Left InputError) → ((x : Refused) → IsErrOf left (input_error.Refused x) → schedule_refused_of size files schedule ≡ Some x)
      → IsStepTold left code r s cause → code ≡ REFUSED → IsCause (schedule_refused_of size files schedule) cause
  refused (Ok l) why told is =
      absurd (omega (arith, told.one (λ e. omega (arith, e, is)), is))
  refused (Err (input_error.Refused x)) why told is =
      ap (option_map cause_of) (why x refl) ∙ ap Some (sym told.0.1)
  refused (Err input_error.Memory) why told is = absurd (omega (arith, told.0, is))

  -- no other answer
  pub in_range : (left : Result Left InputError) → IsStepTold left code r s cause → (code ≡ DONE) ⊎ IsWithin MEMORY REFUSED code
  in_range (Ok l) told = by_code code (λ e. told.one e)
    where
      by_code : (n : ℕ) → (n ≢ DONE → n ≡ ROOM) → (n ≡ DONE) ⊎ IsWithin MEMORY REFUSED n
      by_code zero other = inl refl
      by_code (suc n) other = let is = other (λ e. omega (arith, e)) in inr (omega (arith, is), omega (arith, is))
  in_range (Err e) told =
      elim (error_code e code cause told.0) [
        | inl a ↦ inr (omega (arith, a), omega (arith, a))
        | inr b ↦ inr (omega (arith, b), omega (arith, b))
      ]

  pub not_call : (left : Result Left InputError) → IsStepTold left code r s cause → code ≢ CALL
  not_call (Ok l) told is = omega (arith, told.one (λ e. omega (arith, e, is)), is)
  not_call (Err e) told is =
      elim (error_code e code cause told.0) [ inl a ↦ omega (arith, a, is) | inr b ↦ omega (arith, b, is) ]

  pub kept : (left : Result Left InputError) → IsStepTold left code r s cause → code ≢ DONE → Keeps r.before r.after × Keeps s.before s.after
  kept (Ok l) told other = told.kept other
  kept (Err e) told other = (told.1, told.2)

  pub behind : (left : Result Left InputError) → IsStepTold left code r s cause → code ≡ DONE → KeepsRest r.count r.before r.after × KeepsRest s.count s.before s.after
  behind (Ok l) told is =
      let put = told.done is in
      (behind_is l.frames.items r told.drawn_count put.0, behind_is (string_bytes l.log) s told.log_count put.1)
  behind (Err e) told is = absurd (not_done e code cause told.0 is)

  -- both lengths are those of what is in their rooms
  pub lengths : (left : Result Left InputError) → IsStepTold left code r s cause → code ≡ DONE → IsLengthIn r.count r.after × IsLengthIn s.count s.after
  lengths (Ok l) told is =
      let put = told.done is in
      (count_is l.frames.items r told.drawn_count put.0, count_is (string_bytes l.log) s told.log_count put.1)
  lengths (Err e) told is = absurd (not_done e code cause told.0 is)

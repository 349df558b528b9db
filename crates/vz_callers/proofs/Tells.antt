-- The gate is told of each call of a caller.
use Rattle.std.specs.Prelude.{All, Result, Ok, Err, ◌^◌}
use Rattle.std.proofs.Common.{◌≡◌, ℕ, zero, suc, ◌+◌, ◌*◌, ◌<◌, ◌≤◌, List, [], ◌∷◌, ◌++◌, length, refl, sym, ap, subst, ◌∙◌, arith}
use Rattle.std.proofs.lemmas.List.{length-append, length-replicate, Elements.All-nil, Elements.All-push}
use Rattle.vz_loans.specs.Tokens.{Caller}
use Rattle.vz_outside.specs.Told.{Call, IsTold, number_of, AreTold}
use Rattle.vz_outside.proofs.Passing.{told_none, told_one, told_then, told_of}
use Rattle.vz_rules.specs.{Plan.Plan, declared.entry.Entry.Entry, declared.entry.Event.Event}
use Rattle.vz_rules.specs.declared.entry.Event.TheVariants as event
use Rattle.vz_callers.specs.{Callers.events_of, Callers.Stays, Callers.calls_of, Callers.IsEventOf, Callers.HasTold, Callers.IsNext, Callers.IsDisplay, Callers.Enters, Callers.MakesCalls, Turns.rounds}

-- of another actor of the same number
pub told_by : (told : Call → Type 0) (a b n m : ℕ) → a ≡ b → n ≡ m → AreTold told a 0 n → AreTold told b 0 m
told_by told a b n m same many t = subst (λ (x : ℕ). AreTold told x 0 m) same (told_of told a 0 n 0 m refl many t)

module _ (told : Call → Type 0) (old new : Caller Plan Entry) where
  -- a call made an entry
  one_told : (v : Event) (turn : ℕ) → Stays old new → events_of new ≡ events_of old ++ v ∷ [] → IsNext old turn v → IsTold told old.number turn → HasTold told old → HasTold told new
  one_told v turn same more next t h =
      let long : length (events_of new) ≡ length (events_of old) + 1 = ap length more ∙ length-append (events_of old) (v ∷ []) in record {
        each = told_by told old.number new.number (length (events_of new)) (length (events_of new)) (sym same.0.1) refl
            (told_then told old.number 0 (length (events_of old)) (length (events_of new)) h.each
            (told_one told old.number (length (events_of old)) (length (events_of new)) turn long (next.number ∙ ap number_of (sym long)) t));
        own = subst (λ (n : ℕ). All (IsEventOf n) (events_of new)) (sym same.0.1)
            (subst (All (IsEventOf old.number)) (sym more) (All-push (IsEventOf old.number) (events_of old) v h.own next.own));
      }

  -- a call made none
  none_told : Stays old new → events_of new ≡ events_of old → HasTold told old → HasTold told new
  none_told same none h = record {
    each = told_by told old.number new.number (length (events_of old)) (length (events_of new)) (sym same.0.1) (ap length (sym none)) h.each;
    own = subst (λ (n : ℕ). All (IsEventOf n) (events_of new)) (sym same.0.1) (subst (All (IsEventOf old.number)) (sym none) h.own);
  }

  -- a call, whatever it answered
  pub call_told : {E : Type 0} (v : Event) (turn : ℕ) (r : Result (Unit {0}) E) → Enters old new v r → IsNext old turn v → IsTold told old.number turn → HasTold told old → HasTold told new
  call_told v turn (Ok x) call next t h = one_told v turn call.stays call.ok next t h
  call_told v turn (Err e) call next t h = none_told call.stays call.err h

-- no call was made yet
pub unused_told : (told : Call → Type 0) (t : Caller Plan Entry) → events_of t ≡ [] → HasTold told t
unused_told told t none = record {
  each = told_none told t.number 0 (length (events_of t)) (let e = ap length none in omega (arith, e));
  own = subst (All (IsEventOf t.number)) (sym none) (All-nil (IsEventOf t.number));
}

-- Which call is the next one

-- a client's own event
own_client : (n : ℕ) → 1 ≤ n → IsEventOf n (event.Client n)
own_client zero some = absurd (omega (arith, some))
own_client (suc n) some = refl

-- a number of 64 bits is the number of the next step after so many
as_number : (n k : ℕ) → n ≡ k + 1 → n < 2 ^ 64 → n ≡ number_of (k + 1)
as_number n k is few = omega (arith, is, few)

-- after so many calls of a client that made none before
pub next_call : (told : Call → Type 0) (first now : Caller Plan Entry) (made turn c : ℕ) → events_of first ≡ [] → MakesCalls told first now made → c ≡ first.number → 1 ≤ c → turn ≡ made + 1 → turn < 2 ^ 64
    → IsNext now turn (event.Client c)
next_call told first now made turn c none m is some next few =
    let many : length (events_of now) ≡ made = ap length (m.events ∙ ap (λ (l : List Event). l ++ calls_of first.number made) none) ∙ length-replicate made (event.Client first.number) in record {
      number = as_number turn (length (events_of now)) (omega (arith, many, next)) few;
      own = subst (λ (n : ℕ). IsEventOf n (event.Client c)) (is ∙ sym m.stays.0.1) (own_client c some);
    }

-- after so many entries of the display
pub next_of_display : (t : Caller Plan Entry) (n turn : ℕ) (v : Event) → IsDisplay n t → IsEventOf 0 v → turn ≡ n + 1 → turn < 2 ^ 64 → IsNext t turn v
next_of_display t n turn v d own next few = record {
  number = let many = d.made in as_number turn (length (events_of t)) (omega (arith, many, next)) few;
  own = subst (λ (k : ℕ). IsEventOf k v) (sym d.zeroth) own;
}

-- one entry more of the display
pub display_more : (old new : Caller Plan Entry) (n : ℕ) (v : Event) → IsDisplay n old → Stays old new → events_of new ≡ events_of old ++ v ∷ [] → IsDisplay (n + 1) new
display_more old new n v d same more = record {
  zeroth = same.0.1 ∙ d.zeroth;
  made = ap length more ∙ length-append (events_of old) (v ∷ []) ∙ ap (λ (m : ℕ). m + 1) d.made;
}

-- so many rounds have three times as many events
rounds_length : (n : ℕ) → length (rounds n) ≡ 3 * n
rounds_length zero = refl
rounds_length (suc n) = let more = rounds_length n in omega (arith, more)

-- after so many rounds of the display, which made nothing before
pub display_rounds : (first now : Caller Plan Entry) (n : ℕ) → IsDisplay 0 first → Stays first now → events_of now ≡ events_of first ++ rounds n → IsDisplay (3 * n) now
display_rounds first now n d same more = record {
  zeroth = same.0.1 ∙ d.zeroth;
  made = let none = d.made in let many = ap length more ∙ length-append (events_of first) (rounds n) in let long = rounds_length n in omega (arith, none, many, long);
}

-- a display that made no call
pub display_told : (told : Call → Type 0) (t : Caller Plan Entry) → IsDisplay 0 t → HasTold told t
display_told told t d = unused_told told t (empty_is (events_of t) d.made)
  where
    empty_is : (es : List Event) → length es ≡ 0 → es ≡ []
    empty_is [] none = refl
    empty_is (e ∷ es) none = absurd (omega (arith, none))

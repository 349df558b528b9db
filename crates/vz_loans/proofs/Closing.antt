-- How tokens are joined at the end.
use Rattle.std.proofs.Common.{◌≡◌, ℕ, zero, suc, ◌+◌, ◌<◌, List, [], ◌∷◌, ◌++◌, length, get_or, sym, ap, ◌∙◌, subst, arith, eqb, length-append, append_assoc, false, Some}
use Rattle.std.specs.Prelude.{All}
use Rattle.vz_loans.specs.{declared.view.View.View, declared.view.Stage.TheVariants.Idle}
use Rattle.vz_loans.specs.Rule.{Seated, weight, claims_of, IsHeld, is_inside, joined}
use Rattle.vz_loans.specs.Tokens.{Caller, numbered, IsWhole, IsAtRest, Covers}
use Rattle.atomic_table.specs.Seated.{TableId}
use Rattle.vz_loans.proofs.Keeps.{planned_is}
use Rattle.vz_loans.proofs.Logs.{olds_left, olds_right, tells_left, tells_right, claims_append}
use Rattle.std.proofs.lemmas.Bool.Decides.{nat_tests}

module _ {A : Type 0} (P : A → Type 0) where
  abbrev pub Each : List A → Type 0
  Each [] = Unit {0}
  Each (x ∷ xs) = P x × Each xs

  pub each_of : (xs : List A) → All P xs → Each xs
  each_of [] h = tt
  each_of (x ∷ xs) h = (h 0 x (omega arith), each_of xs (λ k d l. h (suc k) d (omega arith)))

  pub all_of : (xs : List A) → Each xs → (k : ℕ) (d : A) → k < length xs → P (get_or xs k d)
  all_of [] h k d l = absurd (omega arith)
  all_of (x ∷ xs) h zero d l = h.0
  all_of (x ∷ xs) h (suc k) d l = all_of xs h.1 k d (omega arith)

  pub each_init : (xs ys : List A) → Each (xs ++ ys) → Each xs
  each_init [] ys h = tt
  each_init (x ∷ xs) ys h = (h.0, each_init xs ys h.1)

  pub each_rest : (xs ys : List A) → Each (xs ++ ys) → Each ys
  each_rest [] ys h = h
  each_rest (x ∷ xs) ys h = each_rest xs ys h.1

pub each_on : {A : Type 0} (P Q : A → Type 0) → ((x : A) → P x → Q x) → (xs : List A) → Each P xs → Each Q xs
each_on P Q on [] h = tt
each_on P Q on (x ∷ xs) h = (on x h.0, each_on P Q on xs h.1)

module _ {K P E : Type 0} where
  abbrev pub caller_of : TableId → ℕ → Seated K P E → Caller P E
  caller_of id number me = record { lock = id; plan = me.0.plan; number = number; seen = me.0.seen; inside = is_inside me.0.stage }

  pub covers_own : (id : TableId) (number ticket : ℕ) (me : Seated K P E) → IsHeld number ticket me → Covers me.0 (caller_of id number me)
  covers_own id number ticket me h plan entries planned begun olds told = grind (arith, nat_tests, planned_is (Some plan) me.0.plan h.planned.0 h.planned.1 planned)

module _ {P E : Type 0} where
  pub covers_left : (v w : View P E) (t : Caller P E) → Covers v t → Covers (joined v w) t
  covers_left v w t c plan entries planned begun olds told = c plan entries planned olds.1.0 (olds_left (Some plan) v.olds w.olds entries olds.1.1.1.1) (tells_left v.claims w.claims entries told)

  pub covers_right : (v w : View P E) (t : Caller P E) → Covers w t → Covers (joined v w) t
  covers_right v w t c plan entries planned begun olds told = c plan entries olds.1.1.0 olds.1.1.1.0 (olds_right (Some plan) v.olds w.olds entries olds.1.1.1.1) (tells_right v.claims w.claims entries told)

-- the seats of all tokens but those left are joined in v
pub record Joining {P E : Type 0} (id : TableId) (all left : List (Caller P E)) (v : View P E) : Type 0 where
  pub idle : v.stage ≡ Idle
  pub claims : length v.claims + length left ≡ length all
  pub numbers : (n : ℕ) → claims_of n v.claims + numbered n left ≡ numbered n all
  pub others : (rest : List (Caller P E)) × (left ++ rest ≡ all) × Each (Covers v) rest
  pub ours : Each (IsAtRest id) left

module _ {P E : Type 0} where
  numbered_append : (n : ℕ) (ts us : List (Caller P E)) → numbered n (ts ++ us) ≡ numbered n ts + numbered n us
  numbered_append n [] us = omega arith
  numbered_append n (t ∷ ts) us = let r = numbered_append n ts us in omega arith

  weight_number : (n number : ℕ) (t : Caller P E) → number ≡ t.number → numbered n (t ∷ []) ≡ weight (eqb number n)
  weight_number n number t is = let w = ap (λ (k : ℕ). weight (eqb k n)) is in omega arith

module _ {K P E : Type 0} where
  claim_number : (n number ticket : ℕ) (me : Seated K P E) → IsHeld number ticket me → claims_of n me.0.claims ≡ weight (eqb number n)
  claim_number n number ticket me held = let c = ap (claims_of n) held.claim in omega arith

  -- a token that is taken out of the list
  pub at_rest : (id own : TableId) (number : ℕ) (me : Seated K P E) (x : Caller P E) (left : List (Caller P E)) → caller_of own number me ≡ x → Each (IsAtRest id) (left ++ x ∷ []) → (own ≡ id) × (is_inside me.0.stage ≡ false)
  at_rest id own number me x left is ours = let rest = each_rest (IsAtRest id) left (x ∷ []) ours in (ap (λ (t : Caller P E). t.lock) is ∙ rest.0.0, ap (λ (t : Caller P E). t.inside) is ∙ rest.0.1)

  pub starts_joining : (id own : TableId) (number ticket : ℕ) (all left : List (Caller P E)) (x : Caller P E) (me : Seated K P E) → all ≡ left ++ x ∷ [] → Each (IsAtRest id) all
      → caller_of own number me ≡ x → IsHeld number ticket me → Joining id all left me.0
  starts_joining id own number ticket all left x me is ours view_is held =
      let ours' = subst (Each (IsAtRest id)) is ours in let rest = at_rest id own number me x left view_is ours' in record {
        idle = (held.outside rest.1).0;
        claims = let a = ap length held.claim in let b = ap length is in let c = length-append left (x ∷ []) in omega arith;
        numbers = λ n. let a = claim_number n number ticket me held in let b = ap (numbered n) is in let c = numbered_append n left (x ∷ []) in let d = weight_number n number x (ap (λ (t : Caller P E). t.number) view_is) in omega (arith, a, b, c, d);
        others = (x ∷ [], sym is, (subst (Covers me.0) view_is (covers_own own number ticket me held), tt));
        ours = each_init (IsAtRest id) left (x ∷ []) ours';
      }

  pub goes_joining : (id own : TableId) (number ticket : ℕ) (all old left : List (Caller P E)) (x : Caller P E) (v : View P E) (me : Seated K P E) → old ≡ left ++ x ∷ [] → Joining id all old v
      → caller_of own number me ≡ x → IsHeld number ticket me → Joining id all left (joined v me.0)
  goes_joining id own number ticket all old left x v me is j view_is held = let o = j.others in record {
    idle = j.idle;
    claims = let a = ap length held.claim in let b = ap length is in let c = length-append left (x ∷ []) in let d = j.claims in let e = length-append v.claims me.0.claims in omega arith;
    numbers = λ n. let a = claim_number n number ticket me held in let b = ap (numbered n) is in let c = numbered_append n left (x ∷ []) in let d = weight_number n number x (ap (λ (t : Caller P E). t.number) view_is) in let e = claims_append n v.claims me.0.claims in let f = j.numbers n in
        omega (arith, a, b, c, d, e, f);
    others = (
      x ∷ o.0,
      sym (append_assoc left (x ∷ []) o.0) ∙ ap (λ (l : List (Caller P E)). l ++ o.0) (sym is) ∙ o.1,
      (covers_right v me.0 x (subst (Covers me.0) view_is (covers_own own number ticket me held)), each_on (Covers v) (Covers (joined v me.0)) (λ t c. covers_left v me.0 t c) o.0 o.2),
    );
    ours = each_init (IsAtRest id) left (x ∷ []) (subst (Each (IsAtRest id)) is j.ours);
  }

module _ {K P E : Type 0} where
  pub ends_joining : (id : TableId) (all left : List (Caller P E)) (me : Seated K P E) → Joining id all left me.0 → length left ≡ 0 → IsWhole all me × All (Covers me.0) all
  ends_joining id all [] me j e = let c = j.claims in (
    record { idle = j.idle; claims = omega arith; numbers = λ n. let m = j.numbers n in omega arith },
    all_of (Covers me.0) all (subst (Each (Covers me.0)) j.others.1 j.others.2),
  )
  ends_joining id all (x ∷ xs) me j e = absurd (omega arith)

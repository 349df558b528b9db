-- How a seat deals out its numbers.
use Rattle.std.proofs.Common.{◌≡◌, ℕ, zero, suc, ◌+◌, ◌-◌, ◌<◌, ◌≤◌, List, [], ◌∷◌, ◌++◌, length, refl, sym, ◌∙◌, ap, subst, arith, Option, Some}
use Rattle.vz_loans.specs.{declared.kept.TheConstants.MOST_CALLERS, Tokens.Caller, Tokens.unused, Tokens.unused_from}
use Rattle.vz_loans.specs.declared.view.Stage.TheVariants.{Idle}
use Rattle.vz_loans.specs.Rule.{numbers_from, view, Seated, IsHeld, left, given, others_of, ready}
use Rattle.vz_loans.proofs.{Logs.numbers_length, Closing.caller_of}
use Rattle.atomic_table.specs.Seated.{TableId}
use Rattle.std.proofs.lemmas.Bool.Decides.{nat_tests}

module _ {K P E : Type 0} where
  -- a seat before any entry, with one number of a caller and with these spare ones
  abbrev pub single : Option P → ℕ → List ℕ → Seated K P E
  single o k ns = (view Idle o [] [] ((k, []) ∷ []) ns, [])

  abbrev cut_off : Seated K P E → Seated K P E
  cut_off me = (left me.0, me.1)

  abbrev cut_out : Seated K P E → Seated K P E
  cut_out me = (given me.0, [])

  leaves_more : (me : Seated K P E) (o : Option P) (k n c : ℕ) → me ≡ single o 0 (numbers_from k n) → n ≡ suc c → cut_off me ≡ single o 0 (numbers_from (k + 1) c)
  leaves_more me o k n c is more = ap cut_off is ∙ ap (λ (x : ℕ). single o 0 (others_of (numbers_from k x))) more

  gives_more : (me : Seated K P E) (o : Option P) (k n c : ℕ) → me ≡ single o 0 (numbers_from k n) → n ≡ suc c → cut_out me ≡ single o k []
  gives_more me o k n c is more = ap cut_out is ∙ ap (λ (x : ℕ). cut_out (single o 0 (numbers_from k x))) more

  pub leaves_ready : (me : Seated K P E) (o : Option P) (k : ℕ) → me ≡ ready o k → k < MOST_CALLERS → cut_off me ≡ ready o (k + 1)
  leaves_ready me o k is less = leaves_more me o k (MOST_CALLERS - k) (MOST_CALLERS - (k + 1)) is (omega arith)

  pub gives_ready : (me : Seated K P E) (o : Option P) (k : ℕ) → me ≡ ready o k → k < MOST_CALLERS → cut_out me ≡ single o k []
  gives_ready me o k is less = gives_more me o k (MOST_CALLERS - k) (MOST_CALLERS - (k + 1)) is (omega arith)

  -- enough spare numbers are left
  pub enough : (me : Seated K P E) (o : Option P) (k callers : ℕ) → me ≡ ready o k → k < callers → callers ≤ MOST_CALLERS → MOST_CALLERS < length me.0.spares + callers
  enough me o k callers is less few = let l = ap (λ (m : Seated K P E). length m.0.spares) is ∙ numbers_length k (MOST_CALLERS - k) in omega (arith, l, less, few)

  pub holds_single : (me : Seated K P E) (o : Option P) (p : P) (k : ℕ) (ns : List ℕ) → o ≡ Some p → me ≡ single o k ns → IsHeld k 0 me
  holds_single me o p k ns planned is =
      subst (IsHeld k 0) (sym is) record { planned = (p, planned); claim = refl; settled = refl; outside = λ _. (refl, refl); inside = λ e. absurd (cc) }

module _ {P E : Type 0} where
  pub unused_more : (id : TableId) (plan : Option P) (k count : ℕ) → unused_from {E = E} id plan k (count + 1) ≡ unused_from id plan k count ++ unused id plan (k + count) ∷ []
  unused_more id plan k zero = ap (λ (n : ℕ). unused {E = E} id plan n ∷ []) (omega arith)
  unused_more id plan k (suc count) = let t : suc count + 1 ≡ suc (count + 1) = omega arith in let s : (k + 1) + count ≡ k + suc count = omega arith in
      ap (unused_from {E = E} id plan k) t ∙ ap (λ (ts : List (Caller P E)). unused id plan k ∷ ts) (unused_more id plan (k + 1) count ∙ ap (λ (n : ℕ). unused_from id plan (k + 1) count ++ unused id plan n ∷ []) s)

  pub unused_all : (id : TableId) (plan : Option P) (callers : ℕ) (xs ys : List (Caller P E)) (x : Caller P E) → 0 < callers → xs ≡ unused_from id plan 1 (callers - 1) → x ≡ unused id plan 0 → ys ≡ x ∷ xs → ys ≡ unused_from id plan 0 callers
  unused_all id plan callers xs ys x some_caller others first is = grind (arith, nat_tests)

module _ {K P E : Type 0} where
  pub first_unused : (id own : TableId) (me : Seated K P E) (plan : Option P) (k : ℕ) → own ≡ id → me ≡ ready plan k → caller_of own 0 me ≡ unused id plan 0
  first_unused id own me plan k same is = λ i. caller_of (same i) 0 (is i)

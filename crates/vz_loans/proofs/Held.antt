-- What a turn does to a token.
use Rattle.std.proofs.Common.{◌≡◌, ◌≢◌, ℕ, ◌+◌, ◌%◌, ◌^◌, ◌<◌, Bool, true, false, List, [], ◌∷◌, ◌++◌, sym, refl, ap, ◌∙◌, subst, inl, inr, ◌⊎◌, arith, eq-eqb, Option, Some, None}
use mathlib.Core.List.{IsPrefix}
use mathlib.Core.Option.{none}
use Rattle.atomic_table.specs.Table.{step, rest, Allows}
use Rattle.vz_loans.specs.{declared.view.View.View, declared.view.Stage.TheVariants.Waiting}
use Rattle.vz_loans.specs.Rule.{Log, Turns, places, claims_of, weight, staged, Seated, looked, ended, HasTurn, IsHeld, is_inside}
use native.Mathlib.Nat.{mod-add-mod}
use Rattle.vz_loans.proofs.Ends.{Follows, ends, or_else, slot_state}
use Rattle.std.proofs.lemmas.Bool.Decides.{nat_tests}

abbrev full_at : {K : Type 0} → Option K → Bool
full_at None = false
full_at (Some k) = true

module _ {K P E : Type 0} (plan_of : K → P) (entries_of : K → Log E) where
  abbrev M : Type 0
  M = Seated K P E

  abbrev pub queued : M → ℕ → M
  queued me t = (staged (Waiting t) me.0, me.1)

  pub comes : (me m m' : M) (t ticket r : ℕ) → m ≡ queued me t → ticket ≡ t % 2 ^ 64 → looked plan_of entries_of (step 0 0 0 0 none) m r m' → r ≡ ticket → HasTurn plan_of entries_of me ticket m'
  comes me m m' t ticket r is says look hit = (t, says, (subst (λ (x : M). looked plan_of entries_of (step 0 0 0 0 none) x r m') is look t refl).0 (hit ∙ says))

  pub stays : (me m m' : M) (t ticket r : ℕ) → m ≡ queued me t → ticket ≡ t % 2 ^ 64 → looked plan_of entries_of (step 0 0 0 0 none) m r m' → r ≢ ticket → m' ≡ queued me t
  stays me m m' t ticket r is says look miss = (subst (λ (x : M). looked plan_of entries_of (step 0 0 0 0 none) x r m') is look t refl).1 (λ e. miss (e ∙ sym says))

  pub record Entered (number ticket : ℕ) (me m : M) (k : K) : Type 0 where
    pub held : IsHeld number ticket m
    pub same : m.0.plan ≡ me.0.plan
    pub inside : is_inside m.0.stage ≡ true
    pub plan : m.0.plan ≡ Some (plan_of k)
    pub seen : m.0.seen ≡ entries_of k
    pub later : IsPrefix me.0.seen m.0.seen
    pub mine : places number m.0.seen ≡ places number me.0.seen

  abbrev is_full : List (ℕ × Option K) → Bool
  is_full [] = false
  is_full (x ∷ xs) = full_at x.1

  pub never_empty : (me m : M) (ticket : ℕ) (found : Option K) → HasTurn plan_of entries_of me ticket m → m.1 ≡ (0, found) ∷ rest m.1 → found ≡ None → ⊥
  never_empty me m ticket found turn has is = let a : true ≡ false = ap is_full (sym (ap (λ (x : M). x.1) turn.2.1) ∙ has) ∙ ap full_at is in absurd (cc)

  pub enters : (number old ticket : ℕ) (me m m' : M) (k : K) (found : Option K) → IsHeld number old me → is_inside me.0.stage ≡ false → HasTurn plan_of entries_of me ticket m → m.1 ≡ (0, found) ∷ rest m.1 → found ≡ Some k
      → m' ≡ (m.0, (0, None) ∷ rest m.1) → Entered number ticket me m' k
  enters number old ticket me m m' k found h out turn has is put = grind (arith, nat_tests, slot_state k, or_else k)

  -- the seat's state k is the one that was seen, or has one entry more
  abbrev pub Adds : ℕ → Log E → K → Type 0
  Adds number seen k = (entries_of k ≡ seen) ⊎ ((e : E) × (entries_of k ≡ seen ++ (number, e) ∷ []))

  follows : (number : ℕ) (v : View P E) (k : K) → v.claims ≡ (number, places number v.seen) ∷ [] → Adds number v.seen k → Follows plan_of entries_of k v
  follows number v k claim (inl e) = inl e
  follows number v k claim (inr x) = let one : claims_of number v.claims ≡ weight true + 0 = ap (claims_of number) claim ∙ ap (λ b. weight b + 0) (eq-eqb number number refl) in inr (number, x.0, omega arith, x.1)

  pub leaves : (plan : P) (callers slots id number ticket new : ℕ) (me m : M) (k : K) → 0 < slots → IsHeld number ticket me → is_inside me.0.stage ≡ true → me.0.plan ≡ Some (plan_of k) → Adds number me.0.seen k → m ≡ (me.0, (0, Some k) ∷ rest me.1)
      → new ≡ (ticket + 1) % 2 ^ 64 → Allows (Turns plan_of entries_of plan callers) slots id m 1 (λ _. new) (λ _. ended plan_of entries_of (step slots 1 new 0 none) m new)
  leaves plan callers slots id number ticket new me m k some_slot h in' planned adds put next = let b = h.inside in' in let v : m.0 ≡ me.0 = ap (λ (x : M). x.0) put in
      ends plan_of entries_of plan callers slots id m new b.0 k (rest me.1) some_slot (ap (λ (x : View P E). x.stage) v ∙ b.1) (next ∙ ap (λ (z : ℕ). (z + 1) % 2 ^ 64) b.2 ∙ mod-add-mod b.0 (2 ^ 64) 1) (ap (λ (x : M). x.1) put)
      (ap (λ (x : View P E). x.plan) v ∙ planned) (subst (Follows plan_of entries_of k) (sym v) (follows number me.0 k h.claim adds))

  pub record Left (number ticket : ℕ) (me m : M) (k : K) : Type 0 where
    pub held : IsHeld number ticket m
    pub same : m.0.plan ≡ me.0.plan
    pub outside : is_inside m.0.stage ≡ false
    pub seen : m.0.seen ≡ entries_of k

  pub left_held : (number ticket : ℕ) (me m m' : M) (k : K) → IsHeld number ticket me → is_inside me.0.stage ≡ true → me.0.plan ≡ Some (plan_of k) → m ≡ (me.0, (0, Some k) ∷ rest me.1) → ended plan_of entries_of (step 0 0 0 0 none) m 0 m' → Left number ticket me m' k
  left_held number ticket me m m' k h in' planned put told = grind (arith, nat_tests)

-- What a lack that sits down, and one that gets up, leave of bunches.
use Rattle.std.proofs.Common.{◌≡◌, ℕ, ◌+◌, ◌≤◌, ◌<◌, Bool, true, false, not, ◌==◌, ◌&&◌, cond, nat_lt, Option, Some, None, is_some, zero, suc, List, [], ◌∷◌, length, filter, refl, ap, sym, subst, inl, inr, ◌⊎◌, ◌∙◌, arith}
use Rattle.std.specs.Map.{lookup}
use Rattle.std.specs.Option.{option_map}
use Rattle.std.proofs.lemmas.Bool.Decides.{nat_tests}
use Rattle.vz_deps.specs.declared.bunches.Bunch.{Bunch}
use Rattle.vz_deps.specs.declared.bunches.Lack.{Lack}
use Rattle.vz_deps.specs.declared.bunches.Seat.{Seat}
use Rattle.vz_deps.specs.Bunching.{same_lack, same_bunch, same_seat, sized, IsSeated}
use Rattle.vz_deps.proofs.Same.{two, either, from_number, from_lack, own_lack, from_bunch, own_bunch, from_seat, own_seat, pick_yes, pick_no, some_same, none_some, yes_no}

module _ (A : Seat → Option Lack) (B : Lack → Option Seat) (N : Bunch → ℕ) (stands : IsSeated A B N) where
  -- A lack sits down

  module _ (k : Bunch) (x : Lack) (new : option_map (λ s. s.bunch) (B x) ≡ None) (A' : Seat → Option Lack) (B' : Lack → Option Seat) (N' : Bunch → ℕ)
      (is_a : (s : Seat) → A' s ≡ cond (same_seat (record { bunch = k; at = N k }) s) (Some x) (A s))
      (is_b : (y : Lack) → B' y ≡ cond (same_lack x y) (Some (record { bunch = k; at = N k })) (B y))
      (is_n : (h : Bunch) → N' h ≡ cond (same_bunch k h) (N k + 1) (N h)) where
    put_has : (s : Seat) (y : Lack) → A' s ≡ Some y → B' y ≡ Some s
    put_has s y e = grind (arith, nat_tests, either, some_same, pick_yes, from_seat, own_lack, pick_no, none_some, from_lack)

    put_sits : (y : Lack) (s : Seat) → B' y ≡ Some s → A' s ≡ Some y
    put_sits y s e = grind (arith, nat_tests, either (same_lack x y), some_same, pick_yes, own_seat, from_lack x y, pick_no, either, from_seat)

    put_full : (s : Seat) → is_some (A' s) ≡ nat_lt s.at (N' s.bunch)
    put_full s = grind (arith, nat_tests, either (same_bunch k s.bunch), pick_yes, either, two, pick_no, from_bunch k s.bunch)

    pub put_stands : IsSeated A' B' N'
    put_stands = record { has = put_has; sits = put_sits; full = put_full }

  -- a bunch in which one sits is not empty
  pub not_empty : (x : Lack) (u : Seat) → B x ≡ Some u → 0 < N u.bunch
  not_empty x u sat = grind (arith, nat_tests)

  -- A lack gets up

  module _ (x : Lack) (u : Seat) (sat : B x ≡ Some u) (low : ℕ) (size : low + 1 ≡ N u.bunch) where
    abbrev end : Seat
    end = record { bunch = u.bunch; at = low }

    -- whoever sits at the end
    pub at_end : is_some (A end) ≡ true
    at_end = stands.full end ∙ ap (nat_lt low) (sym size) ∙ (let less : nat_lt low (low + 1) ≡ true = grind (arith, nat_tests) in less)

    sat_there : A u ≡ Some x
    sat_there = stands.sits x u sat

    -- the seat was no later than the last one
    pub no_later : u.at ≤ low
    no_later = grind (arith, nat_tests, sat_there)

    -- the two seats, where the lack was not the last
    apart : (u.at ≡ low → true ≡ false) → same_seat end u ≡ false
    apart inner = grind (arith, nat_tests, either (same_seat end u), from_seat end u)

    pub in_sit : (u.at ≡ low → true ≡ false) → (A' : Seat → Option Lack) → ((s : Seat) → A' s ≡ cond (same_seat end s) None (A s)) → A' u ≡ Some x
    in_sit inner A' is = is u ∙ pick_no _ _ _ (apart inner) ∙ sat_there

    pub in_note : (u.at ≡ low → true ≡ false) → (m : Lack) → A end ≡ Some m → (B' : Lack → Option Seat) → ((y : Lack) → B' y ≡ cond (same_lack x y) None (B y)) → B' m ≡ Some end
    in_note inner m at_last B' is = grind (arith, nat_tests, either (same_lack x m), some_same u end, from_lack x m, pick_no)

    -- at the end itself
    module _ (last : u.at ≡ low) (A' : Seat → Option Lack) (B' : Lack → Option Seat) (N' : Bunch → ℕ)
        (is_a : (s : Seat) → A' s ≡ cond (same_seat end s) None (A s))
        (is_b : (y : Lack) → B' y ≡ cond (same_lack x y) None (B y))
        (is_n : (h : Bunch) → N' h ≡ cond (same_bunch u.bunch h) low (N h)) where
      is_end : end ≡ u
      is_end = λ i. record { bunch = u.bunch; at = sym last i }

      kept_a : (s : Seat) (y : Lack) → A' s ≡ Some y → (same_seat end s ≡ false) × (A s ≡ Some y)
      kept_a s y e = grind (arith, nat_tests, either (same_seat end s), none_some y (A' s), pick_yes, pick_no)

      end_has : (s : Seat) (y : Lack) → A' s ≡ Some y → B' y ≡ Some s
      end_has s y e = grind (arith, nat_tests, kept_a s y e, either (same_lack x y), some_same u s, from_lack x y, yes_no (same_seat end s), is_end, own_seat end, pick_no)

      end_sits : (y : Lack) (s : Seat) → B' y ≡ Some s → A' s ≡ Some y
      end_sits y s e = grind (arith, nat_tests, either, none_some, pick_yes, pick_no, some_same, sat_there, is_end, from_seat, yes_no, own_lack)

      end_full : (s : Seat) → is_some (A' s) ≡ nat_lt s.at (N' s.bunch)
      end_full s = grind (arith, nat_tests, either (same_bunch u.bunch s.bunch), pick_yes, from_bunch u.bunch s.bunch, either, two, pick_no)

      pub end_stands : IsSeated A' B' N'
      end_stands = record { has = end_has; sits = end_sits; full = end_full }

      pub end_seats : (s : Seat) (y : Lack) → A' s ≡ Some y → (j : ℕ) × (s.at ≤ j) × (A (record s { at = j }) ≡ Some y)
      end_seats s y e = (s.at, omega arith, (kept_a s y e).1)

    -- before the end, where the last one sits down
    module _ (m : Lack) (at_last : A end ≡ Some m) (inner : u.at ≡ low → true ≡ false) (A' : Seat → Option Lack) (B' : Lack → Option Seat) (N' : Bunch → ℕ)
        (is_a : (s : Seat) → A' s ≡ cond (same_seat u s) (Some m) (cond (same_seat end s) None (A s)))
        (is_b : (y : Lack) → B' y ≡ cond (same_lack m y) (Some u) (cond (same_lack x y) None (B y)))
        (is_n : (h : Bunch) → N' h ≡ cond (same_bunch u.bunch h) low (N h)) where
      m_sat : B m ≡ Some end
      m_sat = stands.has end m at_last

      -- seats and lacks that stay
      step_a : (s : Seat) (y : Lack) → A' s ≡ Some y → ((u ≡ s) × (m ≡ y)) ⊎ ((same_seat u s ≡ false) × (same_seat end s ≡ false) × (A s ≡ Some y))
      step_a s y e = grind (arith, nat_tests, either (same_seat u s), from_seat u s, some_same m y, pick_yes, either (same_seat end s), none_some y (A' s), pick_no)

      step_b : (y : Lack) (s : Seat) → B' y ≡ Some s → ((m ≡ y) × (u ≡ s)) ⊎ ((same_lack m y ≡ false) × (same_lack x y ≡ false) × (B y ≡ Some s))
      step_b y s e = grind (arith, nat_tests, either (same_lack m y), from_lack m y, some_same u s, pick_yes, either (same_lack x y), none_some s (B' y), pick_no)

      in_has : (s : Seat) (y : Lack) → A' s ≡ Some y → B' y ≡ Some s
      in_has s y e = grind (arith, nat_tests, step_a, pick_yes, own_lack, either, some_same, m_sat, from_lack, yes_no, own_seat, pick_no)

      in_sits : (y : Lack) (s : Seat) → B' y ≡ Some s → A' s ≡ Some y
      in_sits y s e =
          elim (step_b y s e) [
            | inl p ↦ is_a s ∙ pick_yes _ _ _ (ap (same_seat u) (sym p.1) ∙ own_seat u) ∙ ap Some p.0
            | inr p ↦
                let old : A s ≡ Some y = stands.sits y s p.2 in
                elim (either (same_seat u s)) [
                  | inl h ↦
                      let me : x ≡ y = some_same x y (sym sat_there ∙ ap A (from_seat u s h) ∙ old) in
                      let no_way = yes_no (same_lack x y) (ap (same_lack x) (sym me) ∙ own_lack x) p.1 in
                      absurd (cc)
                  | inr h ↦ elim (either (same_seat end s)) [
                    | inl l ↦
                        let me : m ≡ y = some_same m y (sym at_last ∙ ap A (from_seat end s l) ∙ old) in
                        let no_way = yes_no (same_lack m y) (ap (same_lack m) (sym me) ∙ own_lack m) p.0 in
                        absurd (cc)
                    | inr l ↦ is_a s ∙ pick_no _ _ _ h ∙ pick_no _ _ _ l ∙ old
                  ]
                ]
          ]

      in_full : (s : Seat) → is_some (A' s) ≡ nat_lt s.at (N' s.bunch)
      in_full s = grind (arith, nat_tests, either (same_bunch u.bunch s.bunch), pick_yes, from_bunch u.bunch s.bunch, either, no_later, from_number u.at low, two, pick_no)

      pub in_stands : IsSeated A' B' N'
      in_stands = record { has = in_has; sits = in_sits; full = in_full }

      pub in_seats : (s : Seat) (y : Lack) → A' s ≡ Some y → (j : ℕ) × (s.at ≤ j) × (A (record s { at = j }) ≡ Some y)
      in_seats s y e =
          elim (step_a s y e) [
            | inl p ↦ (low, subst (λ (z : Seat). z.at ≤ low) p.0 no_later, ap (λ (z : Seat). A (record z { at = low })) (sym p.0) ∙ at_last ∙ ap Some p.1)
            | inr p ↦ (s.at, omega arith, p.2)
          ]

      pub in_bunch : (y : Lack) → option_map (λ s. s.bunch) (B' y) ≡ cond (same_lack x y) None (option_map (λ s. s.bunch) (B y))
      in_bunch y = grind (arith, nat_tests, either, from_lack, pick_yes, m_sat, some_same, pick_no)

-- the size of a bunch that was written
pub sized_put : (old new : List (Bunch × ℕ)) (k : Bunch) (n : ℕ) (h : Bunch) → lookup (same_bunch h) new ≡ cond (same_bunch k h) (Some n) (lookup (same_bunch h) old) → sized new h ≡ cond (same_bunch k h) n (sized old h)
sized_put old new k n h e = grind (arith, nat_tests)

-- Not more sit in a bunch than there are seats

others : Seat → List (Seat × Lack) → List (Seat × Lack)
others t es = filter (λ e. not (same_seat t e.0)) es

fewer : (t : Seat) (es : List (Seat × Lack)) → is_some (lookup (same_seat t) es) ≡ true → length (others t es) + 1 ≤ length es
unfolding others
fewer t [] h = absurd (cc)
fewer t (e ∷ es) h =
    elim (same_seat t e.0) as (λ (b : Bool). is_some (cond b (Some e.1) (lookup (same_seat t) es)) ≡ true → length (cond (not b) (e ∷ others t es) (others t es)) + 1 ≤ length (e ∷ es)) [
      | true ↦ λ k. let less = no_more t es in omega (arith, less)
      | false ↦ λ k. let less = fewer t es k in omega (arith, less)
    ] h
  where
    no_more : (t : Seat) (es : List (Seat × Lack)) → length (others t es) ≤ length es
    no_more t [] = omega arith
    no_more t (e ∷ es) =
        elim (same_seat t e.0) as (λ (b : Bool). length (cond (not b) (e ∷ others t es) (others t es)) ≤ length (e ∷ es)) [
          | true ↦ let less = no_more t es in omega (arith, less)
          | false ↦ let less = no_more t es in omega (arith, less)
        ]

still_there : (t s : Seat) → same_seat t s ≡ false → (es : List (Seat × Lack)) → lookup (same_seat s) (others t es) ≡ lookup (same_seat s) es
unfolding others
still_there t s h [] = refl
still_there t s h (e ∷ es) = grind (arith, nat_tests, either, apart, from_seat, yes_no, still_there t s h es, pick_no)

pub few_seats : (k : Bunch) (n : ℕ) (es : List (Seat × Lack)) → ((i : ℕ) → nat_lt i n ≡ true → is_some (lookup (same_seat (record { bunch = k; at = i })) es) ≡ true) → n ≤ length es
few_seats k zero es h = omega arith
few_seats k (suc n) es h =
    let t : Seat = record { bunch = k; at = n } in
    let less = fewer t es (h n (grind (arith, nat_tests))) in
    let rest = few_seats k n (others t es) (λ i low. ap is_some (still_there t (record { bunch = k; at = i }) (apart i low) es) ∙ h i (grind (arith, nat_tests, low))) in
    omega (arith, rest, less)
  where
    apart : (i : ℕ) → nat_lt i n ≡ true → same_seat (record { bunch = k; at = n }) (record { bunch = k; at = i }) ≡ false
    apart i low =
        let other : (n == i) ≡ false = grind (arith, nat_tests, low) in
        ap (λ t. same_bunch k k && t) other ∙ ap (λ t. t && false) (own_bunch k)

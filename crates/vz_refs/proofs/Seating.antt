-- What stands in groups, as one more comes and as one goes.
use Rattle.std.proofs.Common.{◌≡◌, ℕ, ◌+◌, ◌<◌, ◌≤◌, ◌==◌, Bool, true, false, Option, Some, None, is_some, refl, ap, sym, subst, ◌∙◌, arith, cond}
use Rattle.std.specs.Option.{option_map}
use Rattle.std.proofs.lemmas.Bool.Decides.{nat_tests}
use Rattle.vz_ids.specs.declared.GroupKey.{GroupKey}
use Rattle.vz_refs.specs.declared.sets.Place.{Place}
use Rattle.vz_refs.specs.Indexing.{or_zero, same_key, same_place}
use Rattle.vz_refs.specs.Seated.{IsSeated}
use Rattle.vz_refs.proofs.Same.{from_key, self_key, from_place, self_place, second_not}
use Rattle.std.proofs.lemmas.Option.{same_Some as some_inj}
use Rattle.std.proofs.lemmas.Bool.{and_right as and_not, and_left as not_and}

not_same : {A : Type 0} (same : A → A → Bool) (from : (a b : A) → same a b ≡ true → a ≡ b) (a b : A) → ((a ≡ b) → true ≡ false) → same a b ≡ false
not_same same from a b f = elim (same a b) as (λ (t : Bool). same a b ≡ t → t ≡ false) [ true ↦ λ e. f (from a b e) | false ↦ λ e. refl ] refl

less_than : (a m z : ℕ) → a < m → z + 1 ≡ m → (z == a) ≡ false → a < z
less_than a m z h e f = grind (arith, nat_tests)

below : (a z m : ℕ) → (z == a) ≡ false → a < z + 1 → z ≡ m → a < m
below a z m e f g = grind (arith, nat_tests)

-- the size of a group that was written
pub sized : (t : Bool) (n : ℕ) (o : Option ℕ) → or_zero (cond t (Some n) o) ≡ cond t n (or_zero o)
sized x0 n o = grind (arith, nat_tests)

pub sized_left : (t : Bool) (o : Option ℕ) → or_zero (cond t o None) ≡ cond t (or_zero o) 0
sized_left x0 o = grind (arith, nat_tests)

-- what stands is the same where what is kept is
pub seated_same : {K E : Type 0} (place : E → Place) (kept kept' : K → Option E) (at : Place → Option K) (size : GroupKey → ℕ) → IsSeated place kept at size → ((q : K) → kept' q ≡ kept q) → IsSeated place kept' at size
seated_same {K} {E} place kept kept' at size good is = subst (λ (f : K → Option E). IsSeated place f at size) (λ i q. sym (is q) i) good

-- nothing goes where nothing was
pub gone_already : {K E : Type 0} (same : K → K → Bool) (from : (a b : K) → same a b ≡ true → a ≡ b) (kept kept' : K → Option E) (x : K) → kept x ≡ None → ((q : K) → kept' q ≡ cond (same x q) None (kept q)) → (q : K) → kept' q ≡ kept q
gone_already same from kept kept' x none is q = grind (arith, nat_tests)

module _ {K E : Type 0} (same : K → K → Bool) (from : (a b : K) → same a b ≡ true → a ≡ b) (self : (a : K) → same a a ≡ true) (place : E → Place)
    (kept : K → Option E) (at : Place → Option K) (size : GroupKey → ℕ) (good : IsSeated place kept at size) where
  -- One more

  module _ (x : K) (put : E) (new : kept x ≡ None) (big : (place put).at ≡ size (place put).group)
      (kept' : K → Option E) (keeps : (q : K) → kept' q ≡ cond (same x q) (Some put) (kept q))
      (at' : Place → Option K) (ats : (p : Place) → at' p ≡ cond (same_place (place put) p) (Some x) (at p))
      (size' : GroupKey → ℕ) (sizes : (g : GroupKey) → size' g ≡ cond (same_key (place put).group g) ((place put).at + 1) (size g)) where
    own_size : size' (place put).group ≡ (place put).at + 1
    own_size = sizes (place put).group ∙ ap (λ t. cond t ((place put).at + 1) (size (place put).group)) (self_key (place put).group)

    more_placed : (q : K) (e : E) → kept' q ≡ Some e → (at' (place e) ≡ Some q) × ((place e).at < size' (place e).group)
    more_placed q e h = grind (arith, nat_tests, some_inj, self_place, own_size, from_place, from_key)

    more_held : (p : Place) (q : K) → at' p ≡ Some q → (e : E) × (kept' q ≡ Some e) × (place e ≡ p)
    more_held p q h =
        elim (same_place (place put) p) as (λ (t : Bool). same_place (place put) p ≡ t → cond t (Some x) (at p) ≡ Some q → (e : E) × (kept' q ≡ Some e) × (place e ≡ p)) [
          | true ↦ λ f g.
              (put, subst (λ (q : K). kept' q ≡ Some put) (some_inj x q g) (keeps x ∙ ap (λ t. cond t (Some put) (kept x)) (self x)), from_place (place put) p f)
          | false ↦ λ f g.
              let old = good.held p q g in (
                old.0,
                elim (same x q) as (λ (t : Bool). same x q ≡ t → kept' q ≡ Some old.0) [
                  | true ↦ λ k. let no_way : None ≡ Some old.0 = sym new ∙ ap kept (from x q k) ∙ old.1 in absurd (cc)
                  | false ↦ λ k. keeps q ∙ ap (λ t. cond t (Some put) (kept q)) k ∙ old.1
                ] refl,
                old.2,
              )
        ] refl (sym (ats p) ∙ h)

    more_filled : (p : Place) → p.at < size' p.group → is_some (at' p) ≡ true
    more_filled p low = grind (arith, nat_tests, from_key (place put).group p.group, second_not (same_key (place put).group p.group), own_size)

    pub seat_more : IsSeated place kept' at' size'
    seat_more = record { placed = more_placed; held = more_held; filled = more_filled }

  -- One fewer

  -- a group in which one stands is not empty
  pub not_empty : (x : K) (e : E) → kept x ≡ Some e → 0 < size (place e).group
  not_empty x e h = let low = (good.placed x e h).1 in omega (arith, low)

  module _ (x : K) (gone : E) (was : kept x ≡ Some gone) (z : ℕ) (big : z + 1 ≡ size (place gone).group) where
    abbrev tail : Place
    tail = record { group = (place gone).group; at = z }

    pub at_end : is_some (at tail) ≡ true
    at_end = good.filled tail (omega (arith, big))

    module _ (m : K) (last : at tail ≡ Some m) (move : E → E) (moved : (e : E) → place (move e) ≡ record { group = (place e).group; at = (place gone).at })
        (kept' : K → Option E) (keeps : (q : K) → kept' q ≡ cond (same m q) (option_map move (cond (same x q) None (kept q))) (cond (same x q) None (kept q)))
        (at' : Place → Option K) (ats : (p : Place) → at' p ≡ cond (same_place (place gone) p) (option_map (λ _. m) (cond (same_place tail p) None (at p))) (cond (same_place tail p) None (at p)))
        (size' : GroupKey → ℕ) (sizes : (g : GroupKey) → size' g ≡ cond (same_key (place gone).group g) z (size g)) where
      was_at : (at (place gone) ≡ Some x) × ((place gone).at < size (place gone).group)
      was_at = good.placed x gone was

      moves : (e : E) × (kept m ≡ Some e) × (place e ≡ tail)
      moves = good.held tail m last

      -- the moved one stands where the other one stood
      spot : place (move moves.0) ≡ place gone
      spot = moved moves.0 ∙ (λ i. record { group = (moves.2 i).group; at = (place gone).at })

      own_less : size' (place gone).group ≡ z
      own_less = sizes (place gone).group ∙ ap (λ t. cond t z (size (place gone).group)) (self_key (place gone).group)

      apart_from : (a b : K) → same a b ≡ false → a ≡ b → true ≡ false
      apart_from a b e is = sym (ap (same a) (sym is) ∙ self a) ∙ e

      kept_else : (q : K) → same m q ≡ false → same x q ≡ false → kept' q ≡ kept q
      kept_else q e f = keeps q ∙ ap (λ t. cond t (option_map move (cond (same x q) None (kept q))) (cond (same x q) None (kept q))) e ∙ ap (λ t. cond t None (kept q)) f

      at_else : (p : Place) → same_place (place gone) p ≡ false → same_place tail p ≡ false → at' p ≡ at p
      at_else p e f = grind (arith, nat_tests)

      tail_apart : same x m ≡ false → same_place tail (place gone) ≡ false
      tail_apart e = not_same same_place from_place tail (place gone) (λ is. apart_from x m e (some_inj x m (sym was_at.0 ∙ sym (ap at is) ∙ last)))

      moved_spot : same x m ≡ false → at' (place gone) ≡ Some m
      moved_spot e = grind (arith, nat_tests, self_place (place gone), tail_apart e)

      fewer_placed : (q : K) (e : E) → kept' q ≡ Some e → (at' (place e) ≡ Some q) × ((place e).at < size' (place e).group)
      fewer_placed q e h = by_test (same m q) (same x q) refl refl (sym (keeps q) ∙ h)
        where
          by_test : (t u : Bool) → same m q ≡ t → same x q ≡ u → cond t (option_map move (cond u None (kept q))) (cond u None (kept q)) ≡ Some e
              → (at' (place e) ≡ Some q) × ((place e).at < size' (place e).group)
          by_test true true f g k = absurd (cc)
          by_test false true f g k = absurd (cc)
          by_test true false f g k =
              let is = from m q f in
              let own : move moves.0 ≡ e = some_inj (move moves.0) e (sym (ap (option_map move) (sym (ap kept is) ∙ moves.1)) ∙ k) in
              let apart : same x m ≡ false = ap (same x) is ∙ g in
              let off = second_not (same_key (place gone).group (place gone).group) (z == (place gone).at) (tail_apart apart) (self_key (place gone).group) in
              let low = less_than (place gone).at (size (place gone).group) z was_at.1 big off in
              subst (λ (e : E). (at' (place e) ≡ Some q) × ((place e).at < size' (place e).group)) own
              (subst (λ (p : Place). (at' p ≡ Some q) × (p.at < size' p.group)) (sym spot) (moved_spot apart ∙ ap (λ q. Some q) is, omega (arith, low, own_less)))
          by_test false false f g k =
              let old = good.placed q e k in
              let not_spot = not_same same_place from_place (place gone) (place e) (λ is. apart_from x q g (some_inj x q (sym was_at.0 ∙ ap at is ∙ old.0))) in
              let not_tail = not_same same_place from_place tail (place e) (λ is. apart_from m q f (some_inj m q (sym last ∙ ap at is ∙ old.0))) in (
                at_else (place e) not_spot not_tail ∙ old.0,
                elim (same_key (place gone).group (place e).group) as (λ (t : Bool). same_key (place gone).group (place e).group ≡ t → (place e).at < size' (place e).group) [
                  | true ↦ λ s.
                      let is = from_key (place gone).group (place e).group s in
                      let off = second_not (same_key (place gone).group (place e).group) (z == (place e).at) not_tail s in
                      let low = less_than (place e).at (size (place e).group) z old.1 (big ∙ ap size is) off in
                      omega (arith, low, ap size' is, own_less)
                  | false ↦ λ s. let is = sizes (place e).group ∙ ap (λ t. cond t z (size (place e).group)) s in omega (arith, old.1, is)
                ] refl,
              )

      fewer_held : (p : Place) (q : K) → at' p ≡ Some q → (e : E) × (kept' q ≡ Some e) × (place e ≡ p)
      fewer_held p q h = by_test (same_place (place gone) p) (same_place tail p) refl refl (sym (ats p) ∙ h)
        where
          by_test : (t u : Bool) → same_place (place gone) p ≡ t → same_place tail p ≡ u → cond t (option_map (λ _. m) (cond u None (at p))) (cond u None (at p)) ≡ Some q
              → (e : E) × (kept' q ≡ Some e) × (place e ≡ p)
          by_test true true f g k = absurd (cc)
          by_test false true f g k = absurd (cc)
          by_test true false f g k =
              let there = from_place (place gone) p f in
              let is : m ≡ q = some_inj m q (sym (ap (option_map (λ _. m)) (ap at (sym there) ∙ was_at.0)) ∙ k) in
              let apart : same x m ≡ false = not_same same from x m (λ s.
              let one : gone ≡ moves.0 = some_inj gone moves.0 (sym was ∙ ap kept s ∙ moves.1) in
              sym (ap (λ (y : Place). same_place tail y) (sym (sym moves.2 ∙ sym (ap place one) ∙ there)) ∙ self_place tail) ∙ g) in (
                move moves.0,
                subst (λ (q : K). kept' q ≡ Some (move moves.0)) is
                    (keeps m ∙ ap (λ t. cond t (option_map move (cond (same x m) None (kept m))) (cond (same x m) None (kept m))) (self m)
                    ∙ ap (λ t. option_map move (cond t None (kept m))) apart ∙ ap (option_map move) moves.1),
                spot ∙ there,
              )
          by_test false false f g k =
              let old = good.held p q k in
              let not_x = not_same same from x q (λ s.
              let one : gone ≡ old.0 = some_inj gone old.0 (sym was ∙ ap kept s ∙ old.1) in
              sym (ap (λ (y : Place). same_place (place gone) y) (sym (ap place one ∙ old.2)) ∙ self_place (place gone)) ∙ f) in
              let not_m = not_same same from m q (λ s.
              let one : moves.0 ≡ old.0 = some_inj moves.0 old.0 (sym moves.1 ∙ ap kept s ∙ old.1) in
              sym (ap (λ (y : Place). same_place tail y) (sym (sym moves.2 ∙ ap place one ∙ old.2)) ∙ self_place tail) ∙ g) in
              (old.0, kept_else q not_m not_x ∙ old.1, old.2)

      fewer_filled : (p : Place) → p.at < size' p.group → is_some (at' p) ≡ true
      fewer_filled p low = grind (arith, nat_tests, from_key, own_less, and_not, not_and)

      pub seat_fewer : IsSeated place kept' at' size'
      seat_fewer = record { placed = fewer_placed; held = fewer_held; filled = fewer_filled }

      -- what stands at a place stood there, or behind it in the group
      pub stood : (p : Place) (q : K) → at' p ≡ Some q → (j : ℕ) × (p.at ≤ j) × (at (record p { at = j }) ≡ Some q)
      stood p q h = by_test (same_place (place gone) p) (same_place tail p) refl refl (sym (ats p) ∙ h)
        where
          by_test : (t u : Bool) → same_place (place gone) p ≡ t → same_place tail p ≡ u → cond t (option_map (λ _. m) (cond u None (at p))) (cond u None (at p)) ≡ Some q
              → (j : ℕ) × (p.at ≤ j) × (at (record p { at = j }) ≡ Some q)
          by_test true true f g k = absurd (cc)
          by_test false true f g k = absurd (cc)
          by_test true false f g k =
              let there = from_place (place gone) p f in
              let is : m ≡ q = some_inj m q (sym (ap (option_map (λ _. m)) (ap at (sym there) ∙ was_at.0)) ∙ k) in
              (z, omega (arith, was_at.1, big, ap (λ (y : Place). y.at) there), ap (λ (y : Place). at (record y { at = z })) (sym there) ∙ last ∙ ap (λ q. Some q) is)
          by_test false false f g k = (p.at, omega arith, k)

  -- Where the group has a name of its own

  module _ (x : K) (gone : E) (was : kept x ≡ Some gone) (z : ℕ) (g : GroupKey) (is : g ≡ (place gone).group) (big : z + 1 ≡ size g) where
    pub end_in : is_some (at (record { group = g; at = z })) ≡ true
    end_in = ap (λ g. is_some (at (record { group = g; at = z }))) is ∙ at_end x gone was z (big ∙ ap size is)

    module _ (m : K) (last : at (record { group = g; at = z }) ≡ Some m) (move : E → E) (moved : (e : E) → place (move e) ≡ record { group = (place e).group; at = (place gone).at })
        (kept1 kept' : K → Option E) (first : (q : K) → kept1 q ≡ cond (same x q) None (kept q)) (keeps : (q : K) → kept' q ≡ cond (same m q) (option_map move (kept1 q)) (kept1 q))
        (at1 at' : Place → Option K) (first_at : (p : Place) → at1 p ≡ cond (same_place (record { group = g; at = z }) p) None (at p))
        (ats : (p : Place) → at' p ≡ cond (same_place (record { group = g; at = (place gone).at }) p) (option_map (λ _. m) (at1 p)) (at1 p))
        (size' : GroupKey → ℕ) (sizes : (h : GroupKey) → size' h ≡ cond (same_key g h) z (size h)) where
      keeps_in : (q : K) → kept' q ≡ cond (same m q) (option_map move (cond (same x q) None (kept q))) (cond (same x q) None (kept q))
      keeps_in q = keeps q ∙ ap (λ (o : Option E). cond (same m q) (option_map move o) o) (first q)

      ats_in : (p : Place) → at' p ≡ cond (same_place (place gone) p) (option_map (λ _. m) (cond (same_place (record { group = (place gone).group; at = z }) p) None (at p)))
          (cond (same_place (record { group = (place gone).group; at = z }) p) None (at p))
      ats_in p = grind (arith, nat_tests)

      sizes_in : (h : GroupKey) → size' h ≡ cond (same_key (place gone).group h) z (size h)
      sizes_in h = sizes h ∙ ap (λ (g : GroupKey). cond (same_key g h) z (size h)) is

      last_in : at (record { group = (place gone).group; at = z }) ≡ Some m
      last_in = ap (λ (g : GroupKey). at (record { group = g; at = z })) (sym is) ∙ last

      pub one_fewer_in : IsSeated place kept' at' size'
      one_fewer_in = seat_fewer x gone was z (big ∙ ap size is) m last_in move moved kept' keeps_in at' ats_in size' sizes_in

      pub stood_in : (p : Place) (q : K) → at' p ≡ Some q → (j : ℕ) × (p.at ≤ j) × (at (record p { at = j }) ≡ Some q)
      stood_in = stood x gone was z (big ∙ ap size is) m last_in move moved kept' keeps_in at' ats_in size' sizes_in

  pub one_more_in : (x : K) (put : E) (g : GroupKey) → g ≡ (place put).group → kept x ≡ None → (place put).at ≡ size g → (kept' : K → Option E) → ((q : K) → kept' q ≡ cond (same x q) (Some put) (kept q))
      → (at' : Place → Option K) → ((p : Place) → at' p ≡ cond (same_place (record { group = g; at = (place put).at }) p) (Some x) (at p))
      → (size' : GroupKey → ℕ) → ((h : GroupKey) → size' h ≡ cond (same_key g h) ((place put).at + 1) (size h)) → IsSeated place kept' at' size'
  one_more_in x put g is new big kept' keeps at' ats size' sizes = grind (arith, nat_tests, seat_more x put new)

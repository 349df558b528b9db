-- The smallest rectangles round two and round several, and which rectangles cover others.
use Rattle.std.proofs.Common.{◌≡◌, ℤ, pos, ◌+ℤ◌, ◌-ℤ◌, ◌≤ℤ◌, int_le, int_lt, Bool, true, false, ◌&&◌, ◌||◌, refl, ap, sym, ◌∙◌, arith, subst, List, [], ◌∷◌, map}
use Rattle.std.specs.List.{All}
use Rattle.std.specs.Int.{int_max, int_min}
use Rattle.std.proofs.lemmas.List.Elements.{All-nil, All-cons, All-head, All-tail, All-weaker}
use Rattle.std.proofs.lemmas.Int.{ints, clamps}
use Rattle.vz_geom.specs.declared.Point.{Point}
use Rattle.vz_geom.specs.Rectangle.{Rectangle, has, meet, hull, join, bound, moved, no_rectangle, is_empty_rect, with_sides, Covers, covers_rect}
use Rattle.vz_geom.proofs.Sets.{IsIn, to_in, of_in, both, and_true, in_sides, of_sides, full_sides, no_width, no_height, by_sides, lt_false, le_true, true_le, has_meet_is}
use Rattle.vz_geom.proofs.Algebra.{same_sides, moved_none, moved_opens, moved_sides}

-- Empty rectangles

either_false : (a b : Bool) → (a || b) ≡ false → (a ≡ false) × (b ≡ false)
either_false true b h = absurd (cc)
either_false false b h = (refl, h)

not_below : (a b : ℤ) → int_lt a b ≡ false → b ≤ℤ a
not_below a b h = grind (arith, ints)

-- both sides of a rectangle are at least 1
pub record IsFull (r : Rectangle) : Type 0 where
  pub wide : pos 1 ≤ℤ r.w
  pub high : pos 1 ≤ℤ r.h

pub of_full : (r : Rectangle) → is_empty_rect r ≡ false → IsFull r
of_full r h =
    let k = either_false (int_lt r.w (pos 1)) (int_lt r.h (pos 1)) h in
    record { wide = not_below r.w (pos 1) k.0; high = not_below r.h (pos 1) k.1 }

neither : (a b : Bool) → a ≡ false → b ≡ false → (a || b) ≡ false
neither a b p q = rw (p, q)

pub to_full : (r : Rectangle) → IsFull r → is_empty_rect r ≡ false
to_full r h = neither (int_lt r.w (pos 1)) (int_lt r.h (pos 1)) (lt_false r.w (pos 1) h.wide) (lt_false r.h (pos 1) h.high)

-- a rectangle with a point has sides
pub in_is_full : (r : Rectangle) (p : Point) → has r p ≡ true → is_empty_rect r ≡ false
in_is_full r p h =
    let i : IsIn r p = to_in r p h in
    to_full r (record { wide = omega (arith, ints); high = omega (arith, ints) })

other : {P : Type 0} (t : Bool) → t ≡ true → t ≡ false → P
other t p q = absurd (cc)

-- what holds of the empty ones and of those with sides holds
pub by_full : {P : Type 0} (r : Rectangle) → (is_empty_rect r ≡ true → P) → (is_empty_rect r ≡ false → P) → P
by_full {P} r empty full = cases (is_empty_rect r) empty full
  where
    cases : (t : Bool) → (t ≡ true → P) → (t ≡ false → P) → P
    cases true f g = f refl
    cases false f g = g refl

-- The rectangle round two

pub join_first : (a b : Rectangle) → is_empty_rect a ≡ true → join a b ≡ b
unfolding join
join_first a b h = rw h

pub join_second : (a b : Rectangle) → is_empty_rect a ≡ false → is_empty_rect b ≡ true → join a b ≡ a
unfolding join
join_second a b h k = rw (h, k)

pub join_both : (a b : Rectangle) → is_empty_rect a ≡ false → is_empty_rect b ≡ false → join a b ≡ hull a b
unfolding join
join_both a b h k = rw (h, k)

in_hull_first : (a b : Rectangle) (p : Point) → has a p ≡ true → has (hull a b) p ≡ true
unfolding hull
in_hull_first a b p h =
    let i : IsIn a p = to_in a p h in
    in_sides (int_min a.x b.x) (int_min a.y b.y) (int_max (a.x +ℤ a.w) (b.x +ℤ b.w) -ℤ int_min a.x b.x) (int_max (a.y +ℤ a.h) (b.y +ℤ b.h) -ℤ int_min a.y b.y) p
    (record { left = omega (arith, ints, clamps); right = omega (arith, ints, clamps); top = omega (arith, ints, clamps); bottom = omega (arith, ints, clamps) })

in_hull_second : (a b : Rectangle) (p : Point) → has b p ≡ true → has (hull a b) p ≡ true
unfolding hull
in_hull_second a b p h =
    let i : IsIn b p = to_in b p h in
    in_sides (int_min a.x b.x) (int_min a.y b.y) (int_max (a.x +ℤ a.w) (b.x +ℤ b.w) -ℤ int_min a.x b.x) (int_max (a.y +ℤ a.h) (b.y +ℤ b.h) -ℤ int_min a.y b.y) p
    (record { left = omega (arith, ints, clamps); right = omega (arith, ints, clamps); top = omega (arith, ints, clamps); bottom = omega (arith, ints, clamps) })

of_hull : (a b : Rectangle) (p : Point) → has (hull a b) p ≡ true
    → IsIn (record { x = int_min a.x b.x; y = int_min a.y b.y; w = int_max (a.x +ℤ a.w) (b.x +ℤ b.w) -ℤ int_min a.x b.x; h = int_max (a.y +ℤ a.h) (b.y +ℤ b.h) -ℤ int_min a.y b.y }) p
unfolding hull
of_hull a b p h =
    of_sides (int_min a.x b.x) (int_min a.y b.y) (int_max (a.x +ℤ a.w) (b.x +ℤ b.w) -ℤ int_min a.x b.x) (int_max (a.y +ℤ a.h) (b.y +ℤ b.h) -ℤ int_min a.y b.y) p h

pub in_join_first : (a b : Rectangle) (p : Point) → has a p ≡ true → has (join a b) p ≡ true
in_join_first a b p h =
    let full : is_empty_rect a ≡ false = in_is_full a p h in
    by_full {P = has (join a b) p ≡ true} b
    (λ e. ap (λ r. has r p) (join_second a b full e) ∙ h)
    (λ e. ap (λ r. has r p) (join_both a b full e) ∙ in_hull_first a b p h)

in_join_second : (a b : Rectangle) (p : Point) → has b p ≡ true → has (join a b) p ≡ true
in_join_second a b p h =
    by_full {P = has (join a b) p ≡ true} a
    (λ e. ap (λ r. has r p) (join_first a b e) ∙ h)
    (λ e. ap (λ r. has r p) (join_both a b e (in_is_full b p h)) ∙ in_hull_second a b p h)

-- the rectangle round two covers both
pub join_covers_first : (a b : Rectangle) → Covers (join a b) a
join_covers_first a b p h = (in_join_first a b p h)

pub join_covers_second : (a b : Rectangle) → Covers (join a b) b
join_covers_second a b p h = (in_join_second a b p h)

-- Which rectangles cover others

first_point : Rectangle → Point
first_point r = record { x = r.x; y = r.y }

last_point : Rectangle → Point
last_point r = record { x = (r.x +ℤ r.w) -ℤ pos 1; y = (r.y +ℤ r.h) -ℤ pos 1 }

-- the spans of one rectangle lie inside those of another
pub record IsInside (outer inner : Rectangle) : Type 0 where
  pub left : outer.x ≤ℤ inner.x
  pub top : outer.y ≤ℤ inner.y
  pub right : (inner.x +ℤ inner.w) ≤ℤ (outer.x +ℤ outer.w)
  pub bottom : (inner.y +ℤ inner.h) ≤ℤ (outer.y +ℤ outer.h)

pub inside_of : (outer inner : Rectangle) → IsFull inner → Covers outer inner → IsInside outer inner
unfolding first_point last_point
inside_of outer inner full covers =
    let i : IsIn outer (first_point inner) = to_in outer (first_point inner) ((covers (first_point inner)
    ((of_in inner (first_point inner) (record { left = omega (arith, ints); right = omega (arith, ints); top = omega (arith, ints); bottom = omega (arith, ints) }))))) in
    let j : IsIn outer (last_point inner) = to_in outer (last_point inner) ((covers (last_point inner)
    ((of_in inner (last_point inner) (record { left = omega (arith, ints); right = omega (arith, ints); top = omega (arith, ints); bottom = omega (arith, ints) }))))) in
    record { left = omega (arith, ints); top = omega (arith, ints); right = omega (arith, ints); bottom = omega (arith, ints) }

pub covers_inside : (outer inner : Rectangle) → IsInside outer inner → Covers outer inner
covers_inside outer inner s p h =
    let i : IsIn inner p = to_in inner p h in
    (of_in outer p (record { left = omega (arith, ints); right = omega (arith, ints); top = omega (arith, ints); bottom = omega (arith, ints) }))

pub covers_empty : (outer inner : Rectangle) → is_empty_rect inner ≡ true → Covers outer inner
covers_empty outer inner e p h = other (is_empty_rect inner) e (in_is_full inner p h)

-- what covers two covers the rectangle round them
pub join_is_least : (a b s : Rectangle) → Covers s a → Covers s b → Covers s (join a b)
join_is_least a b s f g =
    by_full {P = Covers s (join a b)} a
    (λ e. subst (Covers s) (sym (join_first a b e)) g)
    (λ e. by_full {P = Covers s (join a b)} b
    (λ k. subst (Covers s) (sym (join_second a b e k)) f)
    (λ k. subst (Covers s) (sym (join_both a b e k)) (hull_inside (inside_of s a (of_full a e) f) (inside_of s b (of_full b k) g))))
  where
    hull_inside : IsInside s a → IsInside s b → Covers s (hull a b)
    hull_inside m n p h =
        let i = of_hull a b p h in
        (of_in s p (record { left = omega (arith, ints, clamps); right = omega (arith, ints, clamps); top = omega (arith, ints, clamps); bottom = omega (arith, ints, clamps) }))

-- The rectangle round several

none_covered : (s : Rectangle) → Covers s no_rectangle
none_covered s = covers_empty s no_rectangle refl

-- the bound of a list covers each of it
pub bound_covers : (rs : List Rectangle) → All (Covers (bound rs)) rs
unfolding bound
bound_covers [] = All-nil _
bound_covers (r ∷ rs) =
    All-cons (Covers (join r (bound rs))) r rs (join_covers_first r (bound rs))
    (All-weaker (Covers (bound rs)) (Covers (join r (bound rs))) (λ q c p h. join_covers_second r (bound rs) p (c p h)) rs (bound_covers rs))

-- what covers each of a list covers its bound
pub bound_is_least : (rs : List Rectangle) (s : Rectangle) → All (Covers s) rs → Covers s (bound rs)
unfolding bound
bound_is_least [] s all = none_covered s
bound_is_least (r ∷ rs) s all =
    join_is_least r (bound rs) s (All-head (Covers s) r rs all) (bound_is_least rs s (All-tail (Covers s) r rs all))

-- The rectangle round moved ones

moved_is_empty : (r : Rectangle) (by : Point) → is_empty_rect (moved r by) ≡ is_empty_rect r
moved_is_empty r by =
    by_full {P = is_empty_rect (moved r by) ≡ is_empty_rect r} r
    (λ e. ap is_empty_rect (moved_opens r by ∙ nothing e) ∙ sym e)
    (λ e. let full : IsFull r = of_full r e in
    ap is_empty_rect (moved_opens r by ∙ full_sides (r.x +ℤ by.x) (r.y +ℤ by.y) r.w r.h full.wide full.high))
  where
    nothing : is_empty_rect r ≡ true → with_sides (r.x +ℤ by.x) (r.y +ℤ by.y) r.w r.h ≡ no_rectangle
    nothing e =
        by_sides {P = with_sides (r.x +ℤ by.x) (r.y +ℤ by.y) r.w r.h ≡ no_rectangle} r.w r.h
        (λ p q. other (is_empty_rect r) e (to_full r (record { wide = p; high = q })))
        (λ p. no_width _ _ _ _ p) (λ p. no_height _ _ _ _ p)

moved_full : (r : Rectangle) (by : Point) → IsFull r → moved r by ≡ record { x = r.x +ℤ by.x; y = r.y +ℤ by.y; w = r.w; h = r.h }
moved_full r by full = moved_opens r by ∙ full_sides (r.x +ℤ by.x) (r.y +ℤ by.y) r.w r.h full.wide full.high

hull_opens : (a b : Rectangle) → hull a b ≡ with_sides (int_min a.x b.x) (int_min a.y b.y) (int_max (a.x +ℤ a.w) (b.x +ℤ b.w) -ℤ int_min a.x b.x) (int_max (a.y +ℤ a.h) (b.y +ℤ b.h) -ℤ int_min a.y b.y)
unfolding hull
hull_opens a b = refl

min_moves : (a b by : ℤ) → int_min a b +ℤ by ≡ int_min (a +ℤ by) (b +ℤ by)
min_moves a b by = omega (arith, ints, clamps)

span_stays : (a w b v by : ℤ) → int_max (a +ℤ w) (b +ℤ v) -ℤ int_min a b ≡ int_max ((a +ℤ by) +ℤ w) ((b +ℤ by) +ℤ v) -ℤ int_min (a +ℤ by) (b +ℤ by)
span_stays a w b v by = omega (arith, ints, clamps)

moved_hull : (a b : Rectangle) (by : Point) → IsFull a → IsFull b → moved (hull a b) by ≡ hull (moved a by) (moved b by)
moved_hull a b by full_a full_b =
    ap (λ r. moved r by) (hull_opens a b) ∙ moved_sides _ _ _ _ by
    ∙ same_sides (min_moves a.x b.x by.x) (min_moves a.y b.y by.y) (span_stays a.x a.w b.x b.w by.x) (span_stays a.y a.h b.y b.h by.y)
    ∙ sym (ap (λ r. hull r (moved b by)) (moved_full a by full_a) ∙ ap (λ r. hull (record { x = a.x +ℤ by.x; y = a.y +ℤ by.y; w = a.w; h = a.h }) r) (moved_full b by full_b) ∙ hull_opens _ _)

-- the rectangle round two moves with both
pub moved_join : (a b : Rectangle) (by : Point) → moved (join a b) by ≡ join (moved a by) (moved b by)
moved_join a b by =
    by_full {P = moved (join a b) by ≡ join (moved a by) (moved b by)} a
    (λ e. ap (λ r. moved r by) (join_first a b e) ∙ sym (join_first _ _ (moved_is_empty a by ∙ e)))
    (λ e. by_full {P = moved (join a b) by ≡ join (moved a by) (moved b by)} b
    (λ k. ap (λ r. moved r by) (join_second a b e k) ∙ sym (join_second _ _ (moved_is_empty a by ∙ e) (moved_is_empty b by ∙ k)))
    (λ k. ap (λ r. moved r by) (join_both a b e k) ∙ moved_hull a b by (of_full a e) (of_full b k)
    ∙ sym (join_both _ _ (moved_is_empty a by ∙ e) (moved_is_empty b by ∙ k))))

-- the bound of a list moves with each of it
pub moved_bound : (rs : List Rectangle) (by : Point) → moved (bound rs) by ≡ bound (map (λ r. moved r by) rs)
unfolding bound
moved_bound [] by = moved_none by
moved_bound (r ∷ rs) by = moved_join r (bound rs) by ∙ ap (λ s. join (moved r by) s) (moved_bound rs by)

-- The test whether one covers another

inside_is : (a b c d : Bool) → (a && b && c && d) ≡ true → (a ≡ true) × (b ≡ true) × (c ≡ true) × (d ≡ true)
inside_is true true true true h = (refl, refl, refl, refl)
inside_is true true true false h = absurd (cc)
inside_is true true false d h = absurd (cc)
inside_is true false c d h = absurd (cc)
inside_is false b c d h = absurd (cc)

all_four : (a b c d : Bool) → a ≡ true → b ≡ true → c ≡ true → d ≡ true → (a && b && c && d) ≡ true
all_four a b c d p q r s = rw (p, q, r, s)

by_or : {P : Type 0} (a b : Bool) → (a || b) ≡ true → (a ≡ true → P) → (a ≡ false → b ≡ true → P) → P
by_or true b h f g = f refl
by_or false b h f g = g refl h

or_true : (a b : Bool) → b ≡ true → (a || b) ≡ true
or_true true b p = refl
or_true false b p = p

or_first : (a b : Bool) → a ≡ true → (a || b) ≡ true
or_first a b p = rw p

-- the test holds where the rectangle covers the other
pub covers_of_test : (outer inner : Rectangle) → covers_rect outer inner ≡ true → Covers outer inner
covers_of_test outer inner h =
    by_or {P = Covers outer inner} (is_empty_rect inner) _ h
    (λ e. covers_empty outer inner e)
    (λ e k. let s = inside_is (int_le outer.x inner.x) (int_le outer.y inner.y) (int_le (inner.x +ℤ inner.w) (outer.x +ℤ outer.w)) (int_le (inner.y +ℤ inner.h) (outer.y +ℤ outer.h)) k in
    covers_inside outer inner (record { left = le_true _ _ s.0; top = le_true _ _ s.1; right = le_true _ _ s.2; bottom = le_true _ _ s.3 }))

-- and only there
pub test_of_covers : (outer inner : Rectangle) → Covers outer inner → covers_rect outer inner ≡ true
test_of_covers outer inner c =
    by_full {P = covers_rect outer inner ≡ true} inner
    (λ e. or_first (is_empty_rect inner) _ e)
    (λ e. let s : IsInside outer inner = inside_of outer inner (of_full inner e) c in
    or_true (is_empty_rect inner) _
    (all_four (int_le outer.x inner.x) (int_le outer.y inner.y) (int_le (inner.x +ℤ inner.w) (outer.x +ℤ outer.w)) (int_le (inner.y +ℤ inner.h) (outer.y +ℤ outer.h))
    (true_le _ _ s.left) (true_le _ _ s.top) (true_le _ _ s.right) (true_le _ _ s.bottom)))

-- what two rectangles share grows with both
pub meet_grows : (a a' b b' : Rectangle) → Covers a' a → Covers b' b → Covers (meet a' b') (meet a b)
meet_grows a a' b b' f g p h =
    let k = both (has a p) (has b p) (sym (has_meet_is a b p) ∙ h) in
    has_meet_is a' b' p ∙ and_true (has a' p) (has b' p) (f p k.0) (g p k.1)

-- and is covered by each
pub meet_is_covered : (a b : Rectangle) → Covers a (meet a b) × Covers b (meet a b)
meet_is_covered a b =
    (λ p h. (both (has a p) (has b p) (sym (has_meet_is a b p) ∙ h)).0, λ p h. (both (has a p) (has b p) (sym (has_meet_is a b p) ∙ h)).1)

pub by_axes : (a b c d : Bool) → ((a && c) && (b && d)) ≡ (a && b && c && d)
by_axes true true c d = refl
by_axes true false true d = refl
by_axes true false false d = refl
by_axes false b c d = refl

-- what is the rectangle round two covers both
pub covers_first_of : (r a b : Rectangle) → r ≡ join a b → Covers r a
covers_first_of r a b e = subst (λ (s : Rectangle). Covers s a) (sym e) (join_covers_first a b)

pub covers_second_of : (r a b : Rectangle) → r ≡ join a b → Covers r b
covers_second_of r a b e = subst (λ (s : Rectangle). Covers s b) (sym e) (join_covers_second a b)

-- and is covered by what covers both
pub least_of : (r a b : Rectangle) → r ≡ join a b → (s : Rectangle) → Covers s a → Covers s b → Covers s r
least_of r a b e s f g = subst (Covers s) (sym e) (join_is_least a b s f g)

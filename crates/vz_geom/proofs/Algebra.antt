-- How shared, enclosing and moved rectangles go together.
use Rattle.std.proofs.Common.{◌≡◌, ℤ, ◌+ℤ◌, ◌-ℤ◌, refl, ap, sym, ◌∙◌, arith}
use Rattle.std.specs.Int.{int_max, int_min}
use Rattle.std.proofs.lemmas.Int.{ints, clamps}
use Rattle.vz_geom.specs.declared.Point.{Point}
use Rattle.vz_geom.specs.Rectangle.{Rectangle, meet, moved, no_rectangle, shared, with_sides}
use Rattle.vz_geom.proofs.Sets.{full_sides, no_width, no_height, by_sides}

pub same_sides : {x x' y y' w w' h h' : ℤ} → x ≡ x' → y ≡ y' → w ≡ w' → h ≡ h' → with_sides x y w h ≡ with_sides x' y' w' h'
same_sides p q r s = cc

max_comm : (a b : ℤ) → int_max a b ≡ int_max b a
max_comm a b = omega (arith, ints, clamps)

shared_comm : (a a_end b b_end : ℤ) → shared a a_end b b_end ≡ shared b b_end a a_end
shared_comm a a_end b b_end = omega (arith, ints, clamps)

-- the shared part is the same from both
pub meet_comm : (a b : Rectangle) → meet a b ≡ meet b a
unfolding meet
meet_comm a b = same_sides (max_comm a.x b.x) (max_comm a.y b.y) (shared_comm a.x (a.x +ℤ a.w) b.x (b.x +ℤ b.w)) (shared_comm a.y (a.y +ℤ a.h) b.y (b.y +ℤ b.h))

-- the rectangle of the spans that two others share, the first given by its first point and its sides
abbrev met_sides : (x y w h : ℤ) → Rectangle → Rectangle
met_sides x y w h c =
    with_sides (int_max x c.x) (int_max y c.y) (shared x (x +ℤ w) c.x (c.x +ℤ c.w)) (shared y (y +ℤ h) c.y (c.y +ℤ c.h))

meet_none : (c : Rectangle) → meet no_rectangle c ≡ no_rectangle
unfolding meet
meet_none c = no_width _ _ _ _ (omega (arith, ints, clamps))

-- a shared part does not see that the first one may be the empty one
meet_sides : (x y w h : ℤ) (c : Rectangle) → meet (with_sides x y w h) c ≡ met_sides x y w h c
unfolding meet
meet_sides x y w h c =
    by_sides {P = meet (with_sides x y w h) c ≡ met_sides x y w h c} w h
    (λ p q. ap (λ r. meet r c) (full_sides x y w h p q))
    (λ p. ap (λ r. meet r c) (no_width x y w h p) ∙ meet_none c ∙ sym (no_width _ _ _ _ (omega (arith, ints, clamps))))
    (λ p. ap (λ r. meet r c) (no_height x y w h p) ∙ meet_none c ∙ sym (no_height _ _ _ _ (omega (arith, ints, clamps))))

max_turns : (a b c : ℤ) → int_max (int_max a b) c ≡ int_max (int_max b c) a
max_turns a b c = omega (arith, ints, clamps)

min_turns : (a b c : ℤ) → int_min (int_min a b) c ≡ int_min (int_min b c) a
min_turns a b c = omega (arith, ints, clamps)

up_to : (from m : ℤ) → from +ℤ (m -ℤ from) ≡ m
up_to from m = omega (arith, ints)

shared_turns : (a a_end b b_end c c_end : ℤ)
    → shared (int_max a b) (int_max a b +ℤ shared a a_end b b_end) c c_end ≡ shared (int_max b c) (int_max b c +ℤ shared b b_end c c_end) a a_end
shared_turns a a_end b b_end c c_end =
    ap (λ m. int_min m c_end -ℤ int_max (int_max a b) c) (up_to (int_max a b) (int_min a_end b_end))
    ∙ ap (λ m. m -ℤ int_max (int_max a b) c) (min_turns a_end b_end c_end)
    ∙ ap (λ m. int_min (int_min b_end c_end) a_end -ℤ m) (max_turns a b c)
    ∙ ap (λ m. int_min m a_end -ℤ int_max (int_max b c) a) (sym (up_to (int_max b c) (int_min b_end c_end)))

turned : (a b c : Rectangle)
    → met_sides (int_max a.x b.x) (int_max a.y b.y) (shared a.x (a.x +ℤ a.w) b.x (b.x +ℤ b.w)) (shared a.y (a.y +ℤ a.h) b.y (b.y +ℤ b.h)) c
    ≡ met_sides (int_max b.x c.x) (int_max b.y c.y) (shared b.x (b.x +ℤ b.w) c.x (c.x +ℤ c.w)) (shared b.y (b.y +ℤ b.h) c.y (c.y +ℤ c.h)) a
turned a b c =
    same_sides (max_turns a.x b.x c.x) (max_turns a.y b.y c.y)
    (shared_turns a.x (a.x +ℤ a.w) b.x (b.x +ℤ b.w) c.x (c.x +ℤ c.w))
    (shared_turns a.y (a.y +ℤ a.h) b.y (b.y +ℤ b.h) c.y (c.y +ℤ c.h))

meet_opens : (a b : Rectangle) → meet a b ≡ met_sides a.x a.y a.w a.h b
unfolding meet
meet_opens a b = refl

meet_is : (a b c : Rectangle)
    → meet (meet a b) c ≡ met_sides (int_max a.x b.x) (int_max a.y b.y) (shared a.x (a.x +ℤ a.w) b.x (b.x +ℤ b.w)) (shared a.y (a.y +ℤ a.h) b.y (b.y +ℤ b.h)) c
meet_is a b c = ap (λ r. meet r c) (meet_opens a b) ∙ meet_sides _ _ _ _ c

-- three rectangles share the same part in each order
pub meet_assoc : (a b c : Rectangle) → meet (meet a b) c ≡ meet a (meet b c)
meet_assoc a b c = meet_is a b c ∙ turned a b c ∙ sym (meet_is b c a) ∙ meet_comm (meet b c) a

-- Moved rectangles

pub moved_none : (by : Point) → moved no_rectangle by ≡ no_rectangle
unfolding moved
moved_none by = no_width _ _ _ _ (omega (arith, ints))

pub moved_opens : (r : Rectangle) (by : Point) → moved r by ≡ with_sides (r.x +ℤ by.x) (r.y +ℤ by.y) r.w r.h
unfolding moved
moved_opens r by = refl

-- nor does a moved one
pub moved_sides : (x y w h : ℤ) (by : Point) → moved (with_sides x y w h) by ≡ with_sides (x +ℤ by.x) (y +ℤ by.y) w h
moved_sides x y w h by =
    by_sides {P = moved (with_sides x y w h) by ≡ with_sides (x +ℤ by.x) (y +ℤ by.y) w h} w h
    (λ p q. ap (λ r. moved r by) (full_sides x y w h p q) ∙ moved_opens _ by)
    (λ p. ap (λ r. moved r by) (no_width x y w h p) ∙ moved_none by ∙ sym (no_width _ _ _ _ p))
    (λ p. ap (λ r. moved r by) (no_height x y w h p) ∙ moved_none by ∙ sym (no_height _ _ _ _ p))

-- the spans that two rectangles share, both given by their first points and their sides
abbrev both_sides : (x y w h x' y' w' h' : ℤ) → Rectangle
both_sides x y w h x' y' w' h' = met_sides x y w h (record { x = x'; y = y'; w = w'; h = h' })

meet_both_sides : (x y w h x' y' w' h' : ℤ) → meet (with_sides x y w h) (with_sides x' y' w' h') ≡ both_sides x y w h x' y' w' h'
meet_both_sides x y w h x' y' w' h' =
    by_sides {P = meet (with_sides x y w h) (with_sides x' y' w' h') ≡ both_sides x y w h x' y' w' h'} w' h'
    (λ p q. ap (λ r. meet (with_sides x y w h) r) (full_sides x' y' w' h' p q) ∙ meet_sides x y w h _)
    (λ p. ap (λ r. meet (with_sides x y w h) r) (no_width x' y' w' h' p) ∙ meet_comm _ _ ∙ meet_none _ ∙ sym (no_width _ _ _ _ (omega (arith, ints, clamps))))
    (λ p. ap (λ r. meet (with_sides x y w h) r) (no_height x' y' w' h' p) ∙ meet_comm _ _ ∙ meet_none _ ∙ sym (no_height _ _ _ _ (omega (arith, ints, clamps))))

pub max_moves : (a b by : ℤ) → int_max a b +ℤ by ≡ int_max (a +ℤ by) (b +ℤ by)
max_moves a b by = omega (arith, ints, clamps)

shared_stays : (a w b v by : ℤ) → shared a (a +ℤ w) b (b +ℤ v) ≡ shared (a +ℤ by) ((a +ℤ by) +ℤ w) (b +ℤ by) ((b +ℤ by) +ℤ v)
shared_stays a w b v by = omega (arith, ints, clamps)

sides_move : (a b : Rectangle) (by : Point)
    → with_sides (int_max a.x b.x +ℤ by.x) (int_max a.y b.y +ℤ by.y) (shared a.x (a.x +ℤ a.w) b.x (b.x +ℤ b.w)) (shared a.y (a.y +ℤ a.h) b.y (b.y +ℤ b.h))
    ≡ both_sides (a.x +ℤ by.x) (a.y +ℤ by.y) a.w a.h (b.x +ℤ by.x) (b.y +ℤ by.y) b.w b.h
sides_move a b by =
    same_sides (max_moves a.x b.x by.x) (max_moves a.y b.y by.y) (shared_stays a.x a.w b.x b.w by.x) (shared_stays a.y a.h b.y b.h by.y)

-- the shared part moves with both
pub moved_meet : (a b : Rectangle) (by : Point) → moved (meet a b) by ≡ meet (moved a by) (moved b by)
moved_meet a b by =
    ap (λ r. moved r by) (meet_opens a b) ∙ moved_sides _ _ _ _ by ∙ sides_move a b by
    ∙ sym (ap (λ r. meet r (moved b by)) (moved_opens a by) ∙ ap (λ r. meet (with_sides (a.x +ℤ by.x) (a.y +ℤ by.y) a.w a.h) r) (moved_opens b by) ∙ meet_both_sides _ _ _ _ _ _ _ _)

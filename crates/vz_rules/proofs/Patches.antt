-- Frames that are repainted in part are whole where no drawing changes what its damage misses.
use Rattle.std.proofs.Common.{◌≡◌, ℕ, zero, suc, ◌-◌, ℤ, pos, nat_abs, ◌+ℤ◌, ◌≤ℤ◌, ◌<ℤ◌, Bool, true, false, inl, inr, Option, Some, None, List, [], ◌∷◌, map, take, length, refl, ap, sym, ◌∙◌, arith, cond, slice_get, Contains}
use Rattle.std.specs.Prelude.{nat_le}
use Rattle.std.specs.Option.{option_map}
use Rattle.std.proofs.lemmas.Bool.{both_ways}
use Rattle.std.proofs.lemmas.Int.{ints}
use Rattle.std.proofs.lemmas.Option.{slice_get-map}
use Rattle.vz_geom.specs.declared.Point.{Point}
use Rattle.vz_geom.specs.declared.Size.{Size}
use Rattle.vz_geom.specs.Rectangle.{Rectangle, has, sized, bound, row_points, rows_points, points_of}
use Rattle.vz_geom.proofs.Sets.{of_in}
use Rattle.vz_pixels.specs.Colour.{Colour, black}
use Rattle.vz_geom.specs.Display.{IsDisplaySize}
use Rattle.vz_rules.specs.World.{Scene}
use Rattle.vz_rules.specs.Paint.{full, picture}
use Rattle.vz_rules.specs.Frames.{DrawnFrame, picture_of, stale, patched, repainted, written_of}
use Rattle.vz_rules.proofs.Members.{contains_here, contains_there, contains_cases, contains_none, append_contains}
use Rattle.vz_rules.proofs.Agree.{Misses}
use Rattle.vz_rules.proofs.Misses.{bound_misses}

-- The points of a display

-- a point of n columns from x on, in the row y
record IsInRow (n : ℕ) (x y : ℤ) (p : Point) : Type 0 where
  left : x ≤ℤ p.x
  right : p.x <ℤ (x +ℤ pos n)
  row : p.y ≡ y

in_row : (n : ℕ) (x y : ℤ) (p : Point) → Contains (row_points n x y) p → IsInRow n x y p
in_row zero x y p c = absurd (contains_none p c)
in_row (suc n) x y p c =
    elim (contains_cases (record { x = x; y = y }) p (row_points n (x +ℤ pos 1) y) c) [
      | inl e ↦
          let across : x ≡ p.x = ap (λ (q : Point). q.x) e in
          record { left = omega (arith, ints, across); right = omega (arith, ints, across); row = ap (λ (q : Point). q.y) (sym e) }
      | inr m ↦
          let r = in_row n (x +ℤ pos 1) y p m in
          let left = r.left in
          let right = r.right in
          record { left = omega (arith, ints, left); right = omega (arith, ints, right); row = r.row }
    ]

-- a point of n rows of w columns, from the row y on
record IsInRows (n w : ℕ) (y : ℤ) (p : Point) : Type 0 where
  left : pos 0 ≤ℤ p.x
  right : p.x <ℤ pos w
  top : y ≤ℤ p.y
  bottom : p.y <ℤ (y +ℤ pos n)

in_rows : (n w : ℕ) (y : ℤ) (p : Point) → Contains (rows_points n w y) p → IsInRows n w y p
in_rows zero w y p c = absurd (contains_none p c)
in_rows (suc n) w y p c =
    elim (append_contains (row_points w (pos 0) y) (rows_points n w (y +ℤ pos 1)) p c) [
      | inl m ↦
          let r = in_row w (pos 0) y p m in
          let right = r.right in
          let row = r.row in
          record { left = r.left; right = omega (arith, ints, right); top = omega (arith, ints, row); bottom = omega (arith, ints, row) }
      | inr m ↦
          let r = in_rows n w (y +ℤ pos 1) p m in
          let top = r.top in
          let bottom = r.bottom in
          record { left = r.left; right = r.right; top = omega (arith, ints, top); bottom = omega (arith, ints, bottom) }
    ]

-- the points of a display lie in its rectangle
pub in_display : (size : Size) (p : Point) → IsDisplaySize size → Contains (points_of size) p → has (sized size) p ≡ true
unfolding points_of
in_display size p display c =
    let r = in_rows (nat_abs size.h) (nat_abs size.w) (pos 0) p c in
    let wide = display.wide in
    let high = display.high in
    let right = r.right in
    let bottom = r.bottom in
    of_in (sized size) p (record { left = r.left; right = omega (arith, ints, wide, right); top = r.top; bottom = omega (arith, ints, high, bottom) })

-- Pictures

-- the colour at a point of what was to be seen
abbrev pub seen_at : Option Scene → Point → Colour
seen_at None p = black
seen_at (Some scene) p = full scene p

picture_is : (size : Size) (o : Option Scene) → picture_of size o ≡ map (seen_at o) (points_of size)
unfolding picture_of picture
picture_is size None = refl
picture_is size (Some scene) = refl

patched_by : (t : Bool) (x y : Colour) → (t ≡ false → x ≡ y) → cond t y x ≡ y
patched_by true x y h = refl
patched_by false x y h = h refl

patched_is : (part : Rectangle) (f g : Point → Colour) (ps : List Point) → ((p : Point) → Contains ps p → has part p ≡ false → f p ≡ g p)
    → patched part ps (map g ps) (map f ps) ≡ map g ps
unfolding patched
patched_is part f g [] h = refl
patched_is part f g (p ∷ ps) h =
    ap (λ (c : Colour). c ∷ patched part ps (map g ps) (map f ps)) (patched_by (has part p) (f p) (g p) (h p (contains_here p ps)))
    ∙ ap (λ (cs : List Colour). g p ∷ cs) (patched_is part f g ps (λ q c. h q (contains_there p q ps c)))

-- Drawings

-- what was to be seen is the same at each point of the display that a rectangle misses
abbrev pub AgreeOutside : Size → Rectangle → Option Scene → Option Scene → Type 0
AgreeOutside size r a b = (p : Point) → has (sized size) p ≡ true → has r p ≡ false → seen_at a p ≡ seen_at b p

-- a drawing agrees with the one before it outside its damage, if there is one
abbrev pub FollowsOn : Size → DrawnFrame → List DrawnFrame → Type 0
FollowsOn size s [] = Unit {0}
FollowsOn size s (t ∷ ss) = AgreeOutside size s.damage t.scene s.scene

-- each drawing of a list, newest first, does
abbrev pub AreLinked : Size → List DrawnFrame → Type 0
AreLinked size [] = Unit {0}
AreLinked size (s ∷ ss) = FollowsOn size s ss × AreLinked size ss

-- a drawing agrees with an earlier one at each point that all damages since then miss
linked_to : (size : Size) (k : ℕ) (s t : DrawnFrame) (before : List DrawnFrame) → AreLinked size (s ∷ before) → slice_get before k ≡ Some t
    → (p : Point) → has (sized size) p ≡ true → Misses p (map (λ (u : DrawnFrame). u.damage) (take (suc k) (s ∷ before))) → seen_at t.scene p ≡ seen_at s.scene p
linked_to size k s t [] linked at p inside misses = absurd (cc)
linked_to size zero s t (u ∷ rest) linked at p inside misses =
    let same : u ≡ t = cc in
    ap (λ (v : DrawnFrame). seen_at v.scene p) (sym same) ∙ linked.0 p inside misses.0
linked_to size (suc k) s t (u ∷ rest) linked at p inside misses =
    linked_to size k u t rest linked.1 at p inside misses.1 ∙ linked.0 p inside misses.0

-- where all that is stale is painted, the rest agrees
rest_agrees : (size : Size) (few : Bool) (k : ℕ) (s t : DrawnFrame) (before : List DrawnFrame) → AreLinked size (s ∷ before) → slice_get before k ≡ Some t
    → AgreeOutside size (cond few (sized size) (bound (map (λ (u : DrawnFrame). u.damage) (take (suc k) (s ∷ before))))) t.scene s.scene
rest_agrees size true k s t before linked at p inside misses = absurd (both_ways (has (sized size) p) misses inside)
rest_agrees size false k s t before linked at p inside misses =
    linked_to size k s t before linked at p inside (bound_misses (map (λ (u : DrawnFrame). u.damage) (take (suc k) (s ∷ before))) p misses)

abbrev pub drawn_frame_picture : Size → DrawnFrame → List Colour
drawn_frame_picture size s = picture_of size s.scene

repainted_by : (size : Size) (part : Rectangle) (s : DrawnFrame) (o : Option DrawnFrame) → IsDisplaySize size → ((t : DrawnFrame) → o ≡ Some t → AgreeOutside size part t.scene s.scene)
    → repainted size part s.scene (option_map (drawn_frame_picture size) o) ≡ drawn_frame_picture size s
unfolding repainted
repainted_by size part s None display agree = refl
repainted_by size part s (Some t) display agree =
    ap (λ (new : List Colour). patched part (points_of size) new (picture_of size t.scene)) (picture_is size s.scene)
    ∙ (ap (λ (old : List Colour). patched part (points_of size) (map (seen_at s.scene) (points_of size)) old) (picture_is size t.scene)
    ∙ (patched_is part (seen_at t.scene) (seen_at s.scene) (points_of size) (λ p c misses. agree t refl p (in_display size p display c) misses)
    ∙ sym (picture_is size s.scene)))

-- each frame is whole
pub written_whole : (size : Size) (k : ℕ) (ss : List DrawnFrame) → IsDisplaySize size → AreLinked size ss → written_of size (suc k) ss ≡ map (drawn_frame_picture size) ss
unfolding written_of stale
written_whole size k [] display linked = refl
written_whole size k (s ∷ before) display linked =
    let earlier : List (List Colour) = written_of size (suc k) before in
    let part : Rectangle = stale size (suc k) (s ∷ before) in
    let whole : earlier ≡ map (drawn_frame_picture size) before = written_whole size k before display linked.1 in
    let back : suc k - 1 ≡ k = omega arith in
    let buffer : slice_get earlier (suc k - 1) ≡ option_map (drawn_frame_picture size) (slice_get before k) =
    ap (slice_get earlier) back ∙ (ap (λ (l : List (List Colour)). slice_get l k) whole ∙ slice_get-map (drawn_frame_picture size) before k) in
    ap (λ (o : Option (List Colour)). repainted size part s.scene o ∷ earlier) buffer
    ∙ (ap (λ (c : List Colour). c ∷ earlier) (repainted_by size part s (slice_get before k) display
    (λ t e. rest_agrees size (nat_le (length (s ∷ before)) (suc k)) k s t before linked e))
    ∙ ap (λ (l : List (List Colour)). drawn_frame_picture size s ∷ l) whole)

-- What holds of the numbers of a call that is allowed.
use Rattle.std.proofs.Common.{◌≡◌, ◌⊎◌, ℕ, ◌≤◌, ◌<◌, nat_lt, leb, pos, Bool, true, false, ◌&&◌, ◌==◌, List, length, IsTrue, refl, sym, subst, inl, inr, arith}
use Rattle.vz_geom.specs.{declared.Point.Point, declared.Size.Size, Display.IsDisplaySize, Rectangle.has, Rectangle.sized}
use Rattle.std.proofs.{lemmas.Bool.and_parts, lemmas.Bool.leb-true, lemmas.Bool.ltb-true, lemmas.Int.ints}
use Rattle.std.specs.List.{sum}
use Rattle.vz_base.specs.declared.limits.TheConstants.{MOST_FILES, GREATEST_DISPLAY_SIDE, MOST_ROUNDS}
use Rattle.vz_frame.specs.Fits.{within}
use Rattle.vz_rules.specs.Command.{are_sides}
use Rattle.viz_c.specs.Calls.{is_call, is_hit_call, is_gen_call, size_of}

in_range : (low high n : ℕ) → within low high n ≡ true → (low ≤ n) × (n ≤ high)
in_range low high n is =
    let both = and_parts (leb low n) (leb n high) is in
    (leb-true low n both.0, leb-true n high both.1)

module _ (w h : ℕ) (sides : IsTrue (are_sides w h)) where
  pub wide : (1 ≤ w) × (w ≤ GREATEST_DISPLAY_SIDE)
  wide = in_range 1 GREATEST_DISPLAY_SIDE w (and_parts (within 1 GREATEST_DISPLAY_SIDE w) (within 1 GREATEST_DISPLAY_SIDE h) sides).0

  pub high : (1 ≤ h) × (h ≤ GREATEST_DISPLAY_SIDE)
  high = in_range 1 GREATEST_DISPLAY_SIDE h (and_parts (within 1 GREATEST_DISPLAY_SIDE w) (within 1 GREATEST_DISPLAY_SIDE h) sides).1

  -- a display may have these sides
  pub display_fits : IsDisplaySize (size_of w h)
  display_fits =
      let across = wide in
      let down = high in
      record { wide = omega (arith, ints); not_too_wide = omega (arith, ints); high = omega (arith, ints); not_too_high = omega (arith, ints) }

  module _ (x y : ℕ) (inside : nat_lt x w && nat_lt y h ≡ true) where
    pub column_fits : x < w
    column_fits = ltb-true x w (and_parts (nat_lt x w) (nat_lt y h) inside).0

    pub row_fits : y < h
    row_fits = ltb-true y h (and_parts (nat_lt x w) (nat_lt y h) inside).1

    pub column_near : x < GREATEST_DISPLAY_SIDE
    column_near =
        let across = wide in
        let column = column_fits in omega (arith, column)

    pub row_near : y < GREATEST_DISPLAY_SIDE
    row_near =
        let down = high in
        let row = row_fits in omega (arith, row)

    -- the point is on the display
    pub point_fits : has (sized (size_of w h)) (record { x = pos x; y = pos y }) ≡ true
    point_fits =
        let column = column_fits in
        let row = row_fits in
        grind (arith, ints)

module _ (w h : ℕ) (files lengths : List ℕ) (is : is_call w h files lengths ≡ true) where
  two : (are_sides w h && within 1 MOST_FILES (length lengths)) ≡ true
  two = (and_parts (are_sides w h && within 1 MOST_FILES (length lengths)) (sum lengths == length files) is).0

  few : within 1 MOST_FILES (length lengths) ≡ true
  few = (and_parts (are_sides w h) (within 1 MOST_FILES (length lengths)) two).1

  pub sides : IsTrue (are_sides w h)
  sides = (and_parts (are_sides w h) (within 1 MOST_FILES (length lengths)) two).0

  pub some_files : 1 ≤ length lengths
  some_files = (in_range 1 MOST_FILES (length lengths) few).0

  pub few_files : length lengths ≤ MOST_FILES
  few_files = (in_range 1 MOST_FILES (length lengths) few).1

-- as many rounds as may be, and three lengths
module _ (rounds : ℕ) (lengths : List ℕ) (is : is_gen_call rounds lengths ≡ true) where
  pub few_rounds : rounds ≤ MOST_ROUNDS
  few_rounds = (in_range 1 MOST_ROUNDS rounds (and_parts (within 1 MOST_ROUNDS rounds) (length lengths == 3) is).0).1

  pub three_lengths : length lengths ≡ 3
  three_lengths =
      let same = (and_parts (within 1 MOST_ROUNDS rounds) (length lengths == 3) is).1 in
      grind arith

-- a point that is on the display, by the names of its size and of the point
pub point_shown :
    (w h : ℕ) (sides : IsTrue (are_sides w h)) (x y : ℕ) (inside : nat_lt x w && nat_lt y h ≡ true) (size : Size) (point : Point)
    → size ≡ size_of w h → point ≡ record { x = pos x; y = pos y } → IsTrue (has (sized size) point)
point_shown w h sides x y inside size point e f =
    subst (λ (z : Size). IsTrue (has (sized z) point)) (sym e)
    (subst (λ (q : Point). IsTrue (has (sized (size_of w h)) q)) (sym f) (point_fits w h sides x y inside))

-- a call of a point is allowed where the call is and the point is on the display
pub both_hold :
    (w h x y : ℕ) (files lengths : List ℕ) → is_call w h files lengths ≡ true → nat_lt x w && nat_lt y h ≡ true
    → is_hit_call w h x y files lengths ≡ false → ⊥
both_hold w h x y files lengths call inside none = by (is_call w h files lengths) (nat_lt x w) (nat_lt y h) call inside none
  where
    by : (a b c : Bool) → a ≡ true → b && c ≡ true → a && b && c ≡ false → ⊥
    by true true true e f g = cc
    by true true false e f g = cc
    by true false c e f g = cc
    by false b c e f g = cc

pub one_fails :
    (w h x y : ℕ) (files lengths : List ℕ) → (is_call w h files lengths ≡ false) ⊎ (nat_lt x w && nat_lt y h ≡ false)
    → is_hit_call w h x y files lengths ≡ false
one_fails w h x y files lengths fails = by (is_call w h files lengths) (nat_lt x w) (nat_lt y h) fails
  where
    by : (a b c : Bool) → (a ≡ false) ⊎ (b && c ≡ false) → a && b && c ≡ false
    by false b c f = refl
    by true true true (inl e) = cc
    by true true true (inr e) = cc
    by true true false f = refl
    by true false c f = refl

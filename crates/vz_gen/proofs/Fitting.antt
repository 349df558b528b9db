-- What is made fits.
use Rattle.std.proofs.Common.{◌≡◌, ℕ, zero, suc, pos, ◌+◌, ◌-◌, ◌*◌, ◌%◌, ◌<◌, ◌≤◌, ◌==◌, List, [], ◌∷◌, ◌++◌, length, Bool, true, false, ◌&&◌, ◌||◌, refl, arith, if◌then◌else◌}
use Rattle.std.specs.Prelude.{nat_le, not, map}
use Rattle.std.specs.List.{list_all}
use Rattle.std.proofs.lemmas.Bool.{and_parts}
use Rattle.std.proofs.lemmas.Int.{ints}
use Rattle.vz_ids.specs.Ids.{same_sink}
use Rattle.vz_frame.specs.Frame.{has_repeat}
use Rattle.vz_geom.specs.Rectangle.{Rectangle}
use Rattle.vz_frame.specs.Fits.{is_number, is_id, is_zero, in_reach, is_side, fits_rect, fits_colour, fits_block, fits_local, fits_material, fits_quad, fits_pass, fits_frame, fits_message, fits_file, fits_sink}
use Rattle.vz_gen.specs.Make.{rect, colour, sink_of, local_of, page_file, resource_of, damage_of, child_frame, block_of, round_of, rounds_from, child_file, make}

-- the page
page_fits : fits_file page_file ≡ true
unfolding fits_file fits_message fits_frame fits_pass fits_quad fits_material
page_fits = refl

both : (a b : Bool) → a ≡ true → b ≡ true → (a && b) ≡ true
both true b p q = q
both false b p q = p

or_second : (a b : Bool) → b ≡ true → (a || b) ≡ true
or_second true b p = refl
or_second false b p = p

-- numbers of a round
number_fits : (r : ℕ) → r ≤ 1000 → is_number r ≡ true
number_fits r few = grind arith

resource_fits : (r : ℕ) → is_id (resource_of r) ≡ true
resource_fits r = both (nat_le 1 (resource_of r)) (nat_le (resource_of r) 4294967295) (grind arith) (let k : r % 2 < 2 = omega arith in grind arith)

red_fits : (m : ℕ) → m < 256 → fits_colour (colour m 0 0) ≡ true
red_fits m small = grind arith

reach_fits : (m : ℕ) → m ≤ 28 → in_reach (pos m) ≡ true
reach_fits m small = grind (arith, ints)

-- a place on the top row
strip_fits : (m : ℕ) → m ≤ 28 → fits_rect (rect m 0 8 4) ≡ true
strip_fits m small =
    or_second (is_zero (pos m) && is_zero (pos 0) && is_zero (pos 8) && is_zero (pos 4)) (in_reach (pos m) && in_reach (pos 0) && is_side (pos 8) && is_side (pos 4))
    (simp (reach_fits m small))

chosen_fits : (a b : Bool) (x y z : Rectangle) → fits_rect x ≡ true → fits_rect y ≡ true → fits_rect z ≡ true
    → fits_rect (if a then x else (if b then y else z)) ≡ true
chosen_fits true b x y z p q s = p
chosen_fits false true x y z p q s = q
chosen_fits false false x y z p q s = s

eighth : (r : ℕ) → 4 * (r % 8) ≤ 28
eighth r = let k : r % 8 < 8 = omega arith in omega arith

damage_fits : (r : ℕ) → fits_rect (damage_of r) ≡ true
damage_fits r =
    chosen_fits (r == 1) (r % 8 == 0) (rect 0 0 32 32) (rect 0 0 32 4) (rect (4 * ((r - 1) % 8)) 0 8 4) refl refl (strip_fits (4 * ((r - 1) % 8)) (eighth (r - 1)))

-- the messages of a round
block_fits : (r : ℕ) → fits_block (block_of r) ≡ true
block_fits r = let k : r % 256 < 256 = omega arith in simp (red_fits (r % 256) k)

-- lists, one after the other
all_append : {A : Type 0} (f : A → Bool) (xs ys : List A) → list_all f xs ≡ true → list_all f ys ≡ true → list_all f (xs ++ ys) ≡ true
all_append f [] ys p q = q
all_append f (x ∷ xs) ys p q =
    let k = and_parts (f x) (list_all f xs) p in
    both (f x) (list_all f (xs ++ ys)) k.0 (all_append f xs ys k.1 q)

rounds_length : (k n r : ℕ) → length (rounds_from k n r) ≡ 4 * n
rounds_length k zero r = refl
rounds_length k (suc n) r = omega (arith, rounds_length k n (r + 1))

module _ (k : ℕ) (local : fits_local (local_of k) ≡ true) (sink : fits_sink (sink_of k) ≡ true) (other : not ((k == 0) && (1 == 0)) ≡ true) (ground' : fits_colour (colour 0 0 (64 * (k - 1))) ≡ true) where
  frame_fits : (r : ℕ) → r ≤ 1000 → fits_frame 1 (child_frame k r) ≡ true
  unfolding fits_frame fits_pass fits_quad fits_material
  frame_fits r few = simp (number_fits r few, resource_fits r, damage_fits r, reach_fits (4 * (r % 8)) (eighth r), ground')

  round_fits : (r : ℕ) → r ≤ 1000 → list_all (fits_message 1) (round_of k r) ≡ true
  unfolding fits_message
  round_fits r few = simp (resource_fits r, block_fits r, local, frame_fits r few)

  rounds_fit : (n r : ℕ) → r + n ≤ 1001 → list_all (fits_message 1) (rounds_from k n r) ≡ true
  rounds_fit zero r few = refl
  rounds_fit (suc n) r few =
      all_append (fits_message 1) (round_of k r) (rounds_from k n (r + 1)) (round_fits r (omega arith)) (rounds_fit n (r + 1) (omega arith))

  child_fits : (n : ℕ) → n ≤ 1000 → fits_file (child_file n k) ≡ true
  unfolding fits_file
  child_fits n few =
      let long : nat_le (length (rounds_from k n 1)) 4096 ≡ true = (let e = rounds_length k n 1 in grind arith) in
      simp (sink, other, long, rounds_fit n 1 (omega arith))

-- three files that fit, with sinks that differ
pub made_three : (n : ℕ) → length (make n) ≡ 3
unfolding make
made_three n = refl

pub made_fit : (n : ℕ) → n ≤ 1000 → list_all fits_file (make n) ≡ true
unfolding make
made_fit n few =
    let second = child_fits 2 refl refl refl refl n few in
    let third = child_fits 3 refl refl refl refl n few in
    simp (page_fits, second, third)

pub made_distinct : (n : ℕ) → has_repeat same_sink (map (λ f. f.sink) (make n)) ≡ false
unfolding make
made_distinct n = refl

-- The pixels that some rows have in a group.
use Rattle.std.proofs.Common.{◌≡◌, ℕ, ◌+◌, ◌-◌, ◌*◌, ◌≤◌, ◌<◌, List, ◌++◌, length, take, drop, get_or, sym, ap, ◌∙◌, arith}
use Rattle.std.proofs.{Math.Nat.mul-le-mul_right, lemmas.List.get_or-take, lemmas.List.length-take-le, lemmas.Bool.Decides.nat_tests}
use Rattle.std.proofs.Math.Seq.{take-append_seam}
use borrow.Rule.Slice.PartMut.{put_mid}
use Rattle.vz_geom.specs.declared.Point.{Point}
use Rattle.vz_pixels.specs.Colour.{Colour, transparent}
use Rattle.vz_frame.proofs.Parts.{part_of, length_part, in_part, length_replaced}
use Rattle.vz_paint.specs.Redraw.{AreLines, IsRedrawn}

-- the pixel of a row and a column is one of them
pub is_among : (w n r i : ℕ) → r < n → i < w → r * w + i < n * w
is_among w n r i low near = grind (arith, nat_tests, mul-le-mul_right)

-- a list that was written in place
pub written : (now items : List Colour) (len : ℕ) → length now ≡ len → take len (now ++ drop (length now) items) ≡ now
written now items len is = ap (λ n. take n (now ++ drop (length now) items)) (sym is) ∙ take-append_seam now (drop (length now) items)

module _ (old new : List Colour) (count : ℕ) (low : count ≤ length old) (long : length new ≡ length (take count old)) where
  part_long : length new ≡ count
  part_long = long ∙ length-take-le count old low

  -- pixels of which the first ones were written are as many as before
  pub still_long : length (put_mid 0 count old new) ≡ length old
  still_long = length_replaced transparent old new 0 count (omega (arith, low)) part_long

  -- and have the new ones
  pub has_new : (at : ℕ) → at < count → get_or (put_mid 0 count old new) at transparent ≡ get_or new at transparent
  has_new at near = in_part transparent 0 count old new at (omega (arith, low)) part_long (omega arith) (omega (arith, near)) ∙ ap (λ k. get_or new k transparent) (omega arith)

-- what was drawn in the rows of a group
pub drawn_inside : (w n count : ℕ) (f : ℕ → ℕ → Colour → Colour) (old new : List Colour) → count ≡ n * w → count ≤ length old → IsRedrawn w 0 w n f (take count old) new
    → (r i : ℕ) → r < n → i < w → get_or (put_mid 0 count old new) (r * w + i) transparent ≡ f r i (get_or old (r * w + i) transparent)
drawn_inside w n count f old new is low drawn r i in_rows near =
    let among = is_among w n r i in_rows near in
    let there : r * w + i < count = omega (arith, among, is) in
    let place : (r * w + 0) + i ≡ r * w + i = omega arith in
    has_new old new count low drawn.long (r * w + i) there
    ∙ (ap (λ k. get_or new k transparent) (sym place)
    ∙ (drawn.each r i in_rows near ∙ ap (f r i) (ap (λ k. get_or (take count old) k transparent) place ∙ get_or-take count old (r * w + i) transparent there)))

-- where they stand
pub group_lines : (start : Point) (width left wide n : ℕ) (pixels own : List Colour) → AreLines start width left wide n pixels → n * wide ≤ length own → AreLines start wide 0 wide n (take (n * wide) own)
group_lines start width left wide n pixels own lines low = grind (arith, nat_tests, length-take-le (n * wide) own low)

-- a part of a row of a group
module _ (wide count k own from to : ℕ) (pixels : List Colour) (fits : count * wide ≤ length pixels) (low : k < count) (up : from ≤ to) (most : to ≤ wide) (own_is : own ≡ k * wide + 0) where
  pub group_end : own + to ≤ length pixels
  group_end = grind (arith, nat_tests, mul-le-mul_right)

  pub group_part : length (take ((own + to) - (own + from)) (drop (own + from) pixels)) ≡ to - from
  group_part = grind (arith, nat_tests, group_end, length_part transparent pixels (own + from))

  pub group_colour : (i : ℕ) → from ≤ i → i < to → get_or (take ((own + to) - (own + from)) (drop (own + from) pixels)) (i - from) transparent ≡ get_or pixels (k * wide + i) transparent
  group_colour i least near = grind (arith, nat_tests, part_of)

-- Tiles in a row, texel by texel.
use Rattle.std.proofs.Common.{◌≡◌, ℕ, ◌+◌, ◌-◌, ◌*◌, ◌<◌, ◌≤◌, min, pos, nat_abs, ◌+ℤ◌, ◌≤ℤ◌, Bool, true, false, if◌then◌else◌, Option, Some, None, List, length, take, drop, get_or, refl, sym, ap, ◌∙◌, arith}
use Rattle.std.specs.Prelude.{nat_lt}
use Rattle.std.proofs.Math.Nat.{mul-le-mul_right}
use Rattle.std.proofs.lemmas.Bool.{ltb-true, ltb-false, lt-ltb}
use Rattle.std.proofs.lemmas.List.{get_or-take, get_or-drop, get_or_past, length-take}
use Rattle.std.proofs.lemmas.Int.{ints}
use Rattle.vz_geom.specs.declared.Point.{Point}
use Rattle.vz_geom.specs.Rectangle.{plus}
use Rattle.vz_geom.proofs.Points.{same_point}
use Rattle.vz_pixels.specs.Colour.{Colour, transparent}
use Rattle.vz_pixels.specs.Block.{Block, texel}
use Rattle.vz_frame.specs.declared.blend.Blend.{Blend}
use Rattle.vz_frame.specs.declared.frame.Listing.{Listing}
use Rattle.vz_frame.specs.Blending.{laid}
use Rattle.vz_rules.specs.World.{FrameData}
use Rattle.vz_rules.specs.Paint.{block_of, texel_of, tile_colour}
use Rattle.vz_plain.specs.Rows.{right_of, IsPainted}

-- the block that is found in lists is that in the same lists
pub found_in_lists : (id : ℕ) (o : Option Block) (ls ns : List Listing) (bs cs : List Block) → o ≡ block_of id ls bs → ls ≡ ns → bs ≡ cs → block_of id ns cs ≡ o
found_in_lists id o ls ns bs cs is e f = sym (is ∙ (λ j. block_of id (e j) (f j)))

-- the block of a tile is known
by_block : (i : FrameData) (id tx ty : ℕ) (b : Option Block) (q : Point) → block_of id i.frame.resources i.blocks ≡ b → texel_of b (plus q (record { x = pos tx; y = pos ty })) ≡ tile_colour i id tx ty q
unfolding tile_colour
by_block i id tx ty b q is = sym (ap (λ o. texel_of o (plus q (record { x = pos tx; y = pos ty }))) is)

-- a tile without a block is transparent
pub no_block : (i : FrameData) (id tx ty : ℕ) (p : Point) (m : Blend) (o : ℕ) (old new : List Colour) → block_of id i.frame.resources i.blocks ≡ None → length new ≡ length old
    → ((k : ℕ) → k < length old → get_or new k transparent ≡ laid m transparent o (get_or old k transparent))
    → IsPainted (λ q d. laid m (tile_colour i id tx ty q) o d) p old new
no_block i id tx ty p m o old new none long each =
    record { long = long; each = λ k low. each k low ∙ ap (λ c. laid m c o (get_or old k transparent)) (by_block i id tx ty None (right_of p k) none) }

-- the texels of a block from a point on are those of its tile
pub block_laid : (i : FrameData) (id tx ty : ℕ) (b : Block) (p first : Point) (m : Blend) (o : ℕ) (old new : List Colour) → block_of id i.frame.resources i.blocks ≡ Some b
    → first ≡ plus p (record { x = pos tx; y = pos ty }) → length new ≡ length old
    → ((k : ℕ) → k < length old → get_or new k transparent ≡ laid m (texel_of (Some b) (right_of first k)) o (get_or old k transparent))
    → IsPainted (λ q d. laid m (tile_colour i id tx ty q) o d) p old new
block_laid i id tx ty b p first m o old new is at long each =
    record {
      long = long;
      each = λ k low.
          let there : right_of first k ≡ plus (right_of p k) (record { x = pos tx; y = pos ty }) = ap (λ q. right_of q k) at ∙ same_point (omega (arith, ints)) refl in
          each k low
          ∙ ap (λ c. laid m c o (get_or old k transparent)) (ap (texel_of (Some b)) there ∙ by_block i id tx ty (Some b) (right_of p k) is);
    }

-- The texels of a row of a block

inside_row : (b : Block) (x y : ℕ) → x < b.w → get_or b.pixels (y * b.w + x) transparent ≡ texel b x y
unfolding texel
inside_row b x y low = sym (ap (λ t. if t then get_or b.pixels (y * b.w + x) transparent else transparent) (lt-ltb x b.w low))

right_of_row : (b : Block) (x y : ℕ) → b.w ≤ x → transparent ≡ texel b x y
unfolding texel
right_of_row b x y high = by_test (nat_lt x b.w) refl
  where
    by_test : (t : Bool) → nat_lt x b.w ≡ t → transparent ≡ (if nat_lt x b.w then get_or b.pixels (y * b.w + x) transparent else transparent)
    by_test true e = let low = ltb-true x b.w e in absurd (omega (arith, low, high))
    by_test false e = sym (ap (λ t. if t then get_or b.pixels (y * b.w + x) transparent else transparent) e)

below_rows : (b : Block) (x y : ℕ) → length b.pixels ≡ b.w * b.h → b.h ≤ y → transparent ≡ texel b x y
unfolding texel
below_rows b x y all low = by_test (nat_lt x b.w) refl
  where
    past : length b.pixels ≤ y * b.w + x
    past =
        let upto : b.h * b.w ≤ y * b.w = mul-le-mul_right b.w low in
        let turned : b.h * b.w ≡ b.w * b.h = grind arith in
        omega (arith, all, upto, turned)

    by_test : (t : Bool) → nat_lt x b.w ≡ t → transparent ≡ (if nat_lt x b.w then get_or b.pixels (y * b.w + x) transparent else transparent)
    by_test true e = sym (ap (λ t. if t then get_or b.pixels (y * b.w + x) transparent else transparent) e ∙ get_or_past b.pixels (y * b.w + x) transparent past)
    by_test false e = sym (ap (λ t. if t then get_or b.pixels (y * b.w + x) transparent else transparent) e)

-- the column of a place right of a point that is not left of column 0
column : (first : Point) (x k : ℕ) → x ≡ nat_abs first.x → pos 0 ≤ℤ first.x → x + k ≡ nat_abs (first.x +ℤ pos k)
column first x k is right = omega (arith, ints, is, right)

-- the texel of a place is known by its column and row
at_place : (b : Block) (first : Point) (x y k : ℕ) (c : Colour) → x ≡ nat_abs first.x → y ≡ nat_abs first.y → pos 0 ≤ℤ first.x
    → c ≡ texel b (x + k) y → c ≡ texel_of (Some b) (right_of first k)
at_place b first x y k c is_x is_y right same = same ∙ (λ j. texel b (column first x k is_x right j) (is_y j))

-- there is no texel in these columns
pub none_right : (b : Block) (first : Point) (x y w k : ℕ) → x ≡ nat_abs first.x → y ≡ nat_abs first.y → pos 0 ≤ℤ first.x → w ≡ b.w → w ≤ x → transparent ≡ texel_of (Some b) (right_of first k)
none_right b first x y w k is_x is_y right is_w past = at_place b first x y k transparent is_x is_y right (right_of_row b (x + k) y (omega (arith, is_w, past)))

-- there is none in this row
pub none_below : (b : Block) (first : Point) (x y h k : ℕ) → x ≡ nat_abs first.x → y ≡ nat_abs first.y → pos 0 ≤ℤ first.x → h ≡ b.h → length b.pixels ≡ b.w * b.h → h ≤ y
    → transparent ≡ texel_of (Some b) (right_of first k)
none_below b first x y h k is_x is_y right is_h all past = at_place b first x y k transparent is_x is_y right (below_rows b (x + k) y all (omega (arith, is_h, past)))

-- a part of a row has the texels from a column on
pub part_of_block : (b : Block) (first : Point) (x y w n k count : ℕ) (pixels : List Colour) → x ≡ nat_abs first.x → y ≡ nat_abs first.y → pos 0 ≤ℤ first.x → w ≡ b.w → pixels ≡ b.pixels
    → n ≡ min count (w - x) → x < w → k < count → get_or (take n (drop (y * w + x) pixels)) k transparent ≡ texel_of (Some b) (right_of first k)
part_of_block b first x y w n k count pixels is_x is_y right is_w is few low less =
    (λ j. get_or (take n (drop (y * is_w j + x) (is j))) k transparent)
    ∙ at_place b first x y k (get_or (take n (drop (y * b.w + x) b.pixels)) k transparent) is_x is_y right (by_test (nat_lt k n) refl)
  where
    by_test : (t : Bool) → nat_lt k n ≡ t → get_or (take n (drop (y * b.w + x) b.pixels)) k transparent ≡ texel b (x + k) y
    by_test true e =
        let inside = ltb-true k n e in
        let next : y * b.w + x + k ≡ y * b.w + (x + k) = omega arith in
        get_or-take n (drop (y * b.w + x) b.pixels) k transparent inside
        ∙ (get_or-drop (y * b.w + x) b.pixels k transparent
        ∙ (ap (λ m. get_or b.pixels m transparent) next ∙ inside_row b (x + k) y (omega (arith, inside, few, low, is_w))))
    by_test false e =
        let outside = ltb-false k n e in
        let long = length-take n (drop (y * b.w + x) b.pixels) in
        get_or_past (take n (drop (y * b.w + x) b.pixels)) k transparent (omega (arith, long, outside))
        ∙ right_of_row b (x + k) y (omega (arith, outside, few, low, less, is_w))

-- A Blit that draws a whole block draws opaque texels alone only if the block is opaque.
use Rattle.std.proofs.Common.{◌≡◌, ℕ, zero, suc, ◌+◌, ◌-◌, ◌*◌, ◌≤◌, ◌<◌, ℤ, pos, nat_abs, nat_lt, Bool, true, false, ◌&&◌, List, [], ◌∷◌, length, get_or, refl, ap, sym, subst, ◌∙◌, arith}
use Rattle.std.specs.List.{list_all}
use Rattle.std.proofs.{lemmas.Bool.and_parts, lemmas.Bool.ltb-true, lemmas.Bool.ltb-false, lemmas.Int.ints}
use Rattle.vz_geom.specs.Rectangle.{Rectangle, is_empty_rect}
use Rattle.vz_pixels.specs.{Colour.Colour, Colour.transparent, Block.Block, Block.texel, Block.are_opaque}
use Rattle.vz_flat.specs.{Ops.is_inside, declared.op.Op.TheVariants.Blit}
use Rattle.vz_occlude.specs.{Occluders.is_opaque, Occluders.is_opaque_blit, Rows.is_opaque_row, Rows.are_opaque_rows}
use Rattle.vz_occlude.proofs.{Opaque_blocks.lt_true, Read_texels.blit_is, Read_texels.within, Read_texels.IsWithin}

-- colours are opaque if each of them is
all_opaque : (cs : List Colour) → ((k : ℕ) → k < length cs → is_opaque (get_or cs k transparent) ≡ true) → list_all is_opaque cs ≡ true
all_opaque [] each = refl
all_opaque (c ∷ cs) each =
    λ i. each zero (omega arith) i && all_opaque cs (λ k low. each (suc k) (omega (arith, low))) i

-- a place in so many rows is one of a row
of_rows : (P : ℕ → Type 0) (w n : ℕ) → ((y x : ℕ) → y < n → x < w → P (y * w + x)) → (k : ℕ) → k < n * w → P k
of_rows P w zero each k low = absurd (omega (arith, low))
of_rows P w (suc n) each k low = by_test (nat_lt k (n * w)) refl (of_rows P w n (λ y x down across. each y x (omega (arith, down)) across) k)
  where
    by_test : (t : Bool) → nat_lt k (n * w) ≡ t → (k < n * w → P k) → P k
    by_test true h before = before (ltb-true k (n * w) h)
    by_test false h before =
        let most : n * w ≤ k = ltb-false k (n * w) h in
        let one : suc n * w ≡ n * w + w = grind arith in
        let place : n * w + (k - n * w) ≡ k = omega (arith, most) in
        subst P place (each n (k - n * w) (omega arith) (omega (arith, low, one, most)))

module _ (b : Block) where
  row_gives : (n column row : ℕ) → is_opaque_row b n column row ≡ true → (p x : ℕ) → x < n → p ≡ column + x → is_opaque (texel b p row) ≡ true
  unfolding is_opaque_row
  row_gives zero column row all p x low e = absurd (omega (arith, low))
  row_gives (suc n) column row all p zero low e =
      let f : p ≡ column = omega (arith, e) in
      ap (λ m. is_opaque (texel b m row)) f ∙ (and_parts (is_opaque (texel b column row)) (is_opaque_row b n (column + 1) row) all).0
  row_gives (suc n) column row all p (suc x) low e =
      row_gives n (column + 1) row (and_parts (is_opaque (texel b column row)) (is_opaque_row b n (column + 1) row) all).1 p x (omega (arith, low)) (omega (arith, e))

  rows_give : (n w column row : ℕ) → are_opaque_rows b n w column row ≡ true → (q y : ℕ) → y < n → q ≡ row + y → is_opaque_row b w column q ≡ true
  unfolding are_opaque_rows
  rows_give zero w column row all q y low e = absurd (omega (arith, low))
  rows_give (suc n) w column row all q zero low e =
      let f : q ≡ row = omega (arith, e) in
      ap (λ m. is_opaque_row b w column m) f ∙ (and_parts (is_opaque_row b w column row) (are_opaque_rows b n w column (row + 1)) all).0
  rows_give (suc n) w column row all q (suc y) low e =
      rows_give n w column (row + 1) (and_parts (is_opaque_row b w column row) (are_opaque_rows b n w column (row + 1)) all).1 q y (omega (arith, low)) (omega (arith, e))

  texel_is : (x y : ℕ) → x < b.w → get_or b.pixels (y * b.w + x) transparent ≡ texel b x y
  unfolding texel
  texel_is x y across = rw (lt_true x b.w across) refl

  place_opaque : are_opaque_rows b b.h b.w 0 0 ≡ true → (y x : ℕ) → y < b.h → x < b.w → is_opaque (get_or b.pixels (y * b.w + x) transparent) ≡ true
  place_opaque all y x down across =
      ap is_opaque (texel_is x y across) ∙ row_gives b.w 0 y (rows_give b.h b.w 0 0 all y y down (omega arith)) x x across (omega arith)

  -- if all rows of the block are opaque, the block is
  block_opaque : length b.pixels ≡ b.w * b.h → are_opaque_rows b b.h b.w 0 0 ≡ true → are_opaque b.pixels ≡ true
  block_opaque full all =
      let turned : b.w * b.h ≡ b.h * b.w = grind arith in
      all_opaque b.pixels (λ k low. of_rows (λ n. is_opaque (get_or b.pixels n transparent) ≡ true) b.w b.h (place_opaque all) k (omega (arith, low, full, turned)))

  rows_clear : length b.pixels ≡ b.w * b.h → are_opaque b.pixels ≡ false → are_opaque_rows b b.h b.w 0 0 ≡ false
  rows_clear full clear = by_test (are_opaque_rows b b.h b.w 0 0) refl
    where
      by_test : (t : Bool) → are_opaque_rows b b.h b.w 0 0 ≡ t → t ≡ false
      by_test true h = sym (block_opaque full h) ∙ clear
      by_test false h = refl

  -- a Blit that draws all of a block that is not opaque
  pub whole_clear : are_opaque b.pixels ≡ false → length b.pixels ≡ b.w * b.h → (area : Rectangle) (tx ty : ℤ) (o : ℕ) (m : _) → is_empty_rect area ≡ false
      → is_inside (Blit area b tx ty o m) ≡ true → area.w ≡ pos b.w → area.h ≡ pos b.h → is_opaque_blit area b tx ty ≡ false
  whole_clear clear full area tx ty o m out inside wide high =
      let in_block : IsWithin area b tx ty = within area b tx ty o m out inside in
      let left = in_block.left in
      let top = in_block.top in
      let right = in_block.right in
      let bottom = in_block.bottom in
      blit_is area b tx ty 0 0 (omega (arith, ints, left, right, wide)) (omega (arith, ints, top, bottom, high))
      ∙ ((λ i. are_opaque_rows b (nat_abs (high i)) (nat_abs (wide i)) 0 0) ∙ rows_clear full clear)

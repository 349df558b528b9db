-- A Blit of an opaque block draws opaque texels alone.
use Rattle.std.proofs.Common.{◌≡◌, ℕ, zero, suc, ◌+◌, ◌*◌, ◌≤◌, ◌<◌, ℤ, nat_abs, nat_lt, true, false, ◌&&◌, List, [], ◌∷◌, length, get_or, refl, ◌∙◌, arith}
use Rattle.std.specs.List.{list_all}
use Rattle.std.proofs.{Math.Nat.mul-le-mul_right, lemmas.Bool.and_parts, lemmas.Int.ints}
use Rattle.vz_geom.specs.Rectangle.{Rectangle, is_empty_rect}
use Rattle.vz_geom.proofs.Bounds.{IsFull, of_full}
use Rattle.vz_pixels.specs.{Colour.Colour, Colour.transparent, Block.Block, Block.texel, Block.are_opaque}
use Rattle.vz_flat.specs.{Ops.is_inside, declared.op.Op.TheVariants.Blit}
use Rattle.vz_occlude.specs.{Occluders.is_opaque, Occluders.is_opaque_blit, Rows.is_opaque_row, Rows.are_opaque_rows}
use Rattle.vz_occlude.proofs.Read_texels.{blit_is, within, IsWithin}

each_opaque : (cs : List Colour) (k : ℕ) → list_all is_opaque cs ≡ true → k < length cs → is_opaque (get_or cs k transparent) ≡ true
each_opaque [] k all low = absurd (omega (arith, low))
each_opaque (c ∷ cs) zero all low = (and_parts (is_opaque c) (list_all is_opaque cs) all).0
each_opaque (c ∷ cs) (suc k) all low = each_opaque cs k (and_parts (is_opaque c) (list_all is_opaque cs) all).1 (omega (arith, low))

place_low : (x y w h : ℕ) → x < w → y < h → y * w + x < w * h
place_low x y w h across down =
    let rows : (y + 1) * w ≤ h * w = mul-le-mul_right w (omega arith) in
    let one : (y + 1) * w ≡ y * w + w = grind arith in
    let turned : h * w ≡ w * h = grind arith in
    omega arith

pub lt_true : (a b : ℕ) → a < b → nat_lt a b ≡ true
lt_true a b h = grind arith

module _ (b : Block) (all : are_opaque b.pixels ≡ true) (full : length b.pixels ≡ b.w * b.h) where
  texel_opaque : (x y : ℕ) → x < b.w → y < b.h → is_opaque (texel b x y) ≡ true
  unfolding texel
  texel_opaque x y across down =
      let low : y * b.w + x < length b.pixels = let i = place_low x y b.w b.h across down in omega (arith, full, i) in
      rw (lt_true x b.w across) (each_opaque b.pixels (y * b.w + x) all low)

  row_opaque : (n column row : ℕ) → column + n ≤ b.w → row < b.h → is_opaque_row b n column row ≡ true
  unfolding is_opaque_row
  row_opaque zero column row right down = refl
  row_opaque (suc n) column row right down =
      λ i. texel_opaque column row (omega (arith, right)) down i && row_opaque n (column + 1) row (omega (arith, right)) down i

  rows_opaque : (n w column row : ℕ) → column + w ≤ b.w → row + n ≤ b.h → are_opaque_rows b n w column row ≡ true
  unfolding are_opaque_rows
  rows_opaque zero w column row right down = refl
  rows_opaque (suc n) w column row right down =
      λ i. row_opaque w column row right (omega (arith, down)) i && rows_opaque n w column (row + 1) right (omega (arith, down)) i

  -- all that are drawn are
  pub blit_opaque : (area : Rectangle) (tx ty : ℤ) (o : ℕ) (m : _) → is_empty_rect area ≡ false → is_inside (Blit area b tx ty o m) ≡ true
      → is_opaque_blit area b tx ty ≡ true
  blit_opaque area tx ty o m out inside =
      let in_block : IsWithin area b tx ty = within area b tx ty o m out inside in
      let has : IsFull area = of_full area out in
      let left = in_block.left in
      let top = in_block.top in
      let right = in_block.right in
      let bottom = in_block.bottom in
      let wide = has.wide in
      let high = has.high in
      blit_is area b tx ty (nat_abs tx) (nat_abs ty) (omega (arith, ints, left)) (omega (arith, ints, top))
      ∙ rows_opaque (nat_abs area.h) (nat_abs area.w) (nat_abs tx) (nat_abs ty) (omega (arith, ints, left, right, wide)) (omega (arith, ints, top, bottom, high))

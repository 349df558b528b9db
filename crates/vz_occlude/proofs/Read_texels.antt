-- The texels of a Blit, row by row.
use Rattle.std.proofs.Common.{◌≡◌, ℕ, zero, suc, ◌+◌, ◌-◌, ◌≤◌, ◌<◌, ℤ, pos, ◌+ℤ◌, ◌-ℤ◌, ◌≤ℤ◌, int_le, int_lt, nat_abs, Bool, true, false, ◌&&◌, ◌||◌, refl, ap, sym, ◌∙◌, arith, ◌==◌, eq-eqb, to_z, of_z, w32}
use Rattle.std.specs.List.{list_all}
use Rattle.std.proofs.{lemmas.Bool.and_parts, lemmas.Bool.eqb-true, lemmas.Int.ints, lemmas.List.Folds.list_all-append}
use Rattle.vz_geom.specs.Rectangle.{Rectangle, IsRectangle, is_empty_rect, row_points, rows_from, points_in}
use Rattle.vz_geom.proofs.{Sets.le_true, Sets.lt_true, Bounds.IsFull}
use Rattle.vz_pixels.specs.{Colour.Colour, Block.Block, Block.texel}
use Rattle.vz_flat.specs.{Ops.is_inside, Ops.is_span_inside, declared.op.Op.TheVariants.Blit}
use Rattle.vz_occlude.specs.{Occluders.is_opaque, Occluders.laid_texel, Occluders.is_opaque_blit, Rows.is_opaque_row, Rows.are_opaque_rows}

module _ (area : Rectangle) (block : Block) (tx ty : ℤ) where
  row_is : (n column row : ℕ) (x y : ℤ) → (x -ℤ area.x) +ℤ tx ≡ pos column → (y -ℤ area.y) +ℤ ty ≡ pos row
      → list_all (λ p. is_opaque (laid_texel area block tx ty p)) (row_points n x y) ≡ is_opaque_row block n column row
  unfolding is_opaque_row
  row_is zero column row x y e f = refl
  row_is (suc n) column row x y e f =
      let next : ((x +ℤ pos 1) -ℤ area.x) +ℤ tx ≡ pos (column + 1) = omega (arith, ints, e) in
      (λ i. is_opaque (texel block (nat_abs (e i)) (nat_abs (f i))) && row_is n (column + 1) row (x +ℤ pos 1) y next f i)

  rows_are : (n w column row : ℕ) (x y : ℤ) → (x -ℤ area.x) +ℤ tx ≡ pos column → (y -ℤ area.y) +ℤ ty ≡ pos row
      → list_all (λ p. is_opaque (laid_texel area block tx ty p)) (rows_from n w x y) ≡ are_opaque_rows block n w column row
  unfolding are_opaque_rows
  rows_are zero w column row x y e f = refl
  rows_are (suc n) w column row x y e f =
      let next : ((y +ℤ pos 1) -ℤ area.y) +ℤ ty ≡ pos (row + 1) = omega (arith, ints, f) in
      list_all-append (λ p. is_opaque (laid_texel area block tx ty p)) (row_points w x y) (rows_from n w x (y +ℤ pos 1))
      ∙ (λ i. row_is w column row x y e f i && rows_are n w column (row + 1) x (y +ℤ pos 1) e next i)

  -- the texels are those of the rows from the first one on
  pub blit_is : (column row : ℕ) → tx ≡ pos column → ty ≡ pos row
      → is_opaque_blit area block tx ty ≡ are_opaque_rows block (nat_abs area.h) (nat_abs area.w) column row
  unfolding is_opaque_blit points_in
  blit_is column row e f =
      rows_are (nat_abs area.h) (nat_abs area.w) column row area.x area.y (omega (arith, ints, e)) (omega (arith, ints, f))

none_in_row : (f : _) (n : ℕ) (x y : ℤ) → list_all f (rows_from n 0 x y) ≡ true
none_in_row f zero x y = refl
none_in_row f (suc n) x y = none_in_row f n x (y +ℤ pos 1)

-- without points all are
pub none_is : (area : Rectangle) (block : Block) (tx ty : ℤ) → IsRectangle area → is_empty_rect area ≡ true → is_opaque_blit area block tx ty ≡ true
unfolding is_opaque_blit points_in
none_is area block tx ty is empty =
    by_or {P = list_all (λ p. is_opaque (laid_texel area block tx ty p)) (rows_from (nat_abs area.h) (nat_abs area.w) area.x area.y) ≡ true}
    (int_lt area.w (pos 1)) (int_lt area.h (pos 1)) empty
    (λ e. ap (λ n. list_all (λ p. is_opaque (laid_texel area block tx ty p)) (rows_from (nat_abs area.h) n area.x area.y)) (none_of area.w e is.wide)
    ∙ none_in_row (λ p. is_opaque (laid_texel area block tx ty p)) (nat_abs area.h) area.x area.y)
    (λ e. ap (λ n. list_all (λ p. is_opaque (laid_texel area block tx ty p)) (rows_from n (nat_abs area.w) area.x area.y)) (none_of area.h e is.high))
  where
    none_of : (z : ℤ) → int_lt z (pos 1) ≡ true → pos 0 ≤ℤ z → nat_abs z ≡ 0
    none_of z e low = let h = lt_true z (pos 1) e in omega (arith, ints, h, low)

    by_or : {P : Type 0} (a b : Bool) → (a || b) ≡ true → (a ≡ true → P) → (b ≡ true → P) → P
    by_or true b h f g = f refl
    by_or false b h f g = g h

-- where the first texel is, and that all are inside
pub record IsWithin (area : Rectangle) (block : Block) (tx ty : ℤ) : Type 0 where
  pub left : pos 0 ≤ℤ tx
  pub top : pos 0 ≤ℤ ty
  pub right : (tx +ℤ area.w) ≤ℤ pos block.w
  pub bottom : (ty +ℤ area.h) ≤ℤ pos block.h

pub within : (area : Rectangle) (block : Block) (tx ty : ℤ) (o : ℕ) (m : _) → is_empty_rect area ≡ false → is_inside (Blit area block tx ty o m) ≡ true → IsWithin area block tx ty
unfolding is_inside
within area block tx ty o m full h =
    let parts = and_parts (is_span_inside tx area.w block.w) (is_span_inside ty area.h block.h) (by_test (is_empty_rect area) full h) in
    let x = and_parts (int_le (pos 0) tx) (int_le (tx +ℤ area.w) (pos block.w)) parts.0 in
    let y = and_parts (int_le (pos 0) ty) (int_le (ty +ℤ area.h) (pos block.h)) parts.1 in
    record { left = le_true _ _ x.0; top = le_true _ _ y.0; right = le_true _ _ x.1; bottom = le_true _ _ y.1 }
  where
    by_test : {u : Bool} (t : Bool) → t ≡ false → (t || u) ≡ true → u ≡ true
    by_test true e h = absurd (cc)
    by_test false e h = h

-- The first of so many

first_texel : (block : Block) (n m column row : ℕ) → n ≡ m + 1 → is_opaque_row block n column row ≡ (is_opaque (texel block column row) && is_opaque_row block m (column + 1) row)
unfolding is_opaque_row
first_texel block zero m column row e = absurd (omega (arith, e))
first_texel block (suc n) m column row e = let f : n ≡ m = omega (arith, e) in ap (λ k. is_opaque (texel block column row) && is_opaque_row block k (column + 1) row) f

first_row : (block : Block) (n m w column row : ℕ) → n ≡ m + 1 → are_opaque_rows block n w column row ≡ (is_opaque_row block w column row && are_opaque_rows block m w column (row + 1))
unfolding are_opaque_rows
first_row block zero m w column row e = absurd (omega (arith, e))
first_row block (suc n) m w column row e = let f : n ≡ m = omega (arith, e) in ap (λ k. is_opaque_row block w column row && are_opaque_rows block k w column (row + 1)) f

-- after k texels of a row, and after one more
pub next_texel : (block : Block) (n k column row : ℕ) (t : Bool) → k < n → is_opaque (texel block (column + k) row) ≡ true
    → t ≡ is_opaque_row block (n - k) (column + k) row → t ≡ is_opaque_row block (n - (k + 1)) (column + (k + 1)) row
next_texel block n k column row t low opaque is =
    let less : n - k ≡ (n - (k + 1)) + 1 = omega (arith, low) in
    let right : (column + k) + 1 ≡ column + (k + 1) = omega arith in
    is ∙ (first_texel block (n - k) (n - (k + 1)) (column + k) row less
    ∙ (λ i. opaque i && is_opaque_row block (n - (k + 1)) (right i) row))

pub clear_texel : (block : Block) (n k column row : ℕ) (t : Bool) → k < n → is_opaque (texel block (column + k) row) ≡ false
    → t ≡ is_opaque_row block (n - k) (column + k) row → t ≡ false
clear_texel block n k column row t low clear is =
    let less : n - k ≡ (n - (k + 1)) + 1 = omega (arith, low) in
    is ∙ (first_texel block (n - k) (n - (k + 1)) (column + k) row less
    ∙ ap (λ h. h && is_opaque_row block (n - (k + 1)) ((column + k) + 1) row) clear)

pub no_texel : (block : Block) (n column row : ℕ) (t : Bool) (k : ℕ) → n ≤ k → t ≡ is_opaque_row block (n - k) (column + k) row → t ≡ true
unfolding is_opaque_row
no_texel block n column row t k most is =
    let none : n - k ≡ 0 = omega (arith, most) in is ∙ ap (λ m. is_opaque_row block m (column + k) row) none

-- and of rows
pub next_row : (block : Block) (n k w column row : ℕ) (t : Bool) → k < n → is_opaque_row block w column (row + k) ≡ true
    → t ≡ are_opaque_rows block (n - k) w column (row + k) → t ≡ are_opaque_rows block (n - (k + 1)) w column (row + (k + 1))
next_row block n k w column row t low opaque is =
    let less : n - k ≡ (n - (k + 1)) + 1 = omega (arith, low) in
    let down : (row + k) + 1 ≡ row + (k + 1) = omega arith in
    is ∙ (first_row block (n - k) (n - (k + 1)) w column (row + k) less
    ∙ (λ i. opaque i && are_opaque_rows block (n - (k + 1)) w column (down i)))

pub clear_row : (block : Block) (n k w column row : ℕ) (t : Bool) → k < n → is_opaque_row block w column (row + k) ≡ false
    → t ≡ are_opaque_rows block (n - k) w column (row + k) → t ≡ false
clear_row block n k w column row t low clear is =
    let less : n - k ≡ (n - (k + 1)) + 1 = omega (arith, low) in
    is ∙ (first_row block (n - k) (n - (k + 1)) w column (row + k) less
    ∙ ap (λ h. h && are_opaque_rows block (n - (k + 1)) w column ((row + k) + 1)) clear)

pub no_row : (block : Block) (n w column row : ℕ) (t : Bool) (k : ℕ) → n ≤ k → t ≡ are_opaque_rows block (n - k) w column (row + k) → t ≡ true
unfolding are_opaque_rows
no_row block n w column row t k most is =
    let none : n - k ≡ 0 = omega (arith, most) in is ∙ ap (λ m. are_opaque_rows block m w column (row + k)) none

-- the test of an alpha that was read
pub is_255 : (n : ℕ) (read c : Colour) → n ≡ read.a → read ≡ c → n ≡ 255 → is_opaque c ≡ true
is_255 n read c e f g = eq-eqb c.a 255 (sym (ap (λ (d : Colour). d.a) f) ∙ (sym e ∙ g))

pub not_255 : (n : ℕ) (read c : Colour) → n ≡ read.a → read ≡ c → (n ≡ 255 → ⊥) → is_opaque c ≡ false
not_255 n read c e f g = by_test (c.a == 255) refl
  where
    by_test : (t : Bool) → (c.a == 255) ≡ t → t ≡ false
    by_test true h = absurd (g (e ∙ (ap (λ (d : Colour). d.a) f ∙ eqb-true c.a 255 h)))
    by_test false h = refl

-- Numbers of the code

-- a small number that is passed on is read as it is
pub as_it_is : (z x : ℤ) → z ≡ x → pos 0 ≤ℤ x → x ≤ℤ pos 256 → to_z w32 (of_z w32 z) ≡ x
as_it_is z x e low high = omega (arith, ints, e, low, high)

-- the four numbers of a Blit as they are passed on
pub record AreRead (area : Rectangle) (tx ty w h : ℤ) : Type 0 where
  pub column : to_z w32 (of_z w32 tx) ≡ tx
  pub row : to_z w32 (of_z w32 ty) ≡ ty
  pub wide : to_z w32 (of_z w32 w) ≡ area.w
  pub high : to_z w32 (of_z w32 h) ≡ area.h

pub are_read : (area : Rectangle) (block : Block) (tx ty w h : ℤ) → IsWithin area block tx ty → IsFull area → w ≡ area.w → h ≡ area.h
    → block.w ≤ 256 → block.h ≤ 256 → AreRead area tx ty w h
are_read area block tx ty w h in_block full e f low_w low_h =
    let a = in_block.left in
    let b = in_block.top in
    let c = in_block.right in
    let d = in_block.bottom in
    let g = full.wide in
    let k = full.high in
    record {
      column = as_it_is tx tx refl a (omega (arith, ints, a, c, g, low_w));
      row = as_it_is ty ty refl b (omega (arith, ints, b, d, k, low_h));
      wide = as_it_is w area.w e (omega (arith, ints, g)) (omega (arith, ints, a, c, low_w));
      high = as_it_is h area.h f (omega (arith, ints, k)) (omega (arith, ints, b, d, low_h));
    }

pub rows_read : (area : Rectangle) (block : Block) (tx ty a b d f : ℤ) → a ≡ area.h → b ≡ area.w → d ≡ tx → f ≡ ty → pos 0 ≤ℤ tx → pos 0 ≤ℤ ty
    → are_opaque_rows block (nat_abs a) (nat_abs b) (nat_abs d) (nat_abs f) ≡ is_opaque_blit area block tx ty
rows_read area block tx ty a b d f ea eb ed ef left top =
    (λ i. are_opaque_rows block (nat_abs (ea i)) (nat_abs (eb i)) (nat_abs (ed i)) (nat_abs (ef i)))
    ∙ sym (blit_is area block tx ty (nat_abs tx) (nat_abs ty) (omega (arith, ints, left)) (omega (arith, ints, top)))

pub span_read : (a b x w : ℤ) (side : ℕ) → a ≡ x → b ≡ w → pos 0 ≤ℤ x → pos 1 ≤ℤ w → (x +ℤ w) ≤ℤ pos side → nat_abs a + nat_abs b ≤ side
span_read a b x w side e f left wide right = omega (arith, ints, e, f, left, wide, right)

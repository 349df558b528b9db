-- The texels of a block at the places of a row.
use Rattle.std.proofs.Common.{◌≡◌, ℕ, ◌+◌, ◌-◌, ◌*◌, ◌≤◌, ◌<◌, pos, ◌+ℤ◌, ◌-ℤ◌, ◌≤ℤ◌, ◌<ℤ◌, true, ◌&&◌, ◌||◌, length, take, drop, get_or, sym, ap, ◌∙◌, Some, arith}
use Rattle.std.specs.Prelude.{int_le, nat_le, nat_lt}
use Rattle.std.proofs.{lemmas.Int.ints, Math.Nat.mul-le-mul_right, lemmas.List.get_or-take, lemmas.List.get_or-drop}
use Rattle.std.proofs.{lemmas.Bool.and_parts, lemmas.Bool.lt-ltb, lemmas.Bool.le-leb, lemmas.Bool.and_from as both, lemmas.Bool.Decides.nat_tests}
use Rattle.vz_geom.specs.declared.Point.{Point}
use Rattle.vz_geom.specs.Rectangle.{Rectangle, has, plus, minus, corner}
use Rattle.vz_geom.proofs.{Sets.to_in, Sets.le_true, Bounds.in_is_full}
use Rattle.vz_pixels.specs.{Colour.transparent, Block.Block, Block.texel}
use Rattle.vz_frame.specs.declared.blend.Blend.{Blend}
use Rattle.vz_rules.specs.Paint.{texel_of}
use Rattle.vz_flat.specs.{declared.op.Op.TheVariants.Blit, Ops.is_inside, Ops.is_span_inside}
use Rattle.vz_paint.specs.Row.{right_of}

-- the places of a row are in the area, and its texels in the block
pub record FitsBlock (area : Rectangle) (block : Block) (first start : Point) (from to : ℕ) : Type 0 where
  pub some : from < to
  pub left : area.x ≤ℤ (start.x +ℤ pos from)
  pub right : (start.x +ℤ pos to) ≤ℤ (area.x +ℤ area.w)
  pub top : area.y ≤ℤ start.y
  pub bottom : start.y <ℤ (area.y +ℤ area.h)
  pub column : pos 0 ≤ℤ first.x
  pub columns : (first.x +ℤ area.w) ≤ℤ pos block.w
  pub row : pos 0 ≤ℤ first.y
  pub rows : (first.y +ℤ area.h) ≤ℤ pos block.h

pub fits_block : (area : Rectangle) (block : Block) (first start : Point) (o : ℕ) (m : Blend) (count from to : ℕ) → from < to → to ≤ count
    → ((i : ℕ) → i < count → has area (right_of start i) ≡ (nat_le from i && nat_lt i to)) → is_inside (Blit area block first.x first.y o m) ≡ true → FitsBlock area block first start from to
unfolding is_inside
fits_block area block first start o m count from to some most exact inside =
    let one : has area (right_of start from) ≡ true =
    exact from (omega (arith, some, most)) ∙ both (nat_le from from) (nat_lt from to) (le-leb from from (omega arith)) (lt-ltb from to some)
    in
    let last : has area (right_of start (to - 1)) ≡ true =
    exact (to - 1) (omega (arith, some, most)) ∙ both (nat_le from (to - 1)) (nat_lt (to - 1) to) (le-leb from (to - 1) (omega (arith, some))) (lt-ltb (to - 1) to (omega (arith, some)))
    in
    let i = to_in area (right_of start from) one in
    let j = to_in area (right_of start (to - 1)) last in
    let far = j.right in
    let all : (is_span_inside first.x area.w block.w && is_span_inside first.y area.h block.h) ≡ true =
    ap (λ t. t || (is_span_inside first.x area.w block.w && is_span_inside first.y area.h block.h)) (sym (in_is_full area (right_of start from) one)) ∙ inside
    in
    let parts = and_parts (is_span_inside first.x area.w block.w) (is_span_inside first.y area.h block.h) all in
    let across = and_parts (int_le (pos 0) first.x) (int_le (first.x +ℤ area.w) (pos block.w)) parts.0 in
    let down = and_parts (int_le (pos 0) first.y) (int_le (first.y +ℤ area.h) (pos block.h)) parts.1 in
    record {
      some = some;
      left = i.left;
      right = omega (arith, ints, far, some);
      top = i.top;
      bottom = i.bottom;
      column = le_true (pos 0) first.x across.0;
      columns = le_true (first.x +ℤ area.w) (pos block.w) across.1;
      row = le_true (pos 0) first.y down.0;
      rows = le_true (first.y +ℤ area.h) (pos block.h) down.1;
    }

pub columns_fit : (area : Rectangle) (block : Block) (first start p : Point) (from to : ℕ) → FitsBlock area block first start from to → p ≡ right_of start from → ((p.x -ℤ area.x) +ℤ first.x) <ℤ pos block.w
columns_fit area block first start p from to is at = grind (arith, nat_tests, ints)

pub rows_fit : (area : Rectangle) (block : Block) (first start p : Point) (from to : ℕ) → FitsBlock area block first start from to → p ≡ right_of start from → ((p.y -ℤ area.y) +ℤ first.y) <ℤ pos block.h
rows_fit area block first start p from to is at = grind (arith, nat_tests, ints)

pub across : (area : Rectangle) (block : Block) (first start p : Point) (from to column : ℕ) → FitsBlock area block first start from to → p ≡ right_of start from → pos column ≡ (p.x -ℤ area.x) +ℤ first.x
    → column + (to - from) ≤ block.w
across area block first start p from to column is at same = grind (arith, nat_tests, ints)

-- each place has its texel
pub texel_same : (area : Rectangle) (block : Block) (first start p : Point) (from to column row : ℕ) → FitsBlock area block first start from to → p ≡ right_of start from
    → pos column ≡ (p.x -ℤ area.x) +ℤ first.x → pos row ≡ (p.y -ℤ area.y) +ℤ first.y
    → (i : ℕ) → from ≤ i → i < to
    → get_or (take (to - from) (drop (row * block.w + column) block.pixels)) (i - from) transparent ≡ texel_of (Some block) (plus (minus (right_of start i) (corner area)) first)
unfolding texel
texel_same area block first start p from to column row is at is_column is_row i least less = grind (arith, nat_tests, ints, get_or-take, get_or-drop, lt-ltb)

-- the texels of a part of a row are in the block's list
pub listed : (block : Block) (column row n : ℕ) → length block.pixels ≡ block.w * block.h → column + n ≤ block.w → row < block.h → row * block.w + column + n ≤ length block.pixels
listed block column row n long low down = grind (arith, nat_tests, mul-le-mul_right)

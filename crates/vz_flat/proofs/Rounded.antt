-- The parts of a rectangle round one that lies in it.
use Rattle.std.proofs.Common.{◌≡◌, ℕ, ◌<◌, ℤ, pos, ◌+ℤ◌, ◌-ℤ◌, ◌≤ℤ◌, false, arith, to_z, of_z, w32}
use Rattle.std.proofs.{lemmas.Int.ints, lemmas.Bool.Decides.nat_tests}
use Rattle.vz_geom.specs.Rectangle.{Rectangle, IsRectangle, is_empty_rect, Covers, moved, sized}
use Rattle.vz_geom.proofs.Bounds.{of_full, inside_of, meet_is_covered}
use Rattle.vz_frame.specs.Frame.{frame_size}
use Rattle.vz_rules.specs.{World.FrameData, Walk.Placement}
use Rattle.vz_flat.specs.{Parts.surface_place, Gutters.LiesIn}
pub use Rattle.vz_geom.proofs.Algebra.{same_sides}

-- the bounds of a rectangle's numbers
pub record RectangleFacts (r : Rectangle) : Type 0 where
  pub left : (pos 0 -ℤ pos 536870912) ≤ℤ r.x
  pub top : (pos 0 -ℤ pos 536870912) ≤ℤ r.y
  pub right : (r.x +ℤ r.w) ≤ℤ pos 536870912
  pub bottom : (r.y +ℤ r.h) ≤ℤ pos 536870912
  pub wide : pos 0 ≤ℤ r.w
  pub high : pos 0 ≤ℤ r.h

pub facts_of : (r : Rectangle) → IsRectangle r → RectangleFacts r
facts_of r is = grind (arith, nat_tests)

pub lies_in : (outer inner : Rectangle) → Covers outer inner → is_empty_rect inner ≡ false → IsRectangle outer → IsRectangle inner
    → LiesIn outer inner
lies_in outer inner covers some o i = grind (arith, nat_tests, inside_of outer inner (of_full inner some) covers, of_full inner some)

-- a number less another and a third one, each read as it is
pub read_along : (a b n : ℤ) (x y : ℤ) (t : ℕ) → a ≡ x → b ≡ y → n ≡ pos t → (pos 0 -ℤ pos 536870912) ≤ℤ x → x ≤ℤ pos 536870912
    → (pos 0 -ℤ pos 536870912) ≤ℤ y → y ≤ℤ pos 536870912 → t < 65536
    → to_z w32 (of_z w32 (to_z w32 (of_z w32 (to_z w32 (of_z w32 a) -ℤ to_z w32 (of_z w32 b))) +ℤ to_z w32 (of_z w32 n))) ≡ (x -ℤ y) +ℤ pos t
read_along a b n x y t ea eb en al ah bl bh small =
    let ra : to_z w32 (of_z w32 a) ≡ x = omega (arith, ints, ea, al, ah) in
    let rb : to_z w32 (of_z w32 b) ≡ y = omega (arith, ints, eb, bl, bh) in
    let rn : to_z w32 (of_z w32 n) ≡ pos t = omega (arith, ints, en, small) in
    let inner : to_z w32 (of_z w32 (to_z w32 (of_z w32 a) -ℤ to_z w32 (of_z w32 b))) ≡ x -ℤ y = omega
    (arith, ints, ra, rb, al, ah, bl, bh) in
    omega (arith, ints, inner, rn, small, al, ah, bl, bh)

-- a surface's part lies in the window of its place
pub gutter_covers : (i : FrameData) (place inner : Placement) (r s : Rectangle) → inner ≡ surface_place i place → r ≡ place.window
    → s ≡ inner.window → Covers r s
gutter_covers i place inner r s e f g = rw (f, g, e) (meet_is_covered place.window (moved (sized (frame_size i.frame)) place.shift)).0

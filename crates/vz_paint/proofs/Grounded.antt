-- The colour on which an area is painted.
use Rattle.std.proofs.Common.{◌≡◌, ℕ, true, List, drop, ap, ◌∙◌, arith}
use Rattle.vz_geom.specs.{declared.Point.Point, Rectangle.Rectangle, Rectangle.has, Rectangle.Covers}
use Rattle.vz_pixels.specs.Colour.{Colour, black, scale, over}
use Rattle.vz_frame.specs.{declared.blend.Blend.Blend, Blending.blend, Blending.laid}
use Rattle.vz_frame.specs.declared.blend.Blend.TheVariants.{Over, Src, DstIn}
use Rattle.vz_flat.specs.{declared.op.Op.Op, declared.op.Op.TheVariants.Fill}
use Rattle.vz_flat.specs.Ops.{run, value, is_nested, is_inside, is_whole, deepest}
use Rattle.vz_paint.specs.Ground.{IsGround}
use Rattle.vz_paint.proofs.Banded.{StandsOn}
use Rattle.std.proofs.lemmas.Bool.Decides.{nat_tests}

-- a colour on opaque black

pub over_black : (mode : Blend) (c : Colour) (o : ℕ) (own now : Colour) → mode ≡ Over → own ≡ scale c o → now ≡ over own black → now ≡ laid mode c o black
unfolding laid blend
over_black mode c o own now is by e = rw is (e ∙ ap (λ s. over s black) by)

pub src_black : (mode : Blend) (c : Colour) (o : ℕ) (own : Colour) → mode ≡ Src → own ≡ scale c o → own ≡ laid mode c o black
unfolding laid blend
src_black mode c o own is by = rw is by

pub dst_in_black : (mode : Blend) (c : Colour) (o : ℕ) (own now : Colour) → mode ≡ DstIn → own ≡ scale c o → now ≡ scale black own.a → now ≡ laid mode c o black
unfolding laid blend
dst_in_black mode c o own now is by e = rw is (e ∙ ap (λ (s : Colour). scale black s.a) by)

-- one colour on all of a part
pub filled_ground : (part : Rectangle) (op : Op) (area : Rectangle) (c : Colour) (o : ℕ) (m : _) (now : Colour) → op ≡ Fill area c o m → Covers area part → now ≡ laid m c o black → IsGround part op now
unfolding value run is_whole is_nested is_inside deepest
filled_ground part op area c o m now is covers e = grind (arith, nat_tests)

pub stands : (area : Rectangle) (chosen rest : List Op) (ground : Colour) (n : ℕ) → ((p : Point) → has area p ≡ true → value (drop n chosen) p ground ≡ value chosen p black)
    → is_whole (drop n chosen) ≡ is_whole chosen → deepest 0 (drop n chosen) ≡ deepest 0 chosen → rest ≡ drop n chosen → StandsOn area chosen rest ground
stands area chosen rest ground n same whole deep is = grind (arith, nat_tests)

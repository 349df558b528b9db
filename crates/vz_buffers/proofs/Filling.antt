-- Painting the rows of an area into the pixels of a display.
use Rattle.std.proofs.Common.{◌≡◌, ℕ, ◌+◌, ◌*◌, nat_abs, List, ◌++◌, length, refl, ap, sym, subst, arith}
use Rattle.vz_geom.specs.Rectangle.{Rectangle}
use Rattle.vz_pixels.specs.Colour.{Colour}
use Rattle.vz_buffers.specs.declared.bands.Place.{Place}
use Rattle.vz_buffers.specs.Canvas.{Canvas, IsCanvas}
use Rattle.vz_buffers.specs.Bands.{Strip, MayPaint, ArePainted, MayFill, IsFilled, MayPut}
use Rattle.vz_buffers.proofs.Banding.{within_painted, moved_painters, area_fits}

module _ {P : Type 0} (able : P → Type 0) (strip : P → Strip) (place : Place) (count : ℕ) (painters : List P) (pixels : List Colour) where
  -- painters that may paint them may paint the pixels of these rows
  pub may_paint : (rows : List Colour) → MayFill able strip place count painters pixels → length rows ≡ count * place.width → MayPaint able strip place.width place.left place.wide 0 count painters rows
  may_paint rows may long =
      let few = may.few in
      record {
        some = may.some;
        ready = moved_painters able strip place.width place.left place.wide count place.width place.left place.wide (0 + count) painters refl refl refl (omega arith) may.ready;
        small = may.small;
        few = omega (arith, few);
        counted = long;
      }

  -- and then the area is painted
  pub filled : (front below rows rest painted : List Colour) → MayFill able strip place count painters pixels → pixels ≡ front ++ below → length front ≡ place.top * place.width → below ≡ rows ++ rest → length rows ≡ count * place.width
      → ArePainted strip place.width place.left 0 count painters rows painted → IsFilled strip place count painters pixels (front ++ (painted ++ rest))
  filled front below rows rest painted may cut long again high done = λ s same.
      within_painted able strip place.width place.left place.wide (place.top * place.width) count painters pixels front below rows rest painted s may.some may.ready same cut long again high done

  -- painters that may put an area into a buffer may paint it where it stands
  pub may_fill : (own c : Canvas) (area : Rectangle) → own ≡ c → IsCanvas own → MayPut able strip c.size area painters → place.width ≡ nat_abs own.size.w → place.left ≡ nat_abs area.x → place.top ≡ nat_abs area.y → place.wide ≡ nat_abs area.w
      → count ≡ nat_abs area.h → pixels ≡ own.pixels → MayFill able strip place count painters pixels
  may_fill own c area same is may width left top wide high now =
      let put : MayPut able strip own.size area painters = subst (λ (k : Canvas). MayPut able strip k.size area painters) (sym same) may in
      let fits = area_fits own area.y area.h place.top count place.width is put.top put.high put.bottom top high width in
      let inside = fits.1 in
      let long = ap length now in
      record {
        some = put.some;
        ready = moved_painters able strip (nat_abs own.size.w) (nat_abs area.x) (nat_abs area.w) (nat_abs area.h) place.width place.left place.wide count painters width left wide high put.ready;
        small = fits.2;
        few = fits.0;
        inside = omega (arith, inside, long);
      }

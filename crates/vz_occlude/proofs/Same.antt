-- What is kept makes the same of every colour.
use Rattle.std.proofs.Common.{◌≡◌, Bool, true, false, refl, ap, ◌∙◌, cond}
use Rattle.vz_geom.specs.{declared.Point.Point, Rectangle.Rectangle, Rectangle.has}
use Rattle.vz_pixels.specs.Colour.{Colour, transparent}
use Rattle.vz_frame.specs.Blending.{laid}
use Rattle.vz_occlude.specs.Items.{Items, Done, Filled, Blitted, Grouped}
use Rattle.vz_occlude.specs.{Occluders.laid_texel, Occlusion.is_occluded, Occlusion.kept_items}
use Rattle.vz_occlude.proofs.{Acted.acted, Occluded.occluded_covered}

-- an item before later ones: removed where it is occluded, and else kept
module _ (p : Point) (area : Rectangle) (later : Items) (d made : Colour)
    (same : (e : Colour) → acted p (kept_items later) e ≡ acted p later e) where
  occluded_goes : is_occluded area later ≡ true → acted p later d ≡ acted p later (cond (has area p) made d)
  occluded_goes h = by_test (has area p) (occluded_covered p area later h)
    where
      by_test : (t : Bool) → (t ≡ true → (e f : Colour) → acted p later e ≡ acted p later f) → acted p later d ≡ acted p later (cond t made d)
      by_test true all = all refl d made
      by_test false all = refl

  goes_or_stays : (kept : Items) → acted p kept d ≡ acted p later (cond (has area p) made d)
      → acted p (cond (is_occluded area later) (kept_items later) kept) d ≡ acted p later (cond (has area p) made d)
  goes_or_stays kept stays = by_test (is_occluded area later) occluded_goes
    where
      by_test : (t : Bool) → (t ≡ true → acted p later d ≡ acted p later (cond (has area p) made d))
          → acted p (cond t (kept_items later) kept) d ≡ acted p later (cond (has area p) made d)
      by_test true goes = same d ∙ goes refl
      by_test false goes = stays

pub kept_same : (p : Point) (items : Items) (d : Colour) → acted p (kept_items items) d ≡ acted p items d
unfolding acted kept_items
kept_same p Done d = refl
kept_same p (Filled area c o m later) d =
    goes_or_stays p area later d (laid m c o d) (kept_same p later) (Filled area c o m (kept_items later))
    (kept_same p later (cond (has area p) (laid m c o d) d))
kept_same p (Blitted area block tx ty o m later) d =
    goes_or_stays p area later d (laid m (laid_texel area block tx ty p) o d) (kept_same p later) (Blitted area block tx ty o m (kept_items later))
    (kept_same p later (cond (has area p) (laid m (laid_texel area block tx ty p) o d) d))
kept_same p (Grouped area o m inner later) d =
    goes_or_stays p area later d (laid m (acted p inner transparent) o d) (kept_same p later) (Grouped area o m (kept_items inner) (kept_items later))
    (kept_same p later (cond (has area p) (laid m (acted p (kept_items inner) transparent) o d) d)
    ∙ ap (λ g. acted p later (cond (has area p) (laid m g o d) d)) (kept_same p inner transparent))

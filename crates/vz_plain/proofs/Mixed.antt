-- What the kernels leave in a row, place by place.
use Rattle.std.proofs.Common.{◌≡◌, ℕ, ◌+◌, ◌<◌, List, length, get_or, map, replicate, sym, ap, ◌∙◌, arith}
use Rattle.std.proofs.lemmas.List.{get_or-map, length-map, get_or-replicate, length-replicate, get_or_past}
use Rattle.std.proofs.lemmas.Simd.{get_or-zip2, length-zip2}
use lib.Lanes.{zip2}
use Rattle.vz_pixels.specs.Colour.{Colour, transparent, scale}
use Rattle.vz_frame.specs.declared.blend.Blend.{Blend}
use Rattle.vz_frame.specs.declared.blend.Blend.TheVariants.{Over, Src, DstIn}
use Rattle.vz_frame.specs.Blending.{blend, laid}
use Rattle.vz_kernel.specs.Rows.{laid_over, scaled, kept_in, tinted, faded}

-- a row is changed, each place by a change of its own
pub record IsChanged (f : ℕ → Colour → Colour) (old now : List Colour) : Type 0 where
  pub long : length now ≡ length old
  pub each : (i : ℕ) → i < length old → get_or now i transparent ≡ f i (get_or old i transparent)

by_map : (f : Colour → Colour) (old now : List Colour) → now ≡ map f old → IsChanged (λ _ d. f d) old now
by_map f old now is =
    record {
      long = ap length is ∙ length-map old f;
      each = λ i low. ap (λ l. get_or l i transparent) is ∙ get_or-map f old i transparent transparent low;
    }

by_zip : (f : Colour → Colour → Colour) (source old now : List Colour) → length old ≡ length source → now ≡ zip2 f source old → IsChanged (λ i d. f (get_or source i transparent) d) old now
by_zip f source old now all is =
    record {
      long = ap length is ∙ (length-zip2 f source old (sym all) ∙ sym all);
      each = λ i low.
          ap (λ l. get_or l i transparent) is
          ∙ get_or-zip2 f source old i transparent transparent transparent (omega (arith, low, all)) low;
    }

-- One colour

pub tint_over : (mode : Blend) (c : Colour) (old now : List Colour) → mode ≡ Over → now ≡ tinted c old → IsChanged (λ _ d. blend mode c d) old now
unfolding tinted blend
tint_over mode c old now is e = rw is (by_map (blend Over c) old now e)

pub tint_src : (mode : Blend) (c : Colour) (old now : List Colour) → mode ≡ Src → now ≡ replicate (length old) c → IsChanged (λ _ d. blend mode c d) old now
unfolding blend
tint_src mode c old now is e =
    rw is (record {
      long = ap length e ∙ length-replicate (length old) c;
      each = λ i low. ap (λ l. get_or l i transparent) e ∙ get_or-replicate (length old) i c transparent low;
    })

pub tint_dst_in : (mode : Blend) (c : Colour) (old now : List Colour) → mode ≡ DstIn → now ≡ faded c old → IsChanged (λ _ d. blend mode c d) old now
unfolding faded blend
tint_dst_in mode c old now is e = rw is (by_map (blend DstIn c) old now e)

-- Another row

pub mix_over : (mode : Blend) (o : ℕ) (source old now : List Colour) → length old ≡ length source → mode ≡ Over → now ≡ laid_over source o old
    → IsChanged (λ i d. laid mode (get_or source i transparent) o d) old now
unfolding laid_over laid blend
mix_over mode o source old now all is e = rw is (by_zip (λ s d. laid Over s o d) source old now all e)

pub mix_src : (mode : Blend) (o : ℕ) (source old now : List Colour) → length old ≡ length source → mode ≡ Src → now ≡ scaled source o
    → IsChanged (λ i d. laid mode (get_or source i transparent) o d) old now
unfolding scaled laid blend
mix_src mode o source old now all is e =
    rw is (record {
      long = ap length e ∙ (length-map source (λ c. scale c o) ∙ sym all);
      each = λ i low. ap (λ l. get_or l i transparent) e ∙ get_or-map (λ c. scale c o) source i transparent transparent (omega (arith, low, all));
    })

pub mix_dst_in : (mode : Blend) (o : ℕ) (source old now : List Colour) → length old ≡ length source → mode ≡ DstIn → now ≡ kept_in source o old
    → IsChanged (λ i d. laid mode (get_or source i transparent) o d) old now
unfolding kept_in laid blend
mix_dst_in mode o source old now all is e = rw is (by_zip (λ s d. laid DstIn s o d) source old now all e)

-- what is laid after a row's end is transparent
pub laid_past : (mode : Blend) (o : ℕ) (source : List Colour) (c d v : Colour) (k : ℕ) → c ≡ transparent → v ≡ laid mode c o d → v ≡ laid mode (get_or source (length source + k) transparent) o d
laid_past mode o source c d v k clear is = is ∙ ap (λ s. laid mode s o d) (clear ∙ sym (get_or_past source (length source + k) transparent (omega arith)))

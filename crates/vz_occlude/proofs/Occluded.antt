-- What stands behind a covering item is not seen in its area.
use Rattle.std.proofs.Common.{◌≡◌, ℕ, Bool, true, false, ◌||◌, ◌==◌, List, [], ◌∷◌, ◌++◌, take, drop, refl, eq-eqb, ap, sym, ◌∙◌, cond}
use Rattle.std.specs.List.{list_any, Any}
use Rattle.std.proofs.{lemmas.Bool.and_parts, lemmas.Bool.eqb-true, lemmas.List.take-append-drop}
use Rattle.std.proofs.lemmas.List.Folds.{list_any-append, Any-from_list_any, list_any-from_Any}
use Rattle.vz_geom.specs.declared.Point.{Point}
use Rattle.vz_geom.specs.Rectangle.{Rectangle, IsRectangle, has, Covers, covers_rect}
use Rattle.vz_geom.proofs.Bounds.{covers_of_test, test_of_covers}
use Rattle.vz_pixels.specs.Colour.{Colour, transparent, scale, over}
use Rattle.vz_pixels.proofs.Over.{scale_full, opaque_hides}
use Rattle.vz_frame.specs.{declared.blend.Blend.Blend, Blending.blend, Blending.laid}
use Rattle.vz_frame.specs.declared.blend.Blend.TheVariants.{Over, Src, DstIn}
use Rattle.vz_occlude.specs.{declared.bound.TheConstants.MOST_OCCLUDERS, Occlusion.is_occluded}
use Rattle.vz_occlude.specs.Items.{Items, Done, Filled, Blitted, Grouped}
use Rattle.vz_occlude.specs.Occluders.{is_opaque, laid_texel, is_opaque_blit, is_occluder, listed_if, occluders_of}
use Rattle.vz_occlude.proofs.{Acted.acted, Points_laid.each_point, Points_laid.all_points}

by_or : {P : Type 0} (a b : Bool) → (a || b) ≡ true → (a ≡ true → P) → (b ≡ true → P) → P
by_or true b h f g = f refl
by_or false b h f g = g h

or_first : (a b : Bool) → a ≡ true → (a || b) ≡ true
or_first a b h = rw h

or_second : (a b : Bool) → b ≡ true → (a || b) ≡ true
or_second true b h = refl
or_second false b h = h

-- a covering colour is the same on every colour
pub occluder_hides : (m : Blend) (o : ℕ) (t : Bool) (c : Colour) → is_occluder m o t ≡ true → (t ≡ true → is_opaque c ≡ true) → (d e : Colour) → laid m c o d ≡ laid m c o e
unfolding laid blend
occluder_hides Over o t c h opaque d e = on d ∙ sym (on e)
  where
    on : (d : Colour) → over (scale c o) d ≡ c
    on d =
        let parts = and_parts (o == 255) t h in
        let same : scale c o ≡ c = ap (scale c) (eqb-true o 255 parts.0) ∙ scale_full c in
        ap (λ s. over s d) same ∙ opaque_hides c d (eqb-true c.a 255 (opaque parts.1))
occluder_hides Src o t c h opaque d e = refl
occluder_hides DstIn o t c h opaque d e = absurd (cc)

abbrev has_point : Point → Rectangle → Bool
has_point p r = has r p

listed_has : (p : Point) (t : Bool) (area : Rectangle) → list_any (has_point p) (listed_if t area) ≡ true → (t ≡ true) × (has area p ≡ true)
listed_has p false area h = absurd (cc)
listed_has p true area h = (refl, only (has area p) h)
  where
    only : (t : Bool) → (t || false) ≡ true → t ≡ true
    only true h = refl
    only false h = absurd (cc)

-- the first item lays the same on every colour, or a later one does
module _ (p : Point) (area : Rectangle) (m : Blend) (o : ℕ) (c : Colour) (t : Bool) (later : Items)
    (opaque : has area p ≡ true → t ≡ true → is_opaque c ≡ true)
    (later_hides : list_any (has_point p) (occluders_of later) ≡ true → (d e : Colour) → acted p later d ≡ acted p later e) where
  first_or_later : list_any (has_point p) (occluders_of later ++ listed_if (is_occluder m o t) area) ≡ true
      → (d e : Colour) → acted p later (cond (has area p) (laid m c o d) d) ≡ acted p later (cond (has area p) (laid m c o e) e)
  first_or_later h d e =
      by_or {P = acted p later (cond (has area p) (laid m c o d) d) ≡ acted p later (cond (has area p) (laid m c o e) e)}
      (list_any (has_point p) (occluders_of later)) (list_any (has_point p) (listed_if (is_occluder m o t) area))
      (sym (list_any-append (has_point p) (occluders_of later) (listed_if (is_occluder m o t) area)) ∙ h)
      (λ f. later_hides f (cond (has area p) (laid m c o d) d) (cond (has area p) (laid m c o e) e))
      (λ f. let parts = listed_has p (is_occluder m o t) area f in
      ap (acted p later) (in_area (has area p) parts.1 (occluder_hides m o t c parts.0 (opaque parts.1) d e)))
    where
      in_area : (u : Bool) → u ≡ true → laid m c o d ≡ laid m c o e → cond u (laid m c o d) d ≡ cond u (laid m c o e) e
      in_area true is same = same
      in_area false is same = absurd (cc)

-- items one of which occluders the point make the same of all colours
pub covered : (p : Point) (items : Items) → list_any (has_point p) (occluders_of items) ≡ true → (d e : Colour) → acted p items d ≡ acted p items e
unfolding occluders_of acted is_opaque_blit
covered p Done h d e = absurd (cc)
covered p (Filled area c o m later) h d e =
    first_or_later p area m o c (is_opaque c) later (λ inside is. is) (covered p later) h d e
covered p (Blitted area block tx ty o m later) h d e =
    first_or_later p area m o (laid_texel area block tx ty p) (is_opaque_blit area block tx ty) later
    (λ inside is. each_point (λ q. is_opaque (laid_texel area block tx ty q)) p area is inside) (covered p later) h d e
covered p (Grouped area o m inner later) h d e =
    covered p later h (cond (has area p) (laid m (acted p inner transparent) o d) d) (cond (has area p) (laid m (acted p inner transparent) o e) e)

any_taken : (q : Rectangle → Bool) (n : ℕ) (rs : List Rectangle) → list_any q (take n rs) ≡ true → list_any q rs ≡ true
any_taken q n rs h =
    ap (list_any q) (sym (take-append-drop n rs))
    ∙ (list_any-append q (take n rs) (drop n rs) ∙ or_first (list_any q (take n rs)) (list_any q (drop n rs)) h)

any_weaker : (q s : Rectangle → Bool) → ((r : Rectangle) → q r ≡ true → s r ≡ true) → (rs : List Rectangle) → list_any q rs ≡ true → list_any s rs ≡ true
any_weaker q s f [] h = absurd (cc)
any_weaker q s f (r ∷ rs) h =
    by_or {P = (s r || list_any s rs) ≡ true} (q r) (list_any q rs) h
    (λ e. or_first (s r) (list_any s rs) (f r e)) (λ g. or_second (s r) (list_any s rs) (any_weaker q s f rs g))

-- what is occluded makes no difference: behind it all colours become the same in its area
pub occluded_covered : (p : Point) (area : Rectangle) (later : Items) → is_occluded area later ≡ true → has area p ≡ true
    → (d e : Colour) → acted p later d ≡ acted p later e
occluded_covered p area later h inside =
    covered p later
    (any_weaker (λ cover. covers_rect cover area) (has_point p) (λ r e. covers_of_test r area e p inside) (occluders_of later)
    (any_taken (λ cover. covers_rect cover area) MOST_OCCLUDERS (occluders_of later) h))

-- The definitions in other words

any_of : (P Q : Rectangle → Type 0) → ((r : Rectangle) → P r → Q r) → (rs : List Rectangle) → Any P rs → Any Q rs
any_of P Q f rs h = (h.0, h.1, h.2, h.3, f h.1 h.4)

pub occluded_by : (area : Rectangle) (later : Items) → is_occluded area later ≡ true → Any (λ cover. Covers cover area) (take MOST_OCCLUDERS (occluders_of later))
occluded_by area later h =
    any_of (λ cover. covers_rect cover area ≡ true) (λ cover. Covers cover area) (λ cover e. covers_of_test cover area e) (take MOST_OCCLUDERS (occluders_of later))
    (Any-from_list_any (λ cover. covers_rect cover area) (take MOST_OCCLUDERS (occluders_of later)) h)

pub by_occluded : (area : Rectangle) (later : Items) → Any (λ cover. Covers cover area) (take MOST_OCCLUDERS (occluders_of later)) → is_occluded area later ≡ true
by_occluded area later h =
    list_any-from_Any (λ cover. covers_rect cover area) (take MOST_OCCLUDERS (occluders_of later))
    (any_of (λ cover. Covers cover area) (λ cover. covers_rect cover area ≡ true) (λ cover e. test_of_covers cover area e) (take MOST_OCCLUDERS (occluders_of later)) h)

pub opaque_at : (area : Rectangle) (block : _) (tx ty : _) (p : Point) → is_opaque_blit area block tx ty ≡ true → has area p ≡ true → (laid_texel area block tx ty p).a ≡ 255
unfolding is_opaque_blit
opaque_at area block tx ty p all inside = eqb-true (laid_texel area block tx ty p).a 255 (each_point (λ q. is_opaque (laid_texel area block tx ty q)) p area all inside)

pub opaque_all : (area : Rectangle) (block : _) (tx ty : _) → IsRectangle area → ((p : Point) → has area p ≡ true → (laid_texel area block tx ty p).a ≡ 255)
    → is_opaque_blit area block tx ty ≡ true
unfolding is_opaque_blit
opaque_all area block tx ty is each =
    all_points (λ q. is_opaque (laid_texel area block tx ty q)) area is.wide is.high (λ p inside. eq-eqb (laid_texel area block tx ty p).a 255 (each p inside))

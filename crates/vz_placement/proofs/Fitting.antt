-- What fits a message file is in reach.
use Rattle.std.proofs.Common.{◌≡◌, ℕ, zero, suc, ℤ, pos, ◌-ℤ◌, ◌≤ℤ◌, ◌<◌, ◌≤◌, int_lt, Bool, true, false, ◌&&◌, inl, inr, Option, Some}
use Rattle.std.proofs.Common.{None, List, [], ◌∷◌, length, get_or, reverse, refl, subst, sym, ap, ◌∙◌, arith, IfSome}
use Rattle.std.specs.List.{list_all}
use Rattle.std.proofs.lemmas.Bool.{and_parts, or_cases, leb-true}
use Rattle.std.proofs.lemmas.Int.{ints}
use Rattle.std.proofs.lemmas.List.{reverse-append}
use Rattle.std.proofs.lemmas.List.Folds.{list_all-append}
use Rattle.vz_geom.specs.Rectangle.{Rectangle, IsOffset, no_rectangle, with_sides, sized}
use Rattle.vz_frame.specs.declared.frame.CompositorFrame.{CompositorFrame}
use Rattle.vz_frame.specs.declared.frame.RenderPass.{RenderPass}
use Rattle.vz_frame.specs.declared.frame.DrawQuad.{DrawQuad}
use Rattle.vz_frame.specs.Fits.{is_zero, in_reach, is_side, fits_rect, fits_optional, fits_quad, fits_pass, fits_frame}
use Rattle.vz_frame.specs.Frame.{first_of, root_pass, root_damage}
use Rattle.vz_placement.specs.Limits.{FitsFile, IsInReach, IsPassInReach, IsQuadInReach}

zero_is : (z : ℤ) → is_zero z ≡ true → z ≡ pos 0
zero_is z h = grind (arith, ints)

side_is : (z : ℤ) → is_side z ≡ true → (pos 1 ≤ℤ z) × (z ≤ℤ pos 16384)
side_is z h = (grind (arith, ints), grind (arith, ints))

reach_is : (z : ℤ) → in_reach z ≡ true → ((pos 0 -ℤ pos 16384) ≤ℤ z) × (z ≤ℤ pos 16384)
reach_is z h = (grind (arith, ints), grind (arith, ints))

-- an offset of a quad
pub offset_is : (x y : ℤ) → in_reach x ≡ true → in_reach y ≡ true → IsOffset (record { x = x; y = y })
offset_is x y a b =
    let across = reach_is x a in
    let down = reach_is y b in
    record { left = across.0; right = across.1; top = down.0; bottom = down.1 }

four : (a b c d : Bool) → (a && b && c && d) ≡ true → (a ≡ true) × (b ≡ true) × (c ≡ true) × (d ≡ true)
four a b c d e =
    let abc = and_parts (a && b && c) d e in
    let ab = and_parts (a && b) c abc.0 in
    let one = and_parts a b ab.0 in
    (one.0, one.1, ab.1, abc.1)

zero_in_reach : (r : Rectangle) → r.x ≡ pos 0 → r.y ≡ pos 0 → r.w ≡ pos 0 → r.h ≡ pos 0 → IsInReach r
zero_in_reach r x y w h =
    record {
      first = record { left = omega (arith, ints); right = omega (arith, ints); top = omega (arith, ints); bottom = omega (arith, ints) };
      wide = omega (arith, ints);
      high = omega (arith, ints);
      right = omega (arith, ints);
      bottom = omega (arith, ints);
    }

sides_in_reach : (r : Rectangle) → in_reach r.x ≡ true → in_reach r.y ≡ true → is_side r.w ≡ true → is_side r.h ≡ true → IsInReach r
sides_in_reach r x y w h =
    let across = reach_is r.x x in
    let down = reach_is r.y y in
    let wide = side_is r.w w in
    let high = side_is r.h h in
    record {
      first = record { left = across.0; right = across.1; top = down.0; bottom = down.1 };
      wide = omega (arith, ints);
      high = omega (arith, ints);
      right = omega (arith, ints);
      bottom = omega (arith, ints);
    }

-- a rectangle that fits
pub rect_in_reach : (r : Rectangle) → fits_rect r ≡ true → IsInReach r
rect_in_reach r fits =
    elim (or_cases (is_zero r.x && is_zero r.y && is_zero r.w && is_zero r.h)
    (in_reach r.x && in_reach r.y && is_side r.w && is_side r.h) fits) [
      | inl none ↦
          let e = four (is_zero r.x) (is_zero r.y) (is_zero r.w) (is_zero r.h) none in
          zero_in_reach r (zero_is r.x e.0) (zero_is r.y e.1) (zero_is r.w e.2) (zero_is r.h e.3)
      | inr some ↦
          let e = four (in_reach r.x) (in_reach r.y) (is_side r.w) (is_side r.h) some in
          sides_in_reach r e.0 e.1 e.2 e.3
    ]

clip_in_reach : (o : Option Rectangle) → fits_optional fits_rect o ≡ true → IfSome o IsInReach
clip_in_reach None h = tt
clip_in_reach (Some r) h = rect_in_reach r h

-- a quad that fits
pub quad_in_reach : (format : ℕ) (q : DrawQuad) → fits_quad format q ≡ true → IsQuadInReach q
unfolding fits_quad
quad_in_reach format q h =
    let clip = and_parts _ _ (and_parts _ _ (and_parts _ _ (and_parts _ _ h).0).0).0 in
    let visible = and_parts _ _ clip.0 in
    let area = and_parts _ _ visible.0 in
    let offset = and_parts _ _ area.0 in
    record {
      moves = offset_is q.offset.x q.offset.y offset.0 offset.1;
      drawn = rect_in_reach q.area area.1;
      seen = rect_in_reach q.visible visible.1;
      clipped = clip_in_reach q.clip clip.1;
    }

-- what fits of a pass: its output, its damage and its quads
pub pass_fits : (format : ℕ) (p : RenderPass) → fits_pass format p ≡ true
    → (fits_rect p.output ≡ true) × (fits_rect p.damage ≡ true) × (list_all (fits_quad format) p.quads ≡ true)
unfolding fits_pass
pass_fits format p h =
    let quads = and_parts _ _ h in
    let damage = and_parts _ _ quads.0 in
    ((and_parts _ _ damage.0).1, damage.1, quads.1)

-- a pass that fits
pub pass_in_reach : (format : ℕ) (p : RenderPass) → fits_pass format p ≡ true → IsPassInReach p
pass_in_reach format p h =
    let parts = pass_fits format p h in
    record { drawn = rect_in_reach p.output parts.0; damaged = rect_in_reach p.damage parts.1 }

-- a frame that fits has at most 16 passes, and they fit
pub frame_passes : (format : ℕ) (f : CompositorFrame) → fits_frame format f ≡ true
    → (length f.passes ≤ 16) × (list_all (fits_pass format) f.passes ≡ true)
unfolding fits_frame
frame_passes format f h =
    let passes = and_parts _ _ h in
    let quads = and_parts _ _ passes.0 in
    (leb-true (length f.passes) 16 (and_parts _ _ quads.0).1, passes.1)

-- an element of a list passes what all pass
pub all_at : {A : Type 0} (p : A → Bool) (xs : List A) (k : ℕ) (d : A) → list_all p xs ≡ true → k < length xs → p (get_or xs k d) ≡ true
all_at p [] k d h within = absurd (omega arith)
all_at p (x ∷ xs) zero d h within = (and_parts (p x) (list_all p xs) h).0
all_at p (x ∷ xs) (suc k) d h within = all_at p xs k d (and_parts (p x) (list_all p xs) h).1 (omega arith)

first_fits : {A : Type 0} (p : A → Bool) (xs : List A) (x : A) → list_all p xs ≡ true → first_of xs ≡ Some x → p x ≡ true
first_fits p [] x h e = absurd (cc)
first_fits p (y ∷ ys) x h e = ap p (sym (some_is e)) ∙ (and_parts (p y) (list_all p ys) h).0
  where
    some_is : {B : Type 0} {a b : B} → Some a ≡ Some b → a ≡ b
    some_is e = cc

all_reversed : {A : Type 0} (p : A → Bool) (xs : List A) → list_all p xs ≡ true → list_all p (reverse xs) ≡ true
all_reversed p [] h = refl
all_reversed p (x ∷ xs) h =
    let parts = and_parts (p x) (list_all p xs) h in
    ap (list_all p) (reverse-append (x ∷ []) xs) ∙ (list_all-append p (reverse xs) (x ∷ [])
    ∙ both (list_all p (reverse xs)) (p x) (all_reversed p xs parts.1) parts.0)
  where
    both : (a b : Bool) → a ≡ true → b ≡ true → (a && (b && true)) ≡ true
    both a b e f = rw (e, f)

-- the root pass of a frame that fits
pub root_fits : (f : CompositorFrame) (p : RenderPass) → (fits : FitsFile f) → root_pass f ≡ Some p → fits_pass fits.0 p ≡ true
root_fits f p fits e = first_fits (fits_pass fits.0) (reverse f.passes) p (all_reversed (fits_pass fits.0) f.passes
    (frame_passes fits.0 f fits.1).1) e

-- its output
pub root_output_fits : (f : CompositorFrame) (p : RenderPass) → FitsFile f → root_pass f ≡ Some p → fits_rect p.output ≡ true
root_output_fits f p fits e = (pass_fits fits.0 p (root_fits f p fits e)).0

-- and its damage, which is empty if there is none
pub damage_in_reach : (f : CompositorFrame) → FitsFile f → IsInReach (root_damage f)
damage_in_reach f fits = by (root_pass f) refl
  where
    by : (o : Option RenderPass) → root_pass f ≡ o → IsInReach (elim o [ Some pass ↦ pass.damage | None ↦ no_rectangle ])
    by None e = zero_in_reach no_rectangle refl refl refl refl
    by (Some p) e = rect_in_reach p.damage (pass_fits fits.0 p (root_fits f p fits e)).1

-- the pass at a place of a frame that fits
pub pass_at_in_reach : (f : CompositorFrame) (passes : List RenderPass) (k : ℕ) (p : RenderPass) → FitsFile f → passes ≡ f.passes
    → k < length passes → p ≡ get_or passes k p → IsPassInReach p
pass_at_in_reach f passes k p fits own within here =
    let all = subst (λ l. list_all (fits_pass fits.0) l ≡ true) (sym own) (frame_passes fits.0 f fits.1).1 in
    subst IsPassInReach (sym here) (pass_in_reach fits.0 (get_or passes k p) (all_at (fits_pass fits.0) passes k p all within))

-- and a quad of it
pub quad_at_in_reach : (f : CompositorFrame) (passes : List RenderPass) (k n : ℕ) (p : RenderPass) (quads : List DrawQuad)
    (q : DrawQuad) → FitsFile f → passes ≡ f.passes → k < length passes → p ≡ get_or passes k p
    → quads ≡ p.quads → n < length quads → q ≡ get_or quads n q → IsQuadInReach q
quad_at_in_reach f passes k n p quads q fits own within here in_pass there there_too =
    let all = subst (λ l. list_all (fits_pass fits.0) l ≡ true) (sym own) (frame_passes fits.0 f fits.1).1 in
    let fit : fits_pass fits.0 p ≡ true = ap (fits_pass fits.0) here ∙ all_at (fits_pass fits.0) passes k p all within in
    let all_quads = subst (λ l. list_all (fits_quad fits.0) l ≡ true) (sym in_pass) (pass_fits fits.0 p fit).2 in
    subst IsQuadInReach (sym there_too) (quad_in_reach fits.0 (get_or quads n q) (all_at (fits_quad fits.0) quads n q all_quads there))

-- no more than 16 passes
pub few_passes : (f : CompositorFrame) → FitsFile f → length f.passes ≤ 16
few_passes f fits = (frame_passes fits.0 f fits.1).0

zero_sized : (x y w h : ℤ) → x ≡ pos 0 → y ≡ pos 0 → w ≡ pos 0 → h ≡ pos 0
    → with_sides (pos 0) (pos 0) w h ≡ sized (record { w = w; h = h })
unfolding with_sides
zero_sized x y w h a b c d = rw (c, d)

not_less : (a b : ℤ) → b ≤ℤ a → int_lt a b ≡ false
not_less a b h = grind (arith, ints)

sides_sized : (w h : ℤ) → pos 1 ≤ℤ w → pos 1 ≤ℤ h → with_sides (pos 0) (pos 0) w h ≡ sized (record { w = w; h = h })
unfolding with_sides
sides_sized w h p q = rw (not_less w (pos 1) p, not_less h (pos 1) q)

-- the rectangle at the origin with the sides of one that fits
pub record IsSized (r : Rectangle) : Type 0 where
  pub own : with_sides (pos 0) (pos 0) r.w r.h ≡ sized (record { w = r.w; h = r.h })
  pub wide : pos 0 ≤ℤ r.w
  pub high : pos 0 ≤ℤ r.h
  pub not_too_wide : r.w ≤ℤ pos 16384
  pub not_too_high : r.h ≤ℤ pos 16384

sized_zero : (r : Rectangle) → r.x ≡ pos 0 → r.y ≡ pos 0 → r.w ≡ pos 0 → r.h ≡ pos 0 → IsSized r
sized_zero r x y w h =
    record {
      own = zero_sized r.x r.y r.w r.h x y w h;
      wide = omega (arith, ints);
      high = omega (arith, ints);
      not_too_wide = omega (arith, ints);
      not_too_high = omega (arith, ints);
    }

sized_sides : (r : Rectangle) → is_side r.w ≡ true → is_side r.h ≡ true → IsSized r
sized_sides r w h =
    let wide = side_is r.w w in
    let high = side_is r.h h in
    record {
      own = sides_sized r.w r.h wide.0 high.0;
      wide = omega (arith, ints);
      high = omega (arith, ints);
      not_too_wide = wide.1;
      not_too_high = high.1;
    }

pub is_sized : (r : Rectangle) → fits_rect r ≡ true → IsSized r
is_sized r fits =
    elim (or_cases (is_zero r.x && is_zero r.y && is_zero r.w && is_zero r.h)
    (in_reach r.x && in_reach r.y && is_side r.w && is_side r.h) fits) [
      | inl none ↦
          let e = four (is_zero r.x) (is_zero r.y) (is_zero r.w) (is_zero r.h) none in
          sized_zero r (zero_is r.x e.0) (zero_is r.y e.1) (zero_is r.w e.2) (zero_is r.h e.3)
      | inr some ↦
          let e = four (in_reach r.x) (in_reach r.y) (is_side r.w) (is_side r.h) some in
          sized_sides r e.2 e.3
    ]

pub sized_in_reach : (r s : Rectangle) → s ≡ sized (record { w = r.w; h = r.h }) → IsSized r → IsInReach s
sized_in_reach r s e h =
    rw e
    (record {
      first = record { left = omega (arith, ints); right = omega (arith, ints); top = omega (arith, ints); bottom = omega (arith, ints) };
      wide = h.wide;
      high = h.high;
      right = omega (arith, ints);
      bottom = omega (arith, ints);
    })

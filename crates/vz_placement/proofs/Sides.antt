-- The part of a rectangle that is inside a frame's size.
use Rattle.std.proofs.Common.{◌≡◌, ℤ, pos, ◌+ℤ◌, ◌≤ℤ◌, int_lt, Bool, true, false, ◌||◌, Option, Some, None, refl, arith, if◌then◌else◌}
use Rattle.std.specs.Int.{int_max}
use Rattle.std.proofs.lemmas.Int.{ints, clamps}
use Rattle.vz_geom.specs.declared.Size.{Size}
use Rattle.vz_geom.specs.Rectangle.{Rectangle, no_rectangle, with_sides, meet, sized, shared}
use Rattle.vz_frame.specs.declared.frame.CompositorFrame.{CompositorFrame}
use Rattle.vz_frame.specs.declared.frame.RenderPass.{RenderPass}
use Rattle.vz_frame.specs.Frame.{root_pass, frame_size}
use Rattle.vz_placement.specs.Limits.{FitsFile, IsInReach}
use Rattle.vz_placement.proofs.Fitting.{is_sized, root_output_fits}

-- no side is negative or greater than a frame may have
pub record IsFrameSize (size : Size) : Type 0 where
  pub wide : pos 0 ≤ℤ size.w
  pub not_too_wide : size.w ≤ℤ pos 16384
  pub high : pos 0 ≤ℤ size.h
  pub not_too_high : size.h ≤ℤ pos 16384

by_root : (f : CompositorFrame) (o : Option RenderPass) → FitsFile f → root_pass f ≡ o
    → IsFrameSize (elim o [ Some pass ↦ record { w = pass.output.w; h = pass.output.h } | None ↦ record { w = pos 0; h = pos 0 } ])
by_root f None fits e = record {
  wide = omega (arith, ints);
  not_too_wide = omega (arith, ints);
  high = omega
      (arith, ints);
  not_too_high = omega (arith, ints);
}
by_root f (Some p) fits e =
    let s = is_sized p.output (root_output_fits f p fits e) in
    record { wide = s.wide; not_too_wide = s.not_too_wide; high = s.high; not_too_high = s.not_too_high }

-- the sides of a frame that fits
pub frame_sides : (f : CompositorFrame) → FitsFile f → IsFrameSize (frame_size f)
frame_sides f fits = by_root f (root_pass f) fits refl

-- the empty rectangle is in reach
pub nothing_in_reach : IsInReach no_rectangle
nothing_in_reach =
    record {
      first = record { left = omega (arith, ints); right = omega (arith, ints); top = omega (arith, ints); bottom = omega (arith, ints) };
      wide = omega (arith, ints);
      high = omega (arith, ints);
      right = omega (arith, ints);
      bottom = omega (arith, ints);
    }

sides_in_reach : (x y w h : ℤ) → (int_lt w (pos 1) ≡ false → int_lt h (pos 1) ≡ false
    → IsInReach (record { x = x; y = y; w = w; h = h })) → IsInReach (with_sides x y w h)
unfolding with_sides
sides_in_reach x y w h is = by (int_lt w (pos 1)) (int_lt h (pos 1)) refl refl
  where
    by : (s t : Bool) → int_lt w (pos 1) ≡ s → int_lt h (pos 1) ≡ t
        → IsInReach (if s || t then no_rectangle else record { x = x; y = y; w = w; h = h })
    by true t e f = nothing_in_reach
    by false true e f = nothing_in_reach
    by false false e f = is e f

full : (w : ℤ) → int_lt w (pos 1) ≡ false → pos 1 ≤ℤ w
full w e = grind (arith, ints)

-- what is inside such a size is in reach
pub meet_in_reach : (size : Size) (r : Rectangle) → IsFrameSize size → IsInReach (meet (sized size) r)
unfolding meet
meet_in_reach size r is =
    let left = int_max (pos 0) r.x in
    let top = int_max (pos 0) r.y in
    let wide = shared (pos 0) (pos 0 +ℤ size.w) r.x (r.x +ℤ r.w) in
    let high = shared (pos 0) (pos 0 +ℤ size.h) r.y (r.y +ℤ r.h) in
    sides_in_reach left top wide high (λ e f.
    let some = full wide e in
    let more = full high f in
    record {
      first = record {
        left = omega (arith, ints, clamps);
        right = omega (arith, ints, clamps);
        top = omega
            (arith, ints, clamps);
        bottom = omega (arith, ints, clamps);
      };
      wide = omega (arith, ints, clamps);
      high = omega (arith, ints, clamps);
      right = omega (arith, ints, clamps);
      bottom = omega (arith, ints, clamps);
    })

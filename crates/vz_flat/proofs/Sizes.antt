-- The sizes of accepted frames.
use Rattle.std.proofs.Common.{◌≡◌, ap, subst, sym, ◌∙◌}
use Rattle.vz_base.specs.declared.limits.TheConstants.{NEWEST_FORMAT}
use Rattle.vz_frame.specs.declared.frame.CompositorFrame.{CompositorFrame}
use Rattle.vz_rules.specs.{World.FrameData, Kept.IsWhole}
use Rattle.vz_surfaces.specs.{declared.held.Held.Held, Reading.held_of}
use Rattle.vz_placement.specs.Limits.{FitsFile}

-- the frame of what is held of a whole frame fits
pub held_fits : (f : CompositorFrame) (h : Held) (i : FrameData) → f ≡ h.frame → h ≡ held_of i → IsWhole i → FitsFile f
held_fits f h i own e fine = subst FitsFile (sym (own ∙ ap (λ (x : Held). x.frame) e)) (NEWEST_FORMAT, fine.frame)

-- A part of a row that is painted at once or with a level: where a quad covers it, and inside a shown surface.
use Rattle.std.proofs.Common.{◌≡◌, ℕ, ◌-◌, ◌≤◌, ◌<◌, Bool, false, ◌&&◌, ◌||◌, if◌then◌else◌, Option, List, length, take, drop, get_or, refl, sym, ap, ◌∙◌, arith, subst}
use Rattle.std.specs.Prelude.{nat_le, nat_lt}
use Rattle.std.specs.List.{list_any}
use Rattle.std.specs.Option.{option_map}
use borrow.Rule.Slice.PartMut.{put_mid}
use Rattle.vz_geom.specs.declared.Point.{Point}
use Rattle.vz_geom.specs.Rectangle.{has, sized}
use Rattle.vz_ids.specs.declared.SurfaceId.{SurfaceId}
use Rattle.vz_ids.specs.declared.SurfaceRange.{SurfaceRange}
use Rattle.vz_ids.specs.Ids.{same_surface}
use Rattle.vz_pixels.specs.Colour.{Colour, transparent}
use Rattle.vz_frame.specs.declared.blend.Blend.{Blend}
use Rattle.vz_frame.specs.declared.frame.DrawQuad.{DrawQuad}
use Rattle.vz_frame.specs.declared.frame.RenderPass.{RenderPass}
use Rattle.vz_frame.specs.Frame.{frame_size}
use Rattle.vz_frame.specs.Blending.{laid}
use Rattle.vz_frame.proofs.Parts.{length_part}
use Rattle.vz_rules.specs.World.{FrameData}
use Rattle.vz_rules.specs.Paint.{covers, on_path}
use Rattle.vz_plain.specs.Rows.{right_of, IsPainted}
use Rattle.vz_plain.specs.Painting.{Painter, quad_here, quad_covered, inside_here, shown_here}
use Rattle.vz_plain.specs.Levels.{Level, moved, IsPaintedWith}
use Rattle.vz_plain.proofs.Rowed.{quad_painted, shown_painted}
use Rattle.vz_plain.proofs.Waiting.{part_with}

pub quad_with : (p : Painter) (earlier : List RenderPass) (pass : RenderPass) (quad : DrawQuad) (start first : Point) (from to : ℕ) (old mid : List Colour) (inner outer : Option Level) → from ≤ to → to ≤ length old
    → ((i : ℕ) → i < length old → covers pass quad (right_of start i) ≡ (nat_le from i && nat_lt i to)) → first ≡ right_of start from → outer ≡ option_map (moved from) inner
    → IsPaintedWith p.active (quad_here p earlier quad) first (take (to - from) (drop from old)) mid inner
    → IsPaintedWith p.active (quad_covered p earlier pass quad) start old (put_mid from (to - from) old mid) outer
quad_with p earlier pass quad start first from to old mid inner outer up fits exact at is painted =
    subst (λ (o : Option Level). IsPaintedWith p.active (quad_covered p earlier pass quad) start old (put_mid from (to - from) old mid) o) (sym is)
    (part_with p.active (quad_here p earlier quad) (quad_covered p earlier pass quad) first start (take (to - from) (drop from old)) old old mid from (to - from) inner
    (length_part transparent old from (to - from) (omega (arith, up, fits))) (omega (arith, up, fits)) refl
    (λ new h. quad_painted p earlier pass quad start from to old new up fits exact (subst (λ (q : Point). IsPainted (quad_here p earlier quad) q (take (to - from) (drop from old)) new) at h))
    painted)

-- a surface that is not found on the path
pub off_path : (v p : Painter) (i : FrameData) (id : SurfaceId) (found : Bool) → v ≡ p → id ≡ i.id → found ≡ list_any (same_surface id) v.path → found ≡ false → on_path p.path i ≡ false
off_path v p i id found e same is off =
    sym (ap (λ (s : Painter). on_path s.path i) e) ∙ (sym (is ∙ ap (λ (x : SurfaceId). list_any (same_surface x) v.path) same) ∙ off)

pub shown_with : (p : Painter) (range : SurfaceRange) (background : Colour) (i : FrameData) (m : Blend) (o : ℕ) (local first : Point) (from to : ℕ) (end : Bool) (old now mid : List Colour) (inner outer : Option Level)
    → from ≤ to → to ≤ length old → end ≡ same_surface i.id range.end
    → ((k : ℕ) → k < length old → has (sized (frame_size i.frame)) (right_of local k) ≡ (nat_le from k && nat_lt k to))
    → length now ≡ length old
    → ((k : ℕ) → k < length old → get_or now k transparent ≡ (if (nat_le from k && nat_lt k to) || end then get_or old k transparent else laid m background o (get_or old k transparent)))
    → first ≡ right_of local from → outer ≡ option_map (moved from) inner
    → IsPaintedWith p.active (inside_here p i m o) first (take (to - from) (drop from now)) mid inner
    → IsPaintedWith p.active (shown_here p range background i m o) local old (put_mid from (to - from) now mid) outer
shown_with p range background i m o local first from to end old now mid inner outer up fits ends exact long outside at is painted =
    subst (λ (x : Option Level). IsPaintedWith p.active (shown_here p range background i m o) local old (put_mid from (to - from) now mid) x) (sym is)
    (part_with p.active (inside_here p i m o) (shown_here p range background i m o) first local (take (to - from) (drop from now)) old now mid from (to - from) inner
    (length_part transparent now from (to - from) (omega (arith, up, fits, long))) (omega (arith, up, fits, long)) long
    (λ new h. shown_painted p range background i m o local from to end old now new up fits ends exact long outside
    (subst (λ (q : Point). IsPainted (inside_here p i m o) q (take (to - from) (drop from now)) new) at h))
    painted)

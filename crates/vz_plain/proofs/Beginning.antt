-- Levels as the painter makes them.
use Rattle.std.proofs.Common.{◌≡◌, ℕ, ◌-◌, ◌≤◌, ◌<◌, ◌&&◌, List, [], ◌∷◌, ◌++◌, length, replicate, refl, arith, subst}
use Rattle.std.specs.Prelude.{nat_le, nat_lt}
use Rattle.vz_geom.specs.declared.Point.{Point}
use Rattle.vz_geom.specs.Rectangle.{has}
use Rattle.vz_ids.specs.declared.SurfaceId.{SurfaceId}
use Rattle.vz_pixels.specs.Colour.{Colour, transparent}
use Rattle.vz_frame.specs.declared.blend.Blend.{Blend}
use Rattle.vz_frame.specs.declared.frame.DrawQuad.{DrawQuad}
use Rattle.vz_frame.specs.declared.frame.RenderPass.{RenderPass}
use Rattle.vz_rules.specs.World.{FrameData}
use Rattle.vz_rules.specs.Paint.{quads_painted, pass_painted}
use Rattle.vz_plain.specs.Rows.{right_of}
use Rattle.vz_plain.specs.Painting.{Painter, passes_in, ranges, pass_here, group_here}
use Rattle.vz_plain.specs.Levels.{Level, rest, IsWaiting, IsEntered}
use Rattle.vz_plain.proofs.Parted.{repainted}
use Rattle.vz_plain.proofs.Rowed.{root_laid}
use Rattle.vz_plain.proofs.Entering.{group_waits}

-- a level with all quads of its pass
abbrev whole_level : ℕ → List SurfaceId → FrameData → List RenderPass → RenderPass → List DrawQuad → Point → List Colour → ℕ → Blend → ℕ → Level
whole_level levels trail i earlier pass quads first own from m o =
    record { levels = levels; path = trail; submitted = i; earlier = earlier; pass = pass; quads = quads; start = first; row = own; from = from; mode = m; opacity = o }

-- its quads do what its pass does
whole_pass : (active : List FrameData) (levels : ℕ) (trail path : List SurfaceId) (i : FrameData) (earlier : List RenderPass) (pass : RenderPass) (quads : List DrawQuad) (first : Point) (own : List Colour) (from : ℕ) (m : Blend) (o : ℕ)
    → trail ≡ path → quads ≡ pass.quads → (q : Point) (d : Colour)
    → rest active (whole_level levels trail i earlier pass quads first own from m o) q d ≡ pass_here (record { active = active; levels = levels; path = path; submitted = i }) earlier pass q d
unfolding pass_painted
whole_pass active levels trail path i earlier pass quads first own from m o at all q d = λ j.
    quads_painted i (passes_in (record { active = active; levels = levels; path = at j; submitted = i }) earlier) (ranges (record { active = active; levels = levels; path = at j; submitted = i })) pass (all j) q d

pub group_begun : (v p : Painter) → v ≡ p → (earlier : List RenderPass) (pass : RenderPass) (m : Blend) (o : ℕ) (start : Point) (from to count : ℕ) (row : List Colour) (trail : List SurfaceId) (quads : List DrawQuad) (first : Point) (own : List Colour)
    → length row ≡ count → from ≤ to → to ≤ count → ((i : ℕ) → i < count → has pass.output (right_of start i) ≡ (nat_le from i && nat_lt i to))
    → first ≡ right_of start from → own ≡ replicate (to - from) transparent → trail ≡ v.path → quads ≡ pass.quads
    → IsWaiting p.active (group_here p earlier pass m o) start row row (whole_level v.levels trail v.submitted earlier pass quads first own from m o)
group_begun v p e earlier pass m o start from to count row trail quads first own long up most exact at blank same all =
    subst (λ (s : Painter). IsWaiting s.active (group_here s earlier pass m o) start row row (whole_level v.levels trail v.submitted earlier pass quads first own from m o)) e
    (group_waits v earlier pass m o start from to row (whole_level v.levels trail v.submitted earlier pass quads first own from m o) up (omega (arith, most, long))
    (λ i low. exact i (omega (arith, low, long))) at blank refl refl refl
    (whole_pass v.active v.levels trail v.path v.submitted earlier pass quads first own from m o same all))

pub entered_begun : (v p : Painter) → v ≡ p → (i : FrameData) (id : SurfaceId) (trail : List SurfaceId) (earlier : List RenderPass) (root : RenderPass) (quads : List DrawQuad) (first : Point) (own : List Colour) (m : Blend) (o : ℕ)
    → (v.levels ≡ 0 → ⊥) → id ≡ i.id → trail ≡ id ∷ v.path → i.frame.passes ≡ earlier ++ root ∷ [] → quads ≡ root.quads
    → IsEntered p i first own m o (whole_level (v.levels - 1) trail i earlier root quads first own 0 m o)
entered_begun v p e i id trail earlier root quads first own m o some same at last all =
    subst (λ (s : Painter). IsEntered s i first own m o (whole_level (v.levels - 1) trail i earlier root quads first own 0 m o)) e
    (record {
      row = refl;
      from = refl;
      mode = refl;
      opacity = refl;
      start = refl;
      paints = λ new h.
          root_laid v.active v.levels v.path i id first earlier root own new some same last
          (repainted (rest v.active (whole_level (v.levels - 1) trail i earlier root quads first own 0 m o))
          (pass_here (record { active = v.active; levels = v.levels - 1; path = id ∷ v.path; submitted = i }) earlier root) first first own new
          (λ k d. whole_pass v.active (v.levels - 1) trail (id ∷ v.path) i earlier root quads first own 0 m o at all (right_of first k) d) h);
    })

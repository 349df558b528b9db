-- Painting that goes into no more surfaces on a path than there may be. Where a scene is not too much it is the whole painting.
use Rattle.std.proofs.Common.{◌≡◌, ℕ, zero, suc, ◌+◌, ◌≤◌, ◌==◌, Bool, true, false, ◌||◌, Some, None, List, [], ◌∷◌, length, sym, ◌∙◌, arith}
use Rattle.std.proofs.{lemmas.Bool.eqb-true, lemmas.Int.ints, lemmas.Bool.Decides.nat_tests}
use Rattle.vz_geom.specs.{declared.Point.Point, declared.Size.Size, Rectangle.has, Rectangle.sized}
use Rattle.vz_geom.proofs.Points.{same_point}
use Rattle.vz_ids.specs.{declared.SurfaceId.SurfaceId, declared.SurfaceRange.SurfaceRange}
use Rattle.vz_pixels.specs.Colour.{Colour}
use Rattle.vz_frame.specs.{declared.blend.Blend.Blend, Blending.laid, Frame.passes_down}
use Rattle.vz_rules.specs.{World.FrameData, World.Scene, World.frame_on, Scene.shown_frame, Trace.trace}
use Rattle.vz_rules.specs.Paint.{Embedding, Content, on_path, is_absent, root_painted, content_at, content_laid, embeds, pix, levels}
use Rattle.vz_rules.specs.Walk.{Placement, whole, range_walked, walk, walk_of, too_much}
use Rattle.vz_rules.proofs.{Traces.SkipsZero, Traces.trace_shown, Traces.laid_zero, Same.same_shows, Same.IsSeen, Same.root_same}
use Rattle.vz_rules.proofs.Agree.{embeds_skips, laid_same}
use Rattle.vz_rules.proofs.Levels.{Shallow, or_first, or_second, shallow_parts, not_deep, choose, walked_shallow}

-- what a range does, and where the path ends here nothing of a surface
unfoldable pub embeds_until : Bool → Content → List FrameData → List SurfaceId → Embedding
embeds_until ends content active path range b m o l d =
    elim (shown_frame active range) [
      | None ↦ laid m b o d
      | Some i ↦ elim ((ends || on_path path i) || is_absent range i l) [
        | true ↦ d
        | false ↦ content_laid (content_at content path b i l) m o d
      ]
    ]

-- what a surface leaves, with so many surfaces left, where the last one embeds none
unfoldable pub pix_until : ℕ → List FrameData → Content
pix_until zero active path i q d = d
pix_until (suc n) active path i q d =
    root_painted i (embeds_until (n == 0) (pix_until n active) active (i.id ∷ path)) (passes_down i.frame) q d

until_skips : (ends : Bool) (content : Content) (active : List FrameData) (path : List SurfaceId)
    → SkipsZero (embeds_until ends content active path)
unfolding embeds_until content_laid
until_skips ends content active path range b l d = grind (arith, nat_tests, laid_zero b d, laid_zero)

module _ (active : List FrameData) (P : Point) where
  -- the n levels of the whole painting and these m are enough behind a path, and do the same
  abbrev pub SameLevels : ℕ → ℕ → Type 0
  SameLevels n m =
      (path : List SurfaceId) (i : FrameData) (l : Point)
      (place : Placement) → length path + 1 ≤ 64 → 65 ≤ n + length path → 64 ≤ m + length path → IsSeen P l place
      → Shallow (walk n active path i place) → (d : Colour) → pix n active path i l d ≡ pix_until m active path i l d

  ranges_levels : (n m : ℕ) → SameLevels n m → (path : List SurfaceId) → 65 ≤ n + length path → 64 ≤ m + length path
      → (range : SurfaceRange) (b : Colour) (k : Blend) (o : ℕ) (l : Point) (place : Placement) → IsSeen P l place
      → Shallow (range_walked (walk n active) active path range place) → (d : Colour)
      → embeds (pix n active) active path range b k o l d ≡ embeds_until (m == 0) (pix_until m active) active path range b k o l d
  unfolding embeds embeds_until range_walked content_at
  ranges_levels n m same path en em range b k o l place seen shallow d = grind (arith, nat_tests, not_deep, or_first, eqb-true, or_second, laid_same, choose)

  same_levels : (n m : ℕ) → SameLevels n m
  unfolding pix pix_until walk trace
  same_levels zero m path i l place short en em seen shallow d = absurd (omega arith)
  same_levels (suc n) zero path i l place short en em seen shallow d = absurd (omega arith)
  same_levels (suc n) (suc m) path i l place short en em seen shallow d =
      let e : Embedding = embeds (pix n active) active (i.id ∷ path) in
      let f : Embedding = embeds_until (m == 0) (pix_until m active) active (i.id ∷ path) in
      trace_shown e (embeds_skips (pix n active) active (i.id ∷ path)) i l d
      ∙ (same_shows e f (trace i l)
      (root_same e f Shallow shallow_parts (range_walked (walk n active) active (i.id ∷ path)) P
      (ranges_levels n m (same_levels n m) (i.id ∷ path) (omega arith) (omega arith)) i (passes_down i.frame) l place seen shallow) d
      ∙ sym (trace_shown f (until_skips (m == 0) (pix_until m active) active (i.id ∷ path)) i l d))

-- at a point of the display 64 levels are enough, where a drawing is not too much
pub enough_levels : (size : Size) (scene : Scene) (i : FrameData) (p : Point) (d : Colour) → frame_on scene.root scene.active ≡ Some i
    → too_much (walk_of size scene) ≡ false
    → has (sized size) p ≡ true → pix levels scene.active [] i p d ≡ pix_until 64 scene.active [] i p d
unfolding levels
enough_levels size scene i p d e h inside =
    same_levels scene.active p 65 64 [] i p (whole size) (omega arith) (omega arith) (omega arith)
    (record { stays = same_point (omega (arith, ints)) (omega (arith, ints)); inside = inside })
    (walked_shallow size scene i e h) d

-- What quads, passes and surfaces leave in a row, by what they leave at each point.
use Rattle.std.proofs.Common.{◌≡◌, ℕ, zero, suc, ◌-◌, ◌≤◌, ◌<◌, Bool, true, false, not, ◌&&◌, ◌||◌, if◌then◌else◌, Option, Some, None, List, [], ◌∷◌, ◌++◌, reverse, length, take, drop, get_or, refl, sym, ap, ◌∙◌, arith}
use Rattle.std.specs.Prelude.{nat_le, nat_lt}
use Rattle.std.proofs.lemmas.Int.{ints}
use Rattle.std.proofs.lemmas.Bool.{eqb-true}
use Rattle.std.proofs.lemmas.List.{reverse-append}
use borrow.Rule.Slice.PartMut.{put_mid}
use Rattle.vz_geom.specs.declared.Point.{Point}
use Rattle.vz_geom.specs.Rectangle.{has, sized}
use Rattle.vz_geom.proofs.Points.{same_point}
use Rattle.vz_ids.specs.declared.SurfaceId.{SurfaceId}
use Rattle.vz_ids.specs.declared.SurfaceRange.{SurfaceRange}
use Rattle.vz_ids.specs.Ids.{same_surface}
use Rattle.vz_pixels.specs.Colour.{Colour, transparent, black, over, scale}
use Rattle.vz_pixels.proofs.Over.{scale_full, over_nothing}
use Rattle.vz_frame.specs.declared.blend.Blend.{Blend}
use Rattle.vz_frame.specs.declared.blend.Blend.TheVariants.{Over, Src, DstIn}
use Rattle.vz_frame.specs.declared.frame.DrawQuad.{DrawQuad}
use Rattle.vz_frame.specs.declared.frame.RenderPass.{RenderPass}
use Rattle.vz_frame.specs.declared.frame.Material.TheVariants.{Tile, Surface, Pass}
use Rattle.vz_frame.specs.Frame.{frame_size}
use Rattle.vz_frame.specs.Blending.{blend, laid, is_straight}
use Rattle.vz_rules.specs.World.{FrameData, frame_on}
use Rattle.vz_rules.specs.Scene.{shown_frame}
use Rattle.vz_rules.specs.Paint.{covers, local_point, tile_colour, material_painted, group_laid, root_painted, content_at, content_laid, is_absent, on_path, embeds, pix, full, levels}
use Rattle.vz_plain.specs.Rows.{right_of, IsPainted}
use Rattle.vz_plain.specs.Painting.{Painter, embedded, ranges, passes_in, quad_here, pass_here, group_here, content_here, quad_covered, inside_here, shown_here}
use Rattle.vz_plain.proofs.Parted.{repainted, then_painted, part_painted, none_painted}

-- what is chosen by a test that holds, and by one that does not
taken : {A : Type 0} (t : Bool) (x y : A) → t ≡ true → x ≡ (elim t [ true ↦ x | false ↦ y ])
taken true x y e = refl
taken false x y e = absurd (cc)

left_out : {A : Type 0} (t : Bool) (x y : A) → t ≡ false → y ≡ (elim t [ true ↦ x | false ↦ y ])
left_out true x y e = absurd (cc)
left_out false x y e = refl

-- Quads

-- a point right of another, relative to the corner of a quad's rectangle
shifted : (quad : DrawQuad) (first local : Point) (i : ℕ) → local ≡ local_point quad first → right_of local i ≡ local_point quad (right_of first i)
shifted quad first local i is = ap (λ p. right_of p i) is ∙ same_point (omega (arith, ints)) refl

pub tile_laid : (p : Painter) (earlier : List RenderPass) (quad : DrawQuad) (id tx ty : ℕ) (first local : Point) (old new : List Colour) → quad.material ≡ Tile id tx ty → local ≡ local_point quad first
    → IsPainted (λ q d. laid quad.blend (tile_colour p.submitted id tx ty q) quad.opacity d) local old new
    → IsPainted (quad_here p earlier quad) first old new
unfolding material_painted
tile_laid p earlier quad id tx ty first local old new is at =
    repainted (λ q d. laid quad.blend (tile_colour p.submitted id tx ty q) quad.opacity d) (quad_here p earlier quad) local first old new
    (λ i d. rw is (ap (λ l. laid quad.blend (tile_colour p.submitted id tx ty l) quad.opacity d) (shifted quad first local i at)))

pub range_laid : (p : Painter) (earlier : List RenderPass) (quad : DrawQuad) (range : SurfaceRange) (background : Colour) (first local : Point) (old new : List Colour) → quad.material ≡ Surface range background
    → local ≡ local_point quad first → IsPainted (ranges p range background quad.blend quad.opacity) local old new → IsPainted (quad_here p earlier quad) first old new
unfolding material_painted
range_laid p earlier quad range background first local old new is at =
    repainted (ranges p range background quad.blend quad.opacity) (quad_here p earlier quad) local first old new
    (λ i d. rw is (ap (λ l. ranges p range background quad.blend quad.opacity l d) (shifted quad first local i at)))

pub pass_laid : (p : Painter) (earlier : List RenderPass) (quad : DrawQuad) (id : ℕ) (first local : Point) (old new : List Colour) → quad.material ≡ Pass id
    → local ≡ local_point quad first → IsPainted (passes_in p earlier id quad.blend quad.opacity) local old new → IsPainted (quad_here p earlier quad) first old new
unfolding material_painted
pass_laid p earlier quad id first local old new is at =
    repainted (passes_in p earlier id quad.blend quad.opacity) (quad_here p earlier quad) local first old new
    (λ i d. rw is (ap (λ l. passes_in p earlier id quad.blend quad.opacity l d) (shifted quad first local i at)))

-- a quad is painted where it covers the row
pub quad_painted : (p : Painter) (earlier : List RenderPass) (pass : RenderPass) (quad : DrawQuad) (start : Point) (from to : ℕ) (old mid : List Colour) → from ≤ to → to ≤ length old
    → ((i : ℕ) → i < length old → covers pass quad (right_of start i) ≡ (nat_le from i && nat_lt i to))
    → IsPainted (quad_here p earlier quad) (right_of start from) (take (to - from) (drop from old)) mid
    → IsPainted (quad_covered p earlier pass quad) start old (put_mid from (to - from) old mid)
quad_painted p earlier pass quad start from to old mid up fits exact =
    part_painted (quad_here p earlier quad) (quad_covered p earlier pass quad) (covers pass quad) start from to old mid up fits exact
    (λ q d e. taken (covers pass quad q) (quad_here p earlier quad q d) d e) (λ q d e. left_out (covers pass quad q) (quad_here p earlier quad q d) d e)

-- Groups

-- a row that was painted on transparent is laid on another
pub group_painted : (f : Point → Colour → Colour) (m : Blend) (o : ℕ) (first : Point) (clear own old new : List Colour) → length clear ≡ length old → ((i : ℕ) → i < length old → get_or clear i transparent ≡ transparent)
    → IsPainted f first clear own → length new ≡ length old → ((i : ℕ) → i < length old → get_or new i transparent ≡ laid m (get_or own i transparent) o (get_or old i transparent))
    → IsPainted (λ q d. laid m (f q transparent) o d) first old new
group_painted f m o first clear own old new same blank is long each =
    record {
      long = long;
      each = λ i low.
          each i low
          ∙ ap (λ c. laid m c o (get_or old i transparent)) (is.each i (omega (arith, same, low)) ∙ ap (f (right_of first i)) (blank i low));
    }

pub group_part : (p : Painter) (earlier : List RenderPass) (pass : RenderPass) (m : Blend) (o : ℕ) (start : Point) (from to : ℕ) (old mid : List Colour) → from ≤ to → to ≤ length old
    → ((i : ℕ) → i < length old → has pass.output (right_of start i) ≡ (nat_le from i && nat_lt i to))
    → IsPainted (λ q d. laid m (pass_here p earlier pass q transparent) o d) (right_of start from) (take (to - from) (drop from old)) mid
    → IsPainted (group_here p earlier pass m o) start old (put_mid from (to - from) old mid)
unfolding group_laid
group_part p earlier pass m o start from to old mid up fits exact =
    part_painted (λ q d. laid m (pass_here p earlier pass q transparent) o d) (group_here p earlier pass m o) (has pass.output) start from to old mid up fits exact
    (λ q d e. taken (has pass.output q) (laid m (pass_here p earlier pass q transparent) o d) d e) (λ q d e. left_out (has pass.output q) (laid m (pass_here p earlier pass q transparent) o d) d e)

pub group_nowhere : (p : Painter) (earlier : List RenderPass) (pass : RenderPass) (m : Blend) (o : ℕ) (start : Point) (from to : ℕ) (old : List Colour) → to ≤ from
    → ((i : ℕ) → i < length old → has pass.output (right_of start i) ≡ (nat_le from i && nat_lt i to)) → IsPainted (group_here p earlier pass m o) start old old
unfolding group_laid
group_nowhere p earlier pass m o start from to old down exact =
    none_painted (group_here p earlier pass m o) (has pass.output) start from to old down exact (λ q d e. left_out (has pass.output q) (laid m (pass_here p earlier pass q transparent) o d) d e)

-- Shown surfaces

-- what a range does by what it shows
abbrev by_shown : Painter → SurfaceRange → Colour → Blend → ℕ → Point → Colour → Option FrameData → Colour
by_shown p range background m o l d None = laid m background o d
by_shown p range background m o l d (Some i) =
    elim (on_path p.path i || is_absent range i l) [ true ↦ d | false ↦ content_laid (content_here p background i l) m o d ]

-- a range that shows a surface that is not on the path
pub range_shown : (p : Painter) (range : SurfaceRange) (background : Colour) (i : FrameData) (m : Blend) (o : ℕ) (local : Point) (old new : List Colour) → shown_frame p.active range ≡ Some i → on_path p.path i ≡ false
    → IsPainted (shown_here p range background i m o) local old new → IsPainted (ranges p range background m o) local old new
unfolding embeds
range_shown p range background i m o local old new shown off =
    repainted (shown_here p range background i m o) (ranges p range background m o) local local old new (λ k d. sym
    (ap (by_shown p range background m o (right_of local k) d) shown
    ∙ ap (λ (t : Bool). elim (t || is_absent range i (right_of local k)) [ true ↦ d | false ↦ content_laid (content_here p background i (right_of local k)) m o d ]) off))

straight_laid : (m : Blend) (o : ℕ) (c d : Colour) → is_straight m o ≡ true → over c d ≡ laid m c o d
unfolding laid blend
straight_laid Over o c d e = ap (λ s. over s d) (sym (scale_full c)) ∙ ap (λ n. over (scale c n) d) (sym (eqb-true o 255 e))
straight_laid Src o c d e = absurd (cc)
straight_laid DstIn o c d e = absurd (cc)

-- outside its size a shown surface leaves its background, as a quad of one colour does
background_laid : (m : Blend) (o : ℕ) (c d : Colour) → content_laid (over c) m o d ≡ laid m c o d
unfolding content_laid
background_laid m o c d = by_test (is_straight m o) refl
  where
    by_test : (t : Bool) → is_straight m o ≡ t → content_laid (over c) m o d ≡ laid m c o d
    by_test true e = sym (taken (is_straight m o) (over c d) (laid m (over c transparent) o d) e) ∙ straight_laid m o c d e
    by_test false e = sym (left_out (is_straight m o) (over c d) (laid m (over c transparent) o d) e) ∙ ap (λ s. laid m s o d) (over_nothing c)

-- what is laid outside the size of a shown surface, unless it is the end of the range
abbrev outside_here : FrameData → Bool → Colour → Blend → ℕ → Point → Colour → Colour
outside_here i end background m o q d = if has (sized (frame_size i.frame)) q || end then d else laid m background o d

-- what is laid inside it
abbrev within_here : Painter → FrameData → Blend → ℕ → Point → Colour → Colour
within_here p i m o q d = elim (has (sized (frame_size i.frame)) q) [ true ↦ inside_here p i m o q d | false ↦ d ]

-- both by whether the point is inside and whether the surface is the end of the range
abbrev both_laid : Painter → Colour → FrameData → Blend → ℕ → Point → Colour → Bool → Bool → Colour
both_laid p background i m o q d t u =
    let below = if t || u then d else laid m background o d in
    elim t [ true ↦ inside_here p i m o q below | false ↦ below ]

abbrev by_size : Painter → Colour → FrameData → Blend → ℕ → Point → Colour → Bool → Bool → Colour
by_size p background i m o q d t u =
    elim (not t && u) [
      | true ↦ d
      | false ↦ content_laid (λ e. elim t [ true ↦ embedded p p.path i q e | false ↦ over background e ]) m o d
    ]

sides : (p : Painter) (background : Colour) (i : FrameData) (m : Blend) (o : ℕ) (q : Point) (d : Colour) (t u : Bool) → both_laid p background i m o q d t u ≡ by_size p background i m o q d t u
sides p background i m o q d true u = refl
sides p background i m o q d false true = refl
sides p background i m o q d false false = sym (background_laid m o background d)

-- first what is laid outside, and then what is laid inside
shown_point : (p : Painter) (range : SurfaceRange) (background : Colour) (i : FrameData) (m : Blend) (o : ℕ) (end : Bool) (q : Point) (d : Colour) → end ≡ same_surface i.id range.end
    → within_here p i m o q (outside_here i end background m o q d) ≡ shown_here p range background i m o q d
unfolding is_absent content_at
shown_point p range background i m o end q d ends =
    sides p background i m o q d (has (sized (frame_size i.frame)) q) end ∙ ap (by_size p background i m o q d (has (sized (frame_size i.frame)) q)) ends

pub shown_painted : (p : Painter) (range : SurfaceRange) (background : Colour) (i : FrameData) (m : Blend) (o : ℕ) (local : Point) (from to : ℕ) (end : Bool) (old now mid : List Colour)
    → from ≤ to → to ≤ length old → end ≡ same_surface i.id range.end
    → ((k : ℕ) → k < length old → has (sized (frame_size i.frame)) (right_of local k) ≡ (nat_le from k && nat_lt k to))
    → length now ≡ length old
    → ((k : ℕ) → k < length old → get_or now k transparent ≡ (if (nat_le from k && nat_lt k to) || end then get_or old k transparent else laid m background o (get_or old k transparent)))
    → IsPainted (inside_here p i m o) (right_of local from) (take (to - from) (drop from now)) mid
    → IsPainted (shown_here p range background i m o) local old (put_mid from (to - from) now mid)
shown_painted p range background i m o local from to end old now mid up fits ends exact long outside is =
    then_painted (outside_here i end background m o) (within_here p i m o) (shown_here p range background i m o) local old now (put_mid from (to - from) now mid)
    (λ k d. shown_point p range background i m o end (right_of local k) d ends)
    (record { long = long; each = λ k low. outside k low ∙ ap (λ t. if t || end then get_or old k transparent else laid m background o (get_or old k transparent)) (sym (exact k low)) })
    (part_painted (inside_here p i m o) (within_here p i m o) (has (sized (frame_size i.frame))) local from to now mid up (omega (arith, fits, long))
    (λ k low. exact k (omega (arith, low, long))) (λ q d e. taken (has (sized (frame_size i.frame)) q) (inside_here p i m o q d) d e)
    (λ q d e. left_out (has (sized (frame_size i.frame)) q) (inside_here p i m o q d) d e) is)

-- only outside, if no place is inside
pub only_outside : (p : Painter) (range : SurfaceRange) (background : Colour) (i : FrameData) (m : Blend) (o : ℕ) (local : Point) (from to : ℕ) (end : Bool) (old now : List Colour)
    → to ≤ from → end ≡ same_surface i.id range.end
    → ((k : ℕ) → k < length old → has (sized (frame_size i.frame)) (right_of local k) ≡ (nat_le from k && nat_lt k to))
    → length now ≡ length old
    → ((k : ℕ) → k < length old → get_or now k transparent ≡ (if (nat_le from k && nat_lt k to) || end then get_or old k transparent else laid m background o (get_or old k transparent)))
    → IsPainted (shown_here p range background i m o) local old now
only_outside p range background i m o local from to end old now down ends exact long outside =
    then_painted (outside_here i end background m o) (within_here p i m o) (shown_here p range background i m o) local old now now
    (λ k d. shown_point p range background i m o end (right_of local k) d ends)
    (record { long = long; each = λ k low. outside k low ∙ ap (λ t. if t || end then get_or old k transparent else laid m background o (get_or old k transparent)) (sym (exact k low)) })
    (none_painted (within_here p i m o) (has (sized (frame_size i.frame))) local from to now down (λ k low. exact k (omega (arith, low, long)))
    (λ q d e. left_out (has (sized (frame_size i.frame)) q) (inside_here p i m o q d) d e))

pub straight_content : (p : Painter) (i : FrameData) (m : Blend) (o : ℕ) (first : Point) (old new : List Colour) → is_straight m o ≡ true
    → IsPainted (pix p.levels p.active p.path i) first old new → IsPainted (inside_here p i m o) first old new
unfolding content_laid
straight_content p i m o first old new is =
    repainted (pix p.levels p.active p.path i) (inside_here p i m o) first first old new (λ k d.
    taken (is_straight m o) (embedded p p.path i (right_of first k) d) (laid m (embedded p p.path i (right_of first k) transparent) o d) is)

pub laid_content : (p : Painter) (i : FrameData) (m : Blend) (o : ℕ) (first : Point) (old new : List Colour) → is_straight m o ≡ false
    → IsPainted (λ q d. laid m (pix p.levels p.active p.path i q transparent) o d) first old new → IsPainted (inside_here p i m o) first old new
unfolding content_laid
laid_content p i m o first old new is =
    repainted (λ q d. laid m (pix p.levels p.active p.path i q transparent) o d) (inside_here p i m o) first first old new (λ k d.
    left_out (is_straight m o) (embedded p p.path i (right_of first k) d) (laid m (embedded p p.path i (right_of first k) transparent) o d) is)

-- Surfaces

pub root_laid : (active : List FrameData) (levels : ℕ) (path : List SurfaceId) (i : FrameData) (id : SurfaceId) (start : Point) (earlier : List RenderPass) (root : RenderPass) (old new : List Colour)
    → (levels ≡ 0 → ⊥) → id ≡ i.id → i.frame.passes ≡ earlier ++ root ∷ []
    → IsPainted (pass_here (record { active = active; levels = levels - 1; path = id ∷ path; submitted = i }) earlier root) start old new
    → IsPainted (pix levels active path i) start old new
unfolding pix root_painted
root_laid active zero path i id start earlier root old new some same last = absurd (some refl)
root_laid active (suc n) path i id start earlier root old new some same last =
    let one : suc n - 1 ≡ n = omega arith in
    let turned : root ∷ reverse earlier ≡ reverse i.frame.passes = sym (reverse-append earlier (root ∷ [])) ∙ ap reverse (sym last) in
    repainted (pass_here (record { active = active; levels = suc n - 1; path = id ∷ path; submitted = i }) earlier root) (pix (suc n) active path i) start start old new (λ k d.
    ap (λ (m : ℕ). pass_here (record { active = active; levels = m; path = id ∷ path; submitted = i }) earlier root (right_of start k) d) one
    ∙ (ap (λ (x : SurfaceId). pass_here (record { active = active; levels = n; path = x ∷ path; submitted = i }) earlier root (right_of start k) d) same
    ∙ ap (λ (l : List RenderPass). root_painted i (embeds (pix n active) active (i.id ∷ path)) l (right_of start k) d) turned))

-- The display

-- what is seen at a point, by the frame on the root
abbrev looks : List FrameData → Point → Option FrameData → Colour
looks active q None = black
looks active q (Some i) = elim (has (sized (frame_size i.frame)) q) [ true ↦ pix levels active [] i q black | false ↦ black ]

abbrev seen : List FrameData → FrameData → Point → Colour → Colour
seen active i q d = elim (has (sized (frame_size i.frame)) q) [ true ↦ pix levels active [] i q d | false ↦ d ]

seen_on_black : (active : List FrameData) (root : SurfaceId) (i : FrameData) (q : Point) → frame_on root active ≡ Some i → seen active i q black ≡ full (record { root = root; active = active }) q
unfolding full
seen_on_black active root i q is = sym (ap (looks active q) is)

on_black : (active : List FrameData) (root : SurfaceId) (i : FrameData) (start : Point) (old new : List Colour) → frame_on root active ≡ Some i → ((k : ℕ) → k < length old → get_or old k transparent ≡ black)
    → IsPainted (seen active i) start old new → IsPainted (λ q d. full (record { root = root; active = active }) q) start old new
on_black active root i start old new is blank painted =
    record {
      long = painted.long;
      each = λ k low. painted.each k low ∙ (ap (seen active i (right_of start k)) (blank k low) ∙ seen_on_black active root i (right_of start k) is);
    }

pub full_painted : (active : List FrameData) (root : SurfaceId) (i : FrameData) (start : Point) (from to : ℕ) (old mid : List Colour) → from ≤ to → to ≤ length old → frame_on root active ≡ Some i
    → ((k : ℕ) → k < length old → get_or old k transparent ≡ black)
    → ((k : ℕ) → k < length old → has (sized (frame_size i.frame)) (right_of start k) ≡ (nat_le from k && nat_lt k to))
    → IsPainted (pix levels active [] i) (right_of start from) (take (to - from) (drop from old)) mid
    → IsPainted (λ q d. full (record { root = root; active = active }) q) start old (put_mid from (to - from) old mid)
full_painted active root i start from to old mid up fits is blank exact painted =
    on_black active root i start old (put_mid from (to - from) old mid) is blank
    (part_painted (pix levels active [] i) (seen active i) (has (sized (frame_size i.frame))) start from to old mid up fits exact
    (λ q d e. taken (has (sized (frame_size i.frame)) q) (pix levels active [] i q d) d e) (λ q d e. left_out (has (sized (frame_size i.frame)) q) (pix levels active [] i q d) d e) painted)

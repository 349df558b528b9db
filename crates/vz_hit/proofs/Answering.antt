-- What quads, passes and ranges answer, by what their parts do.
use Rattle.std.proofs.Common.{◌≡◌, ℕ, Bool, true, false, ◌&&◌, Option, Some, None, List, [], ◌∷◌, drop, length, get_or, slice_get, refl, ap, sym, ◌∙◌, cond, ◌+◌, ◌<◌, ◌≤◌}
use Rattle.std.proofs.lemmas.List.{drop_more, drop_all}
use Rattle.vz_geom.specs.declared.Point.{Point}
use Rattle.vz_geom.specs.Rectangle.{Rectangle, has, is_empty_rect, plus, minus, corner, sized}
use Rattle.vz_geom.proofs.Bounds.{in_is_full}
use Rattle.vz_ids.specs.declared.SurfaceRange.{SurfaceRange}
use Rattle.vz_pixels.specs.Colour.{Colour}
use Rattle.vz_frame.specs.declared.frame.RenderPass.{RenderPass}
use Rattle.vz_frame.specs.declared.frame.DrawQuad.{DrawQuad}
use Rattle.vz_frame.specs.declared.frame.Material.{Material}
use Rattle.vz_frame.specs.declared.frame.Material.TheVariants.{Solid, Tile, Surface, Pass}
use Rattle.vz_frame.specs.Frame.{frame_size}
use Rattle.vz_rules.specs.World.{FrameData}
use Rattle.vz_rules.specs.Scene.{shown_frame, or_else}
use Rattle.vz_rules.specs.Paint.{covers, on_path}
use Rattle.vz_rules.specs.Walk.{Placement, seen_part, place_in}
use Rattle.vz_rules.specs.Hit.{Target, material_hit, quads_hit, group_hit, shown_hit, range_hit}
use Rattle.vz_flat.specs.Parts.{surface_place}
use Rattle.vz_hit.specs.Parts.{group_place}
use Rattle.vz_hit.specs.Hitting.{Stand, in_window, own, ranges_of, named_of, quads_of, material_of, group_in, group_at, range_of, shown_of, gutter_of, entered}
use Rattle.vz_hit.proofs.Adding.{or_none, window_none}
use Rattle.vz_hit.proofs.Naming.{by_no, by_yes}
use Rattle.vz_hit.proofs.Pointing.{in_quad, in_pass, seen_at, part_at}

-- Quads

split_case : (c : Bool) (m later : Target)
    → ◌≡◌ {A = Target} (elim c [ true ↦ or_else m later | false ↦ later ]) (or_else (elim c [ true ↦ or_else m None | false ↦ None ]) later)
split_case true m later = ap (λ t. or_else t later) (sym (or_none m))
split_case false m later = refl

window_case : (w : Bool) (a b c : Target) → a ≡ or_else b c → ◌≡◌ {A = Target} (cond w a None) (or_else (cond w b None) (cond w c None))
window_case true a b c e = e
window_case false a b c e = refl

-- a quad in front of others answers first
quads_split : (s : Stand) (k : ℕ) (pass : RenderPass) (quad : DrawQuad) (behind : List DrawQuad) (by p : Point)
    → quads_of s k pass (quad ∷ behind) by p ≡ or_else (quads_of s k pass (quad ∷ []) by p) (quads_of s k pass behind by p)
unfolding quads_hit
quads_split s k pass quad behind by p = split_case (covers pass quad (minus p by)) _ _

-- the quads from a place on
pub quads_from : (s : Stand) (k : ℕ) (pass : RenderPass) (window : Rectangle) (by : Point) (quads : List DrawQuad) (n : ℕ) (quad : DrawQuad)
    → n < length quads → quad ≡ get_or quads n quad → (p : Point)
    → in_window window (quads_of s k pass (drop n quads) by) p ≡ or_else (in_window window (quads_of s k pass (quad ∷ []) by) p) (in_window window (quads_of s k pass (drop (n + 1) quads) by) p)
quads_from s k pass window by quads n quad low is p =
    ap (λ (l : List DrawQuad). in_window window (quads_of s k pass l by) p)
    (drop_more quads n quad low ∙ ap (λ (q : DrawQuad). q ∷ drop (n + 1) quads) (sym is))
    ∙ window_case (has window p) _ _ _ (quads_split s k pass quad (drop (n + 1) quads) by p)

-- after the last one there is none
pub quads_end : (s : Stand) (k : ℕ) (pass : RenderPass) (window : Rectangle) (by : Point) (quads : List DrawQuad) (n : ℕ) → length quads ≤ n → (p : Point)
    → in_window window (quads_of s k pass (drop n quads) by) p ≡ None
unfolding quads_hit
quads_end s k pass window by quads n most p =
    ap (λ (l : List DrawQuad). in_window window (quads_of s k pass l by) p) (drop_all n quads most) ∙ window_none (has window p)

seen_case : (w c t : Bool) (m n : Target) → t ≡ (w && c) → m ≡ n
    → ◌≡◌ {A = Target} (cond t m None) (cond w (elim c [ true ↦ or_else n None | false ↦ None ]) None)
seen_case true true t m n e f = rw e (f ∙ sym (or_none n))
seen_case true false t m n e f = rw e refl
seen_case false c t m n e f = rw e refl

-- what a quad draws at its own place is what it answers if it covers the point
drawn_is : (s : Stand) (k : ℕ) (quad : DrawQuad) (by p : Point)
    → material_of s k quad.material (plus (plus by quad.offset) (corner quad.area)) p ≡ material_hit (own s p) (named_of s k p) (ranges_of s p) quad (minus p by)
unfolding material_hit
drawn_is s k quad by p =
    ap {B = Target} (λ (l : Point). elim quad.material [ Pass id ↦ named_of s k p id l | Surface range background ↦ ranges_of s p range l | _ ↦ own s p ]) (in_quad quad p by)

-- and it answers at the points at which it is seen
pub quad_is : (s : Stand) (k : ℕ) (pass : RenderPass) (quad : DrawQuad) (place inner : Placement) → inner ≡ place_in place pass quad → (p : Point)
    → in_window inner.window (material_of s k quad.material inner.shift) p ≡ in_window place.window (quads_of s k pass (quad ∷ []) place.shift) p
unfolding quads_hit
quad_is s k pass quad place inner is p =
    ap (λ (i : Placement). in_window i.window (material_of s k quad.material i.shift) p) is
    ∙ seen_case (has place.window p) (covers pass quad (minus p place.shift)) (has (seen_part place pass quad) p) _ _ (seen_at pass quad place p)
    (drawn_is s k quad place.shift p)

-- if no point of it is seen it answers nothing
pub nothing_in : (window : Rectangle) (f : Point → Target) → is_empty_rect window ≡ true → (p : Point) → in_window window f p ≡ None
nothing_in window f empty p = by_test (has window p) refl
  where
    by_test : (t : Bool) → has window p ≡ t → ◌≡◌ {A = Target} (cond t (f p) None) None
    by_test true e = let full = in_is_full window p e in absurd (cc)
    by_test false e = refl

-- Materials

pub solid_is : (s : Stand) (k : ℕ) (m : Material) (c : Colour) (place : Placement) (window : Rectangle) → m ≡ Solid c → window ≡ place.window → (p : Point)
    → in_window window (own s) p ≡ in_window place.window (material_of s k m place.shift) p
solid_is s k m c place window e f p = rw (e, f) refl

pub tile_is : (s : Stand) (k : ℕ) (m : Material) (id tx ty : ℕ) (place : Placement) (window : Rectangle) → m ≡ Tile id tx ty → window ≡ place.window
    → (p : Point) → in_window window (own s) p ≡ in_window place.window (material_of s k m place.shift) p
tile_is s k m id tx ty place window e f p = rw (e, f) refl

pub embedding_is : (s : Stand) (k : ℕ) (m : Material) (range : SurfaceRange) (c : Colour) (place : Placement) → m ≡ Surface range c
    → (p : Point) → in_window place.window (range_of s range place.shift) p ≡ in_window place.window (material_of s k m place.shift) p
embedding_is s k m range c place e p = rw e refl

-- Passes

group_case : (w o t : Bool) (m n : Target) → t ≡ (w && o) → m ≡ n
    → ◌≡◌ {A = Target} (cond t m None) (cond w (elim o [ true ↦ n | false ↦ None ]) None)
group_case true true t m n e f = rw e f
group_case true false t m n e f = rw e refl
group_case false o t m n e f = rw e refl

-- a pass at its own place is what the quad that names it answers
pub group_is : (s : Stand) (k : ℕ) (pass : RenderPass) (place inner : Placement) → inner ≡ group_place pass place
    → slice_get s.seen.frame.passes k ≡ Some pass → (p : Point)
    → in_window inner.window (quads_of s k pass pass.quads inner.shift) p ≡ in_window place.window (group_at s place.shift (Some k)) p
unfolding group_hit
group_is s k pass place inner is there p =
    let by = minus place.shift (corner pass.output) in
    let l = plus (minus p place.shift) (corner pass.output) in
    ap (λ (i : Placement). in_window i.window (quads_of s k pass pass.quads i.shift) p) is
    ∙ (group_case (has place.window p) (has pass.output l) (has (group_place pass place).window p) _ _
    (part_at place.window pass.output by p ∙ ap (λ (q : Point). has place.window p && has pass.output q) (in_pass p place.shift (corner pass.output)))
    (ap (λ (q : Point). quads_hit (own s p) (named_of s k p) (ranges_of s p) pass pass.quads q) (in_pass p place.shift (corner pass.output)))
    ∙ ap (λ (o : Option RenderPass). in_window place.window (group_in s k place.shift o) p) (sym there))

-- Ranges

range_by : (s : Stand) (range : SurfaceRange) (by p : Point) (o : Option FrameData) → shown_frame s.active range ≡ o
    → range_of s range by p ≡ elim o [ None ↦ own s p | Some i ↦ elim (on_path s.path i) [ true ↦ None | false ↦ shown_of s range i by p ] ]
unfolding range_hit
range_by s range by p o e =
    ap {B = Target} (λ (x : Option FrameData). elim x [ None ↦ own s p | Some i ↦ elim (on_path s.path i) [ true ↦ None | false ↦ shown_of s range i by p ] ]) e

-- one that shows none
pub range_none : (s : Stand) (range : SurfaceRange) (place : Placement) (window : Rectangle) → window ≡ place.window → shown_frame s.active range ≡ None
    → (p : Point) → in_window window (own s) p ≡ in_window place.window (range_of s range place.shift) p
range_none s range place window is e p =
    ap (λ (w : Rectangle). in_window w (own s) p) is
    ∙ ap {B = Target} (λ t. cond (has place.window p) t None) (sym (range_by s range place.shift p None e))

-- one that shows a surface on the path
pub range_again : (s : Stand) (range : SurfaceRange) (window : Rectangle) (by : Point) (i : FrameData) → shown_frame s.active range ≡ Some i
    → on_path s.path i ≡ true → (p : Point) → in_window window (range_of s range by) p ≡ None
range_again s range window by i e on p =
    ap {B = Target} (λ t. cond (has window p) t None) (range_by s range by p (Some i) e ∙ by_yes (on_path s.path i) _ _ on)
    ∙ window_none (has window p)

-- one that shows another
pub range_some : (s : Stand) (range : SurfaceRange) (window : Rectangle) (by : Point) (i : FrameData) → shown_frame s.active range ≡ Some i
    → on_path s.path i ≡ false → (p : Point)
    → in_window window (shown_of s range i by) p ≡ in_window window (range_of s range by) p
range_some s range window by i e off p =
    ap {B = Target} (λ t. cond (has window p) t None) (sym (range_by s range by p (Some i) e ∙ by_no (on_path s.path i) _ _ off))

-- A surface that one shows

shown_case : (w z t : Bool) (g m : Target) → t ≡ (w && z)
    → ◌≡◌ {A = Target} (or_else (cond w (elim z [ true ↦ None | false ↦ g ]) None) (cond t m None)) (cond w (elim z [ true ↦ m | false ↦ g ]) None)
shown_case true true t g m e = rw e refl
shown_case true false t g m e = rw e (or_none g)
shown_case false z t g m e = rw e refl

-- a shown surface's gutter, and after it the surface
pub shown_is : (s : Stand) (range : SurfaceRange) (i : FrameData) (place inner : Placement) → inner ≡ surface_place i place → (p : Point)
    → or_else (in_window place.window (gutter_of s range i place.shift) p) (in_window inner.window (entered s.levels s.active s.path i inner.shift) p)
    ≡ in_window place.window (shown_of s range i place.shift) p
unfolding shown_hit
shown_is s range i place inner is p =
    ap
    (λ (j : Placement). or_else (in_window place.window (gutter_of s range i place.shift) p) (in_window j.window (entered s.levels s.active s.path i j.shift) p)) is
    ∙ shown_case (has place.window p) (has (sized (frame_size i.frame)) (minus p place.shift)) (has (surface_place i place).window p) _ _
    (part_at place.window (sized (frame_size i.frame)) place.shift p)

-- if no point of the surface is seen, its gutter alone
pub shown_empty : (s : Stand) (range : SurfaceRange) (i : FrameData) (place inner : Placement) → inner ≡ surface_place i place
    → is_empty_rect inner.window ≡ true → (p : Point)
    → in_window place.window (gutter_of s range i place.shift) p ≡ in_window place.window (shown_of s range i place.shift) p
shown_empty s range i place inner is empty p =
    let gutter : Target = in_window place.window (gutter_of s range i place.shift) p in
    sym (or_none gutter)
    ∙ (ap (λ t. or_else gutter t) (sym (nothing_in inner.window (entered s.levels s.active s.path i inner.shift) empty p))
    ∙ shown_is s range i place inner is p)

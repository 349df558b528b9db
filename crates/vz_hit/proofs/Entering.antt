-- What a surface answers that is entered, by its root pass.
use Rattle.std.proofs.Common.{◌≡◌, ℕ, zero, suc, pos, ◌+◌, ◌-◌, Bool, true, false, ◌&&◌, Option, Some, None, List, [], ◌∷◌, take, length, get_or, reverse, refl, sym, ap, ◌∙◌, cond, arith}
use Rattle.std.proofs.lemmas.List.{take_all}
use Rattle.vz_geom.specs.declared.Point.{Point}
use Rattle.vz_geom.specs.declared.Size.{Size}
use Rattle.vz_geom.specs.Rectangle.{Rectangle, has, minus, sized}
use Rattle.vz_ids.specs.declared.SurfaceId.{SurfaceId}
use Rattle.vz_frame.specs.declared.frame.RenderPass.{RenderPass}
use Rattle.vz_frame.specs.Frame.{frame_size}
use Rattle.vz_rules.specs.World.{FrameData}
use Rattle.vz_rules.specs.Paint.{levels}
use Rattle.vz_rules.specs.Walk.{Placement, whole}
use Rattle.vz_rules.specs.Hit.{Target, HitRange, root_hit, range_hit, hit, hit_at}
use Rattle.vz_surfaces.specs.Stored.{Stored}
use Rattle.vz_surfaces.specs.Reading.{seen_frames, active_on}
use Rattle.vz_walk.specs.Scenes.{scene_in}
use Rattle.vz_flat.specs.Parts.{surface_place}
use Rattle.vz_hit.specs.Parts.{from_origin}
use Rattle.vz_hit.specs.Hitting.{in_window, quads_of, entered}
use Rattle.vz_hit.proofs.Adding.{window_none}
use Rattle.vz_hit.proofs.Pointing.{moved_by, not_moved, part_at}
use Rattle.vz_hit.proofs.Naming.{turned}

-- with no surface left nothing is hit
pub no_levels : (n : ℕ) (active : List FrameData) (path : List SurfaceId) (i : FrameData) (window : Rectangle) (by : Point) → n ≡ 0 → (p : Point)
    → in_window window (entered n active path i by) p ≡ None
unfolding hit
no_levels n active path i window by e p = ap (λ m. in_window window (entered m active path i by) p) e ∙ window_none (has window p)

no_root : (here : Target) (ranges : HitRange) (passes : List RenderPass) (q : Point) → length passes ≡ 0
    → root_hit here ranges (reverse passes) q ≡ None
unfolding root_hit
no_root here ranges [] q e = refl
no_root here ranges (r ∷ rs) q e = absurd (omega arith)

-- nor in a frame without passes
no_hit : (n : ℕ) (active : List FrameData) (path : List SurfaceId) (i : FrameData) (by : Point) → length i.frame.passes ≡ 0 → (p : Point)
    → entered n active path i by p ≡ None
unfolding hit
no_hit zero active path i by e p = refl
no_hit (suc n) active path i by e p = no_root _ _ i.frame.passes (minus p by) e

pub no_passes : (n : ℕ) (active : List FrameData) (path : List SurfaceId) (i : FrameData) (window : Rectangle) (by : Point) (passes : List RenderPass)
    → passes ≡ i.frame.passes → length passes ≡ 0 → (p : Point) → in_window window (entered n active path i by) p ≡ None
no_passes n active path i window by passes own e p =
    ap (λ t. cond (has window p) t None) (no_hit n active path i by (sym (ap length own) ∙ e) p) ∙ window_none (has window p)

-- the root pass is the last one
last_first : (passes : List RenderPass) (k : ℕ) (root : RenderPass) → k + 1 ≡ length passes → root ≡ get_or passes k root
    → reverse passes ≡ root ∷ reverse (take k passes)
last_first passes k root e here =
    ap reverse (sym (take_all (k + 1) passes (omega arith)))
    ∙ (turned passes k root (omega arith) ∙ ap (λ (r : RenderPass). r ∷ reverse (take k passes)) (sym here))

-- it answers what the surface does
pub root_is : (levels : ℕ) (active : List FrameData) (path : List SurfaceId) (i : FrameData) (id : SurfaceId) (window : Rectangle) (by back : Point) (passes : List RenderPass)
    (k : ℕ) (root : RenderPass) → (levels ≡ 0 → ⊥) → id ≡ i.id → back ≡ from_origin by → passes ≡ i.frame.passes
    → k + 1 ≡ length passes → root ≡ get_or passes k root → (p : Point)
    → in_window window (quads_of (record { active = active; levels = levels - 1; path = id ∷ path; seen = i; shift = back }) k root root.quads by) p
    ≡ in_window window (entered levels active path i by) p
unfolding hit root_hit
root_is zero active path i id window by back passes k root some same moves own e here p = absurd (some refl)
root_is (suc n) active path i id window by back passes k root some same moves own e here p =
    let one : suc n - 1 ≡ n = omega arith in
    let last : k + 1 ≡ length i.frame.passes = e ∙ ap length own in
    let there : root ≡ get_or i.frame.passes k root = here ∙ ap (λ l. get_or l k root) own in
    ap (λ (m : ℕ). in_window window (quads_of (record { active = active; levels = m; path = id ∷ path; seen = i; shift = back }) k root root.quads by) p) one
    ∙ (ap (λ (x : SurfaceId). in_window window (quads_of (record { active = active; levels = n; path = x ∷ path; seen = i; shift = back }) k root root.quads by) p) same
    ∙ (ap (λ (q : Point). cond (has window p) (root_hit (Some (i.id, q)) (range_hit (Some (i.id, q)) (hit n active) active (i.id ∷ path)) (root ∷ reverse (take k i.frame.passes)) (minus p by)) None) (moved_by p by back moves)
    ∙ ap (λ l. cond (has window p) (root_hit (Some (i.id, minus p by)) (range_hit (Some (i.id, minus p by)) (hit n active) active (i.id ∷ path)) l (minus p by)) None)
    (sym (last_first i.frame.passes k root last there))))

-- The root surface

scene_by : (size : Size) (st : Stored) (root : SurfaceId) (p : Point) (o : Option FrameData) → active_on st root ≡ o
    → in_window (sized size) (hit_at (scene_in root st)) p
    ≡ in_window (sized size) (λ q. elim o [ None ↦ None | Some i ↦ elim (has (sized (frame_size i.frame)) q) [ true ↦ hit levels (seen_frames st) [] i q | false ↦ None ] ]) p
unfolding hit_at active_on
scene_by size st root p o e =
    ap {B = Target} (λ (x : Option FrameData). in_window (sized size) (λ q. elim x [ None ↦ None | Some i ↦ elim (has (sized (frame_size i.frame)) q) [ true ↦ hit levels (seen_frames st) [] i q | false ↦ None ] ]) p) e

-- none is there
pub no_scene : (size : Size) (st : Stored) (root : SurfaceId) → active_on st root ≡ None → (p : Point)
    → in_window (sized size) (hit_at (scene_in root st)) p ≡ None
no_scene size st root e p = scene_by size st root p None e ∙ window_none (has (sized size) p)

root_case : (w z t : Bool) (m n : Target) → t ≡ (w && z) → m ≡ n
    → ◌≡◌ {A = Target} (cond t m None) (cond w (elim z [ true ↦ n | false ↦ None ]) None)
root_case true true t m n e f = rw e f
root_case true false t m n e f = rw e refl
root_case false z t m n e f = rw e refl

-- it is entered at the origin
pub scene_is : (size : Size) (st : Stored) (root : SurfaceId) (i : FrameData) (place at_root : Placement) → active_on st root ≡ Some i
    → at_root ≡ whole size → place ≡ surface_place i at_root → (p : Point)
    → in_window place.window (entered 65 (seen_frames st) [] i place.shift) p ≡ in_window (sized size) (hit_at (scene_in root st)) p
unfolding levels
scene_is size st root i place at_root e f g p =
    ap (λ (j : Placement). in_window j.window (entered 65 (seen_frames st) [] i j.shift) p) (g ∙ ap (surface_place i) f)
    ∙ (root_case (has (sized size) p) (has (sized (frame_size i.frame)) p) (has (surface_place i (whole size)).window p) _ _
    (part_at (sized size) (sized (frame_size i.frame)) (record { x = pos 0; y = pos 0 }) p ∙ ap (λ (q : Point). has (sized size) p && has (sized (frame_size i.frame)) q) (not_moved p))
    (ap (λ (q : Point). hit 65 (seen_frames st) [] i q) (not_moved p))
    ∙ sym (scene_by size st root p (Some i) e))

-- That a scene's operations do at each point of the display what painting does.
use Rattle.std.proofs.Common.{◌≡◌, pos, Bool, true, false, Option, Some, None, [], refl, ap, sym, ◌∙◌, cond, arith}
use Rattle.std.proofs.{lemmas.Int.ints, lemmas.Bool.Decides.nat_tests}
use Rattle.vz_geom.specs.{declared.Point.Point, declared.Size.Size}
use Rattle.vz_geom.specs.Rectangle.{Rectangle, has, plus, moved, sized}
use Rattle.vz_geom.proofs.{Points.same_point, Sets.has_moved_is, Sets.has_meet_is}
use Rattle.vz_pixels.specs.Colour.{Colour, black}
use Rattle.vz_frame.specs.Frame.{frame_size}
use Rattle.vz_rules.specs.{World.FrameData, World.Scene, World.frame_on, Paint.full, Paint.pix, Paint.levels, Walk.walk_of, Walk.whole, Walk.too_much}
use Rattle.vz_flat.specs.{Ops.run, Ops.value, Parts.seen_flat, Parts.surface_place, Flat.flat, Flat.scene_flat}
use Rattle.vz_flat.proofs.{Acting.value_of_acts, Acting.acts_same, Acting.acts_seen, Levelled.pix_until, Levelled.enough_levels, Flattened.flat_acts}

at_origin : (p : Point) → plus p (record { x = pos 0; y = pos 0 }) ≡ p
at_origin p = same_point (omega (arith, ints)) (omega (arith, ints))

in_size : (r : Rectangle) (p : Point) → has (moved r (record { x = pos 0; y = pos 0 })) p ≡ has r p
in_size r p = ap (has (moved r (record { x = pos 0; y = pos 0 }))) (sym (at_origin p)) ∙ has_moved_is r (record { x = pos 0; y = pos 0 }) p

-- the root's part of the display
root_part : (size : Size) (i : FrameData) (p : Point) → has (sized size) p ≡ true
    → has (surface_place i (whole size)).window p ≡ has (sized (frame_size i.frame)) p
root_part size i p inside = grind (arith, nat_tests, has_meet_is (sized size), in_size (sized (frame_size i.frame)) p)

by_size : (t : Bool) (f g : Colour → Colour) (d : Colour) → f d ≡ g d → cond t (g d) d ≡ elim t [ true ↦ f d | false ↦ d ]
by_size t f g d e = grind (arith, nat_tests)

by_root : (size : Size) (scene : Scene) (p : Point) → too_much (walk_of size scene) ≡ false → has (sized size) p ≡ true
    → (s : Option FrameData) → frame_on scene.root scene.active ≡ s
    → value (elim s [ None ↦ [] | Some i ↦ seen_flat (surface_place i (whole size)).window (flat 64 scene.active [] i (surface_place i (whole size))) ]) p black
    ≡ elim s [ None ↦ black | Some i ↦ elim (has (sized (frame_size i.frame)) p) [ true ↦ pix levels scene.active [] i p black | false ↦ black ] ]
unfolding value run
by_root size scene p bounded inside None e = refl
by_root size scene p bounded inside (Some i) e =
    let place = surface_place i (whole size) in
    let w = has (sized (frame_size i.frame)) p in
    value_of_acts p _ (λ d. cond w (pix_until 64 scene.active [] i p d) d)
    (acts_seen p place.window (flat 64 scene.active [] i place) (pix_until 64 scene.active [] i p) w (root_part size i p inside)
    (acts_same p _ _ _ (λ d. ap (λ t. cond t (pix_until 64 scene.active [] i p d) d) (root_part size i p inside))
    (flat_acts p scene.active 64 [] i p place (at_origin p)))) black
    ∙ by_size w (pix levels scene.active [] i p) (pix_until 64 scene.active [] i p) black
    (enough_levels size scene i p black e bounded inside)

pub flat_is_painted : (size : Size) (scene : Scene) (p : Point) → too_much (walk_of size scene) ≡ false → has (sized size) p ≡ true
    → value (scene_flat size scene) p black ≡ full scene p
unfolding scene_flat full
flat_is_painted size scene p bounded inside = by_root size scene p bounded inside (frame_on scene.root scene.active) refl

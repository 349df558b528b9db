-- What is hit, by what was found for it.
use Rattle.std.proofs.Common.{◌≡◌, Bool, true, false, Option, Some, None, List, [], refl, sym, ap, ◌∙◌}
use Rattle.std.specs.Option.{option_and_then}
use Rattle.vz_geom.specs.declared.Point.{Point}
use Rattle.vz_geom.specs.Rectangle.{has, sized}
use Rattle.vz_ids.specs.declared.SurfaceId.{SurfaceId}
use Rattle.vz_frame.specs.Frame.{frame_size}
use Rattle.vz_rules.specs.Plan.{Plan}
use Rattle.vz_rules.specs.World.{World, Scene, FrameData, frame_on, active_frames}
use Rattle.vz_rules.specs.Scene.{scene_of}
use Rattle.vz_rules.specs.Walk.{walk_of, too_much}
use Rattle.vz_rules.specs.Paint.{levels}
use Rattle.vz_rules.specs.Hit.{Target, hit, hit_at}
use Rattle.vz_rules.specs.Whole.{walk_in, too_much_in, drawable_in, hit_in}
use Rattle.vz_slow.proofs.Drawing.{scene_root, scene_nowhere}

-- what is hit in a scene, unless it is too much
abbrev hit_by : Option Scene → Bool → Point → Target
hit_by o t q = option_and_then (λ (scene : Scene). hit_at scene q) (elim t [ true ↦ None | false ↦ o ])

-- nothing can be seen
nothing_seen : (p : Plan) (w : World) (q : Point) → scene_of w ≡ None → None ≡ hit_in p w q
unfolding hit_in drawable_in
nothing_seen p w q e = none (too_much_in p w) ∙ ap (λ o. hit_by o (too_much_in p w) q) (sym e)
  where
    none : (t : Bool) → None ≡ hit_by None t q
    none true = refl
    none false = refl

-- a scene can be seen
seen : (p : Plan) (w : World) (q : Point) (scene : Scene) → scene_of w ≡ Some scene → hit_by (Some scene) (too_much (walk_of p.size scene)) q ≡ hit_in p w q
unfolding hit_in drawable_in too_much_in walk_in
seen p w q scene e =
    ap (λ o. hit_by o (too_much (elim o [ Some s ↦ walk_of p.size s | None ↦ [] ])) q) (sym e)

-- no root is named
pub hit_nowhere : (p : Plan) (w : World) (q : Point) (o : Option SurfaceId) → o ≡ w.root → o ≡ None → None ≡ hit_in p w q
hit_nowhere p w q o e none = nothing_seen p w q (scene_nowhere w (sym e ∙ none))

-- the scene of a root, by the frame on it
by_frame : (w : World) (root : SurfaceId) (o : Option FrameData) → w.root ≡ Some root → frame_on root (active_frames w.subs) ≡ o
    → scene_of w ≡ (elim o [ Some i ↦ Some (record { root = root; active = active_frames w.subs }) | None ↦ None ])
by_frame w root o e f =
    scene_root w root e ∙ ap (λ (k : Option FrameData). elim k [ Some i ↦ Some (record { root = root; active = active_frames w.subs }) | None ↦ None ]) f

-- nothing is hit where no frame is on the root
hit_off : (scene : Scene) (q : Point) → frame_on scene.root scene.active ≡ None → hit_at scene q ≡ None
unfolding hit_at
hit_off scene q f =
    ap (λ (o : Option FrameData). elim o [ None ↦ None | Some i ↦ elim (has (sized (frame_size i.frame)) q) [ true ↦ hit levels scene.active [] i q | false ↦ None ] ]) f

-- what is hit in a scene or its absence, by whether the walk is too much
abbrev by_test : Scene → Point → Bool → Target
by_test scene q t = elim t [ true ↦ None | false ↦ hit_at scene q ]

-- what is hit in a world with a root, by the frame on it
hit_by_frame : (p : Plan) (w : World) (q : Point) (scene : Scene) (o : Option FrameData) → frame_on scene.root scene.active ≡ o → scene_of w ≡ (elim o [ Some i ↦ Some scene | None ↦ None ])
    → by_test scene q (too_much (walk_of p.size scene)) ≡ hit_in p w q
hit_by_frame p w q scene None f is = none (too_much (walk_of p.size scene)) ∙ nothing_seen p w q is
  where
    none : (t : Bool) → by_test scene q t ≡ None
    none true = refl
    none false = hit_off scene q f
hit_by_frame p w q scene (Some i) f is = both (too_much (walk_of p.size scene)) ∙ seen p w q scene is
  where
    both : (t : Bool) → by_test scene q t ≡ hit_by (Some scene) t q
    both true = refl
    both false = refl

-- what is hit in a world with a root, by the walk from it
hit_rooted : (p : Plan) (w : World) (q : Point) (root : SurfaceId) (active : List FrameData) (t : Bool) → w.root ≡ Some root → active ≡ active_frames w.subs
    → too_much (walk_of p.size (record { root = root; active = active })) ≡ t → by_test (record { root = root; active = active }) q t ≡ hit_in p w q
hit_rooted p w q root active t e f g =
    let scene : Scene = record { root = root; active = active } in
    ap (by_test scene q) (sym g)
    ∙ hit_by_frame p w q scene (frame_on root active) refl
    (by_frame w root (frame_on root active) e (ap (frame_on root) (sym f)) ∙ ap (λ l. elim (frame_on root active) [ Some i ↦ Some (record { root = root; active = l }) | None ↦ None ]) (sym f))

-- too much is to be walked
pub hit_too_much : (p : Plan) (w : World) (q : Point) (root : SurfaceId) (active : List FrameData) → w.root ≡ Some root → active ≡ active_frames w.subs
    → too_much (walk_of p.size (record { root = root; active = active })) ≡ true → None ≡ hit_in p w q
hit_too_much p w q root active e f g = hit_rooted p w q root active true e f g

-- the scene is drawable
pub hit_scene : (p : Plan) (w : World) (q : Point) (root : SurfaceId) (active : List FrameData) → w.root ≡ Some root → active ≡ active_frames w.subs
    → too_much (walk_of p.size (record { root = root; active = active })) ≡ false → hit_at (record { root = root; active = active }) q ≡ hit_in p w q
hit_scene p w q root active e f g = hit_rooted p w q root active false e f g

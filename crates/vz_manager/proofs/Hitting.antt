-- What is hit on a display: the root that a drawing would walk from, and the regions of what it would show.
use Rattle.std.proofs.Common.{◌≡◌, ◌↔◌, Bool, true, false, Option, Some, None, List, [], refl, ap, sym, ◌∙◌, subst}
use Rattle.std.specs.Option.{option_and_then}
use Rattle.vz_geom.specs.{declared.Point.Point, declared.Size.Size, Rectangle.has, Rectangle.sized}
use Rattle.vz_ids.specs.declared.SurfaceId.{SurfaceId}
use Rattle.vz_rules.specs.{Plan.Plan, Hit.Target, Hit.hit_at}
use Rattle.vz_rules.specs.World.{World, Scene, FrameData, active_frames, frame_on}
use Rattle.vz_rules.specs.{Scene.scene_of, Walk.Visit, Walk.walk_of, Walk.too_much, Whole.drawable_in, Whole.too_much_in, Whole.walk_in, Whole.hit_in}
use Rattle.vz_surfaces.specs.{Stored.Stored, Reading.active_on}
use Rattle.vz_surfaces.proofs.Telling.{tells_active}
use Rattle.vz_walk.specs.Scenes.{scene_in, walked_in}
use Rattle.vz_damage.specs.Accepted.{scene_from}
use Rattle.vz_surface_manager.proofs.Viewed.{rootless, unseen_root, seen_root}
use Rattle.vz_hit.specs.{declared.region.Region.Region, Regions.found}
use Rattle.vz_manager.specs.{Serving.Served, Serving.Serves, Hitting.found_in}
use Rattle.vz_manager.proofs.{Showing.draws_there, Depicting.scene_is, Depicting.walked_is}

-- What a drawing would show

-- what it shows of what can be seen, by whether that is too much
abbrev unless : Option Scene → Bool → Option Scene
unless o t = elim t [ true ↦ None | false ↦ o ]

abbrev visits_of : Plan → Option Scene → List Visit
visits_of p o = elim o [ Some scene ↦ walk_of p.size scene | None ↦ [] ]

drawable_by : (p : Plan) (w : World) (o : Option Scene) → scene_of w ≡ o → drawable_in p w ≡ unless o (too_much (visits_of p o))
unfolding drawable_in too_much_in walk_in
drawable_by p w o e = ap (λ (s : Option Scene). unless s (too_much (visits_of p s))) e

none_unless : (t : Bool) → unless None t ≡ None
none_unless true = refl
none_unless false = refl

unseen_shows : (p : Plan) (w : World) → scene_of w ≡ None → drawable_in p w ≡ None
unseen_shows p w e = drawable_by p w None e ∙ none_unless (too_much (visits_of p None))

seen_shows : (p : Plan) (w : World) (s : Scene) (t : Bool) → scene_of w ≡ Some s → too_much (walk_of p.size s) ≡ t
    → drawable_in p w ≡ unless (Some s) t
seen_shows p w s t e f = drawable_by p w (Some s) e ∙ ap (unless (Some s)) f

-- no root is given
pub shows_rootless : (p : Plan) (w : World) → w.root ≡ None → drawable_in p w ≡ None
shows_rootless p w e = unseen_shows p w (rootless w e)

module _ (p : Plan) (w : World) (v : Served) (root : SurfaceId) (st : Stored) (h : Serves p w v) (rooted : w.root ≡ Some root)
    (same : st ≡ v.settling.live.store) where
  active_is : active_on st root ≡ frame_on root (active_frames w.subs)
  active_is = ap (λ (x : Stored). active_on x root) (same ∙ h.settling.live.store) ∙ tells_active w root h.keeps.always

  walks_as : walked_in v.size root st ≡ walk_of p.size (scene_from root w)
  walks_as = walked_is p w v.support.root v.size v.settling.live (draws_there p w v h) root st same

  -- nothing is active on the root
  pub shows_unseen : active_on st root ≡ None → drawable_in p w ≡ None
  shows_unseen none = unseen_shows p w (unseen_root w root rooted (sym active_is ∙ none))

  module _ (i : FrameData) (there : active_on st root ≡ Some i) where
    seen_there : scene_of w ≡ Some (scene_from root w)
    seen_there = seen_root w root i rooted (sym active_is ∙ there)

    -- the walk from it is too much
    pub shows_heavy : too_much (walked_in v.size root st) ≡ true → drawable_in p w ≡ None
    shows_heavy much = seen_shows p w (scene_from root w) true seen_there (sym (ap too_much walks_as) ∙ much)

    -- or it is not
    pub shows_whole : too_much (walked_in v.size root st) ≡ false → drawable_in p w ≡ Some (scene_from root w)
    shows_whole few = seen_shows p w (scene_from root w) false seen_there (sym (ap too_much walks_as) ∙ few)

-- What is hit

hit_by : (p : Plan) (w : World) (q : Point) (o : Option Scene) → drawable_in p w ≡ o
    → hit_in p w q ≡ option_and_then (λ (scene : Scene). hit_at scene q) o
unfolding hit_in
hit_by p w q o e = ap (λ (s : Option Scene). option_and_then (λ (scene : Scene). hit_at scene q) s) e

-- nothing is hit where nothing would be shown
pub none_hit : (p : Plan) (w : World) (q : Point) → drawable_in p w ≡ None → None ≡ hit_in p w q
none_hit p w q e = sym (hit_by p w q None e)

-- regions answer what is hit in what would be shown
pub found_hit : (p : Plan) (w : World) (v : Served) (root : SurfaceId) (st : Stored) (regions : List Region) (q : Point) → Serves p w v
    → st ≡ v.settling.live.store → drawable_in p w ≡ Some (scene_from root w) → found regions q ≡ hit_at (scene_in root st) q
    → found regions q ≡ hit_in p w q
found_hit p w v root st regions q h same shows hits =
    hits ∙ (ap (λ (s : Scene). hit_at s q) (scene_is p w v.support.root v.size v.settling.live (draws_there p w v h) root st same)
    ∙ sym (hit_by p w q (Some (scene_from root w)) shows))

-- there are regions where something would be shown
pub none_alike : (p : Plan) (w : World) → drawable_in p w ≡ None → (◌≡◌ {A = Option (List Region)} None None) ↔ (drawable_in p w ≡ None)
none_alike p w e = (λ f. e, λ f. refl)

pub some_alike : (p : Plan) (w : World) (regions : List Region) (scene : Scene) → drawable_in p w ≡ Some scene
    → (Some regions ≡ None) ↔ (drawable_in p w ≡ None)
some_alike p w regions scene e = (λ f. absurd (cc), λ f. other (sym e ∙ f))
  where
    other : {A : Type 0} → Some scene ≡ None → A
    other f = absurd (cc)

-- the display is the plan's
pub on_display : (p : Plan) (w : World) (v : Served) (q : Point) (t : Bool) → Serves p w v → has (sized p.size) q ≡ t → has (sized v.size) q ≡ t
on_display p w v q t h e = ap (λ (s : Size). has (sized s) q) h.size ∙ e

-- what is found in what is there
pub found_there : (regions there : Option (List Region)) (q : Point) (t : Target) → regions ≡ there → found_in regions q ≡ t
    → found_in there q ≡ t
found_there regions there q t is = subst (λ (rs : Option (List Region)). found_in rs q ≡ t) is

-- A drawing's picture shows what can be seen of the state, and what changed in it is on the display.
use Rattle.std.proofs.Common.{◌≡◌, true, false, Option, Some, None, List, [], ◌∷◌, map, refl, ap, sym, ◌∙◌, subst, Contains}
use Rattle.vz_geom.specs.{declared.Point.Point, declared.Size.Size, Display.IsDisplaySize}
use Rattle.vz_geom.specs.Rectangle.{Rectangle, Covers, has, sized, points_of}
use Rattle.vz_ids.specs.declared.SurfaceId.{SurfaceId}
use Rattle.vz_pixels.specs.Colour.{Colour, black}
use Rattle.vz_rules.specs.{declared.entry.Event.TheVariants.Draw, declared.entry.Reply.TheVariants.Drawn, declared.entry.Reply.TheVariants.Unchanged}
use Rattle.vz_rules.specs.{declared.entry.Reply.Reply, Plan.Plan, Paint.full, Paint.picture, Walk.walk_of, Walk.too_much, Kept.IsWhole}
use Rattle.vz_rules.specs.World.{World, Scene, FrameData, Submission, active_frames}
use Rattle.vz_rules.specs.Step.{draw_answer, answer_to, outcome_of, step_in, accepted_frames}
use Rattle.vz_rules.proofs.{Drawings.Says, Drawings.says_step, Members.contains_here, Members.contains_there, Members.contains_map}
use Rattle.vz_rules.proofs.{Kept_inside.damage_covered, Patches.in_display}
use Rattle.vz_surfaces.specs.{Stored.Stored, Stored.stored_of, Stored.bare_sub, Reading.seen_frames, Keeping.KeepsStored, Keeping.KeepsFrames}
use Rattle.vz_surfaces.proofs.{Kept_of_world.keeps_of_world, Telling.seen_all}
use Rattle.vz_walk.specs.Scenes.{scene_in, walked_in}
use Rattle.vz_damage.specs.Accepted.{scene_from}
use Rattle.vz_surface_manager.specs.{Allowed.drawn_reply, Live.Live, Live.AreWhole, Drawn_frame.IsDrawing, Drawn_frame.IsShowing}
use Rattle.vz_flat.specs.{declared.op.Op.Op, Ops.value}
use Rattle.vz_occlude.specs.Pictures.{Flattened}
use Rattle.vz_manager.specs.Picturing.{LookLike, IsAnswered, IsPainted}

-- What is painted

-- what is the same at each of some points
same_each : (f g : Point → Colour) (qs : List Point) → ((q : Point) → Contains qs q → f q ≡ g q) → map f qs ≡ map g qs
same_each f g [] h = refl
same_each f g (q ∷ qs) h =
    ap (λ (c : Colour). c ∷ map f qs) (h q (contains_here q qs))
    ∙ ap (λ (l : List Colour). g q ∷ l) (same_each f g qs (λ x m. h x (contains_there q x qs m)))

-- What a drawing walks through

frames_stored : (w : World) → AreWhole w.subs → KeepsFrames (stored_of w)
unfolding stored_of
frames_stored w h s c =
    let m = contains_map bare_sub w.subs s c in
    subst IsWhole (ap (λ (x : Submission). x.submitted) m.2) (h m.0 m.1)

module _ (p : Plan) (w : World) (root : Option SurfaceId) (size : Size) (v : Live) (h : IsDrawing p w root size v) where
  -- also of a value that is read of it
  pub store_keeps : (st : Stored) → st ≡ v.store → KeepsStored st
  store_keeps st e = subst KeepsStored (sym (e ∙ h.live.store)) (keeps_of_world w h.keeps.always)

  pub frames_fit : (st : Stored) → st ≡ v.store → KeepsFrames st
  frames_fit st e = subst KeepsFrames (sym (e ∙ h.live.store)) (frames_stored w h.live.whole)

  frames_are : (st : Stored) → st ≡ v.store → seen_frames st ≡ active_frames w.subs
  frames_are st e = ap (λ (x : Stored). seen_frames x) (e ∙ h.live.store) ∙ seen_all w h.keeps.always

  pub display_is : IsDisplaySize size
  display_is = subst IsDisplaySize h.sized_as h.plan.sizes

  pub scene_is : (root : SurfaceId) (st : Stored) → st ≡ v.store → scene_in root st ≡ scene_from root w
  scene_is root st e = ap (λ (l : List FrameData). record { root = root; active = l }) (frames_are st e)

  pub walked_is : (root : SurfaceId) (st : Stored) → st ≡ v.store → walked_in size root st ≡ walk_of p.size (scene_from root w)
  walked_is root st e = λ i. walk_of (sym h.sized_as i) (scene_is root st e i)

module _ (p : Plan) (w : World) (root : SurfaceId) (size : Size) (v : Live) (h : IsShowing p w root size v) where
  pub bounded_is : (st : Stored) → st ≡ v.store → too_much (walked_in size root st) ≡ false
  bounded_is st e = ap too_much (walked_is p w (Some root) size v h.drawing root st e) ∙ h.walks.fits

  -- the operations whose value at each point of the display is the definitions' look like what can be seen
  pub look_like : (st : Stored) (ops : List Op) → st ≡ v.store
      → ((q : Point) → has (sized size) q ≡ true → value ops q black ≡ full (scene_in root st) q) → LookLike p w ops
  look_like st ops e at =
      record {
        scene = scene_from root w;
        seen = h.walks.seen;
        colours = λ q inside.
            at q (subst (λ s. has (sized s) q ≡ true) h.drawing.sized_as inside)
            ∙ ap (λ (s : Scene). full s q) (scene_is p w (Some root) size v h.drawing root st e);
      }

-- The picture

-- what a step's answer to a drawing says is what the drawing's own answer says
says_draw : (p : Plan) (w : World) → Says p w (draw_answer p w).reply
unfolding step_in outcome_of answer_to
says_draw p w = says_step p w Draw

module _ (p : Plan) (w : World) (size : Size) (damage : Rectangle) (h : IsAnswered p w size (Drawn damage)) where
  said : Says p w (Drawn damage)
  said = subst (Says p w) (sym h.reply_is) (says_draw p w)

  -- the damage is on the display
  damage_inside : Covers (sized p.size) damage
  damage_inside = subst (Covers (sized p.size)) (sym said.2) (damage_covered p.size w.last (accepted_frames w) said.0)

  -- and the size is that of a display
  pub sides_are : IsDisplaySize size
  sides_are = subst IsDisplaySize h.sized_as h.plan.sizes

  pub inside_is : Covers (sized size) damage
  inside_is = subst (λ s. Covers (sized s) damage) h.sized_as damage_inside

  colours_are : (ops : List Op) (look : LookLike p w ops)
      → map (λ q. value ops q black) (points_of p.size) ≡ picture p.size look.scene
  unfolding picture
  colours_are ops look =
      same_each (λ q. value ops q black) (full look.scene) (points_of p.size)
      (λ q m. look.colours q (in_display p.size q h.plan.sizes m))

  pub shows : (ops : List Op) → LookLike p w ops
      → IsPainted p w (Drawn damage) (Some (record { size = size; ops = ops; damage = damage }))
  shows ops look = (
    look.scene,
    look.seen,
    record {
      size = sym h.sized_as;
      colours = ap (λ s. map (λ q. value ops q black) (points_of s)) (sym h.sized_as) ∙ colours_are ops look;
    },
    refl,
  )

-- a drawing that walks is answered by what changed
pub answered_so : (p : Plan) (w : World) (root : SurfaceId) (size : Size) (v : Live) (changed : Option Rectangle) (damage : Rectangle)
    → IsShowing p w root size v → drawn_reply changed ≡ (draw_answer p w).reply → changed ≡ Some damage
    → IsAnswered p w size (Drawn damage)
answered_so p w root size v changed damage h is some =
    record { plan = h.drawing.plan; sized_as = h.drawing.sized_as; reply_is = ap drawn_reply (sym some) ∙ is }

-- a step that is answered so has this picture, and none where nothing changed
pub painted_so : (p : Plan) (w : World) (r : Reply) (damage : Rectangle) (f : Flattened) → r ≡ Drawn damage
    → IsPainted p w (Drawn damage) (Some f) → IsPainted p w r (Some f)
painted_so p w r damage f is painted = subst (λ (x : Reply). IsPainted p w x (Some f)) (sym is) painted

pub unpainted : (p : Plan) (w : World) (r : Reply) → r ≡ Unchanged → IsPainted p w r None
unpainted p w r is = subst (λ (x : Reply). IsPainted p w x None) (sym is) tt

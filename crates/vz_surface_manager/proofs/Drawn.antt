-- A drawing: what is answered, and what hangs on surfaces stands for the state that it leaves.
use Rattle.std.proofs.Common.{◌≡◌, Bool, true, false, Option, Some, None}
use Rattle.std.proofs.Common.{is_some, List, refl, ap, sym, ◌∙◌, subst, arith, cond, Contains}
use Rattle.std.specs.{Option.option_map, Prelude.IfSome}
use Rattle.vz_geom.specs.{declared.Size.Size, Rectangle.Rectangle}
use Rattle.vz_ids.specs.{declared.SurfaceId.SurfaceId}
use Rattle.vz_rules.specs.declared.entry.Reply.TheVariants as reply
use Rattle.vz_rules.specs.{Plan.Plan, Walk.walk_of, Walk.too_much, Messages.Answer, Messages.says, Kept.IsWhole}
use Rattle.vz_rules.specs.World.{World, Scene, Submission, active_frames, frame_on}
use Rattle.vz_rules.specs.{Scene.scene_of, Damage.aggregation_of, Damage.drawn_damage, Step.draw_answer, Step.scene_answer, Step.accepted_frames}
use Rattle.vz_rules.proofs.Members.{contains_map}
use Rattle.vz_surface_manager.specs.{Kept_surfaces.AreKept, Flown.Flown, Flown.AreFlown, Flown.subs_of, Live.Live, Live.AreLive, Live.AreWhole}
use Rattle.vz_surface_manager.proofs.{Sets_kept.stays_same, Seen.reply_drawn, Seen.told_drawn, Viewed.rootless, Viewed.unseen_root, Viewed.seen_root}
use Rattle.vz_surfaces.specs.{Stored.Stored, Stored.stored_of, Stored.bare_sub, Keeping.KeepsStored, Keeping.KeepsFrames}
use Rattle.vz_surfaces.specs.Reading.{active_on, seen_frames}
use Rattle.vz_surfaces.proofs.Stores_kept as stored
use Rattle.vz_surfaces.proofs.{Telling.seen_all, Telling.tells_active, Kept_of_world.keeps_of_world}
use Rattle.vz_walk.specs.Scenes.{scene_in, walked_in}
use Rattle.vz_damage.specs.{Told.Damaged, Told.told_on, Told.with_seen, Measured.Measurement, Measured.told_damage, Measured.without_indices}
use Rattle.vz_damage.specs.Accepted.{scene_from}
use Rattle.vz_damage.proofs.Entering.{measured_is_drawn}
use Rattle.vz_surface_manager.specs.{Told_damage.AreTold, Allowed.drawn_reply, Rosters.IsRosterOf, Rosters.flown_from}
use Rattle.vz_surface_manager.proofs.{Read.tells_last, Quiet.live_by, Quiet_changes.drawn_as}
use Rattle.vz_returns.specs.Lent.{Lent, AreLent, NoneReleased}
use Rattle.vz_returns.proofs.Lent_kept.{lent_alike, lent_ordered, lent_none_drawn}
use Rattle.vz_returns.proofs.Owed_kept as owed
use Rattle.vz_surface_manager.proofs.{Flights_kept.flown_some, Drawn_flights.flown_active, Drawn_flights.flown_drawn, Drawn_flights.flown_still}
use Rattle.vz_surface_manager.specs.Drawn_frame.{IsDrawing, IsSeen, IsShowing, IsLifting, Measures}
use Rattle.std.proofs.lemmas.Bool.Decides.{nat_tests}

none_some : {A : Type 0} (o : Option A) → is_some o ≡ false → o ≡ None
none_some o e = grind (arith, nat_tests)

-- The answers

-- behind the test for a frame in flight
abbrev by_scene : Plan → World → Option Scene → Answer
by_scene p w o = elim o [ Some s ↦ scene_answer p w s | None ↦ says reply.NoRoot w ]

busy_answer : (p : Plan) (w : World) → is_some w.in_flight ≡ true → draw_answer p w ≡ says reply.Busy w
unfolding draw_answer
busy_answer p w e = ap (λ (t : Bool). cond t (says reply.Busy w) (by_scene p w (scene_of w))) e

free_answer : (p : Plan) (w : World) (o : Option Scene) → is_some w.in_flight ≡ false → scene_of w ≡ o → draw_answer p w ≡ by_scene p w o
unfolding draw_answer
free_answer p w o e f = grind (arith, nat_tests)

heavy_answer : (p : Plan) (w : World) (s : Scene) → too_much (walk_of p.size s) ≡ true → scene_answer p w s ≡ says reply.TooMuch w
unfolding scene_answer
heavy_answer p w s e = grind (arith, nat_tests)

frames_stored : (w : World) → AreWhole w.subs → KeepsFrames (stored_of w)
unfolding stored_of
frames_stored w h s c =
    let m = contains_map bare_sub w.subs s c in
    subst IsWhole (ap (λ (x : Submission). x.submitted) m.2) (h m.0 m.1)

module _ (p : Plan) (w : World) (root : Option SurfaceId) (size : Size) (v : Live) (h : IsDrawing p w root size v) where
  pub store_keeps : KeepsStored v.store
  store_keeps = subst KeepsStored (sym h.live.store) (keeps_of_world w h.keeps.always)

  pub frames_fit : KeepsFrames v.store
  frames_fit = subst KeepsFrames (sym h.live.store) (frames_stored w h.live.whole)

  pub busy_is : is_some v.flight ≡ true → draw_answer p w ≡ says reply.Busy w
  busy_is e = busy_answer p w (sym (flown_some w v.flight h.live.flown) ∙ e)

  pub free_is : is_some v.flight ≡ false → is_some w.in_flight ≡ false
  free_is e = sym (flown_some w v.flight h.live.flown) ∙ e

  pub rootless_is : is_some v.flight ≡ false → root ≡ None → draw_answer p w ≡ says reply.NoRoot w
  rootless_is e f = free_answer p w None (free_is e) (rootless w (h.rooted ∙ f))

module _ (p : Plan) (w : World) (root : SurfaceId) (size : Size) (v : Live) (h : IsDrawing p w (Some root) size v) where
  active_is : active_on v.store root ≡ frame_on root (active_frames w.subs)
  active_is = ap (λ (st : Stored). active_on st root) h.live.store ∙ tells_active w root h.keeps.always

  unseen_is : is_some v.flight ≡ false → is_some (active_on v.store root) ≡ false → draw_answer p w ≡ says reply.NoRoot w
  unseen_is e f =
      free_answer p w None (free_is p w (Some root) size v h e)
      (unseen_root w root h.rooted (sym active_is ∙ none_some (active_on v.store root) f))

  seen_is : is_some (active_on v.store root) ≡ true → scene_of w ≡ Some (scene_from root w)
  seen_is f = grind (arith, nat_tests, active_is, seen_root w root)

  frames_are : seen_frames v.store ≡ active_frames w.subs
  frames_are = ap (λ (st : Stored). seen_frames st) h.live.store ∙ seen_all w h.keeps.always

  walked_is : walked_in size root v.store ≡ walk_of p.size (scene_from root w)
  walked_is = λ i. walk_of (sym h.sized_as i) (record { root = root; active = frames_are i })

  heavy_is : is_some v.flight ≡ false → is_some (active_on v.store root) ≡ true → too_much (walked_in size root v.store) ≡ true
      → draw_answer p w ≡ says reply.TooMuch w
  heavy_is e f g =
      free_answer p w (Some (scene_from root w)) (free_is p w (Some root) size v h e) (seen_is f)
      ∙ heavy_answer p w (scene_from root w) (sym (ap too_much walked_is) ∙ g)

  shows_is : is_some v.flight ≡ false → is_some (active_on v.store root) ≡ true → too_much (walked_in size root v.store) ≡ false
      → IsShowing p w root size v
  shows_is e f g = grind (arith, nat_tests, free_is p w (Some root) size v h e, seen_is f, walked_is)

-- What a call finds, where a root is given and no frame is in flight

module _ (p : Plan) (w : World) (given : Option SurfaceId) (root : SurfaceId) (size : Size) (u v : Live) (e : u ≡ v) (f : given ≡ Some root)
    (h : IsDrawing p w given size v) (free : is_some v.flight ≡ false) where
  rooted_there : IsDrawing p w (Some root) size u
  rooted_there = subst (λ (o : Option SurfaceId). IsDrawing p w o size u) f (subst (IsDrawing p w given size) (sym e) h)

  free_there : is_some u.flight ≡ false
  free_there = ap (λ (x : Live). is_some x.flight) e ∙ free

  pub unseen_there : is_some (active_on u.store root) ≡ false → draw_answer p w ≡ says reply.NoRoot w
  unseen_there g = unseen_is p w root size u rooted_there free_there g

  pub seen_there : is_some (active_on u.store root) ≡ true → IsSeen p w root size v
  seen_there g = subst (IsSeen p w root size) e (record { drawing = rooted_there; free = free_there; there = g })

-- What a walk finds

-- what holds of what is there
pub there : {A : Type 0} (P : A → Type 0) (o : Option A) (x : A) → o ≡ Some x → IfSome o P → P x
there P o x e h = subst (λ k. IfSome k P) e h

module _ (p : Plan) (w : World) (root : SurfaceId) (size : Size) (v : Live) (h : IsSeen p w root size v) where
  pub heavy_there : too_much (walked_in size root v.store) ≡ true → draw_answer p w ≡ says reply.TooMuch w
  heavy_there g = heavy_is p w root size v h.drawing h.free h.there g

  pub shows_there : too_much (walked_in size root v.store) ≡ false → IsShowing p w root size v
  shows_there g = shows_is p w root size v h.drawing h.free h.there g

-- A drawing that walks

module _ (p : Plan) (w : World) (root : SurfaceId) (size : Size) (v : Live) (h : IsShowing p w root size v) where
  abbrev done : World
  done = (draw_answer p w).world

  -- no frame is in flight before it
  pub flightless : is_some v.flight ≡ false
  flightless = flown_some w v.flight h.drawing.live.flown ∙ h.walks.free

  none_flies : w.in_flight ≡ None
  none_flies = none_some w.in_flight h.walks.free

  -- what is answered

  damage_is : told_damage size v.damaged.last v.damaged.surfaces root (walked_in size root v.store)
      ≡ drawn_damage p.size w.last (accepted_frames w) root (walk_of p.size (scene_from root w))
  damage_is = grind (arith, nat_tests, walked_is, measured_is_drawn, tells_last)

  -- what is measured tells what is answered
  pub reply_is : (m : Measurement) → Measures root size v m → drawn_reply m.changed ≡ (draw_answer p w).reply
  reply_is m is = grind (arith, nat_tests, reply_drawn p w root h.walks v.damaged, damage_is)

  reply_none : (m : Measurement) → Measures root size v m → m.changed ≡ None → (draw_answer p w).reply ≡ reply.Unchanged
  reply_none m is e = sym (reply_is m is) ∙ ap drawn_reply e

  reply_some : (m : Measurement) (damage : Rectangle) → Measures root size v m → m.changed ≡ Some damage
      → (draw_answer p w).reply ≡ reply.Drawn damage
  reply_some m damage is e = sym (reply_is m is) ∙ ap drawn_reply e

  -- what is left

  kept_is : without_indices (aggregation_of (scene_in root v.store) (walked_in size root v.store))
      ≡ without_indices (aggregation_of (scene_from root w) (walk_of p.size (scene_from root w)))
  kept_is = grind (arith, nat_tests, frames_are p w root size v h.drawing)

  told_is : (m : Measurement) (d : Damaged) → Measures root size v m → d.last ≡ Some m.kept
      → ((id : SurfaceId) → told_on d.surfaces id ≡ option_map with_seen (told_on v.damaged.surfaces id)) → AreTold done d
  told_is m d is last tells = grind (arith, nat_tests, told_drawn p w root h.walks v.damaged d h.drawing.live.told tells, kept_is)

  live_left : (lent : List Lent) (d : Damaged) (flight : Option (List Flown)) → AreLent done lent → AreTold done d → AreFlown done flight
      → AreLive done None (record v { lent = lent; damaged = d; flight = flight })
  live_left lent d flight is_lent is_told is_flown =
      live_by w done None None v _ (drawn_as (λ (u : World). u.subs ≡ w.subs) p w (λ l f. refl))
      (h.drawing.live.store ∙ sym (stored.stays_drawn p w)) is_lent
      (owed.stays_drawn p w v.owed.owed h.drawing.keeps h.drawing.live.owed)
      (drawn_as (λ (u : World). AreKept u None v.kept) p w (λ l f.
      stays_same w (record w { last = l; in_flight = f }) None v.kept refl refl refl (λ n. refl) h.drawing.live.kept))
      is_told is_flown refl (omega arith) h.drawing.live

  left_alike : (u : World) (lent : List Lent) → u.clients ≡ w.clients → u.surfaces ≡ w.surfaces → u.subs ≡ w.subs
      → done.in_flight ≡ u.in_flight
      → AreLent u lent → AreLent done lent
  left_alike u lent clients surfaces subs flight is =
      lent_alike u done lent
      (record {
        clients = drawn_as (λ (x : World). x.clients ≡ w.clients) p w (λ l f. refl) ∙ sym clients;
        surfaces = drawn_as (λ (x : World). x.surfaces ≡ w.surfaces) p w (λ l f. refl) ∙ sym surfaces;
        subs = drawn_as (λ (x : World). x.subs ≡ w.subs) p w (λ l f. refl) ∙ sym subs;
        in_flight = flight;
      }) is

  -- where nothing changed
  pub live_unchanged : (m : Measurement) (d : Damaged) → Measures root size v m → m.changed ≡ None → d.last ≡ Some m.kept
      → ((id : SurfaceId) → told_on d.surfaces id ≡ option_map with_seen (told_on v.damaged.surfaces id))
      → AreLive done None (record v { damaged = d })
  live_unchanged m d is none last tells =
      let flown = flown_still p w root h.walks v.flight (reply_none m is none) h.drawing.live.flown in
      live_left v.lent d v.flight
      (left_alike w v.lent refl refl refl (flown.drawn ∙ sym h.drawing.live.flown.drawn) h.drawing.live.lent)
      (told_is m d is last tells) flown

  -- where a frame is drawn

  from_is : (flown : List Flown) → flown ≡ flown_from size root v.store → flown ≡ flown_from p.size root (stored_of w)
  from_is flown e = e ∙ (λ i. flown_from (sym h.drawing.sized_as i) root (h.drawing.live.store i))

  pub lifting : (flown roster : List Flown) (items : List Lent) → flown ≡ flown_from size root v.store → IsRosterOf flown roster
      → AreLent w items → NoneReleased items → IsLifting p w roster items
  lifting flown roster items e is lent none =
      record {
        plan = h.drawing.plan;
        always = h.drawing.keeps.always;
        of_plan = h.drawing.of_plan;
        whole = h.drawing.live.whole;
        listed = λ f c.
            flown_active w (seen_all w h.drawing.keeps.always) p.size root f
            (subst (λ (l : List Flown). Contains l f) (from_is flown e) (is.only f c));
        before = is.before;
        none_released = none;
        lent = lent_none_drawn w items none_flies lent;
      }

  pub live_drawn : (flown roster : List Flown) (lent : List Lent) (m : Measurement) (d : Damaged) (damage : Rectangle)
      → flown ≡ flown_from size root v.store → IsRosterOf flown roster → AreLent (record w { in_flight = Some (subs_of roster) }) lent
      → Measures root size v m → m.changed ≡ Some damage → d.last ≡ Some m.kept
      → ((id : SurfaceId) → told_on d.surfaces id ≡ option_map with_seen (told_on v.damaged.surfaces id))
      → AreLive done None (record v { lent = lent; damaged = d; flight = Some flown })
  live_drawn flown roster lent m d damage e names is_lent is some last tells =
      let flies : AreFlown done (Some flown) = subst (λ (l : List Flown). AreFlown done (Some l)) (sym (from_is flown e))
      (flown_drawn p w root h.walks (seen_all w h.drawing.keeps.always) damage (reply_some m damage is some)) in
      live_left lent d (Some flown)
      (left_alike (record w { in_flight = Some (subs_of flown) }) lent refl refl refl flies.drawn
      (lent_ordered w (subs_of roster) (subs_of flown) lent names.names is_lent))
      (told_is m d is last tells) flies

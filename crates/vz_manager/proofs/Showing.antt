-- A drawing: what a look is asked, what is answered, and the parts stand for the state that is left.
use Rattle.std.proofs.Common.{◌≡◌, ◌≤◌, Bool, true, false, Option, Some, None, List, [], is_some, Result, Ok, Err}
use Rattle.std.proofs.Common.{refl, ap, sym, ◌∙◌, subst}
use Rattle.std.specs.Prelude.{OnErr}
use Rattle.vz_geom.specs.{declared.Size.Size, Rectangle.Rectangle}
use Rattle.vz_ids.specs.declared.SurfaceId.{SurfaceId}
use Rattle.vz_frame.specs.Roomy.{Roomy}
use Rattle.vz_rules.specs.declared.entry.Event.TheVariants as event
use Rattle.vz_rules.specs.{declared.entry.Fed.Fed, Plan.Plan, World.World, Messages.Answer, Messages.says, Kept.Keeps, Kept.no_effects}
use Rattle.vz_rules.specs.{declared.entry.Reply.Reply, declared.entry.Returned.Returned, Step.Outcome, Step.answer_to, Step.draw_answer, Step.step_in}
use Rattle.vz_rules.specs.declared.entry.Reply.TheVariants as reply
use Rattle.vz_rules.proofs.{Kept_between.keeps_step, Kept_answers.keeps_draw, Kept_planned.plan_step, Kept_sending.messages_step}
use Rattle.vz_machine.specs.declared.machine.Step.{Step}
use Rattle.vz_damage.specs.Measured.{Measurement}
use Rattle.vz_surface_manager.specs.{Allowed.drawn_reply, Live.Live, Live.AreLive, Frame_end.flying_count, declared.drawn_frame.Look.Look}
use Rattle.vz_returns.specs.Lent.{Lent, NoneReleased, resources_out}
use Rattle.vz_surface_manager.specs.{Flown.Flown, Settles.AreSettling}
use Rattle.vz_surface_manager.specs.Drawn_frame.{IsDrawing, Measures, Flies, Finds, Foretells}
use Rattle.vz_surface_manager.specs.declared.drawn_frame.Look.TheVariants as look
use Rattle.vz_surface_manager.proofs.{Drawn.flightless, Waits_kept.stay_drawn}
use Rattle.vz_support.specs.Supporting.{IsSupport}
use Rattle.vz_support.proofs.Support_kept.{stays_drawn}
use Rattle.vz_manager.specs.{Serving.Served, Serving.Serves, Serving.CanLand, Serving.IsStepOf, Showing.IsToMeasure, Showing.IsToShow}
use Rattle.vz_manager.proofs.Following.{quiet_step, step_of}

draw_is : (p : Plan) (w : World) → answer_to p w event.Draw ≡ draw_answer p w
unfolding answer_to
draw_is p w = refl

-- nothing follows a drawing
pub step_drawn : (p : Plan) (w : World) → Keeps w
    → step_in p w event.Draw ≡ record { reply = (draw_answer p w).reply; effects = no_effects; world = (draw_answer p w).world }
step_drawn p w h = quiet_step p w event.Draw (draw_answer p w) (draw_is p w) refl (keeps_draw p w h)

world_drawn : (p : Plan) (w : World) → Keeps w → (step_in p w event.Draw).world ≡ (draw_answer p w).world
world_drawn p w h = ap (λ (o : Outcome). o.world) (step_drawn p w h)

-- a step that is answered so
pub step_shown : (p : Plan) (w : World) (s : Step) → Keeps w → s.reply ≡ (draw_answer p w).reply → s.effects ≡ no_effects
    → IsStepOf p w event.Draw s
step_shown p w s h told follows = step_of p w event.Draw (draw_answer p w) s (draw_is p w) refl (keeps_draw p w h) told follows

-- What a look tells

-- the parts have what a look is asked for
pub draws_there : (p : Plan) (w : World) (v : Served) → Serves p w v → IsDrawing p w v.support.root v.size v.settling.live
draws_there p w v h =
    record {
      plan = h.plan;
      keeps = h.keeps;
      of_plan = h.of_plan;
      live = h.settling.live;
      rooted = sym h.support.root;
      sized_as = sym h.size;
      none_released = h.released;
    }

-- where a drawing is answered so and leaves the state, so does the step
pub step_untouched : (p : Plan) (w : World) (r : Reply) (s : Step) → Keeps w → draw_answer p w ≡ says r w → s.reply ≡ r
    → s.effects ≡ no_effects → IsStepOf p w event.Draw s
step_untouched p w r s h e told follows = step_shown p w s h (told ∙ ap (λ (a : Answer). a.reply) (sym e)) follows

pub serves_untouched : (p : Plan) (w : World) (r : Reply) (v : Served) → Serves p w v → draw_answer p w ≡ says r w
    → Serves p (step_in p w event.Draw).world v
serves_untouched p w r v h e =
    subst (λ (u : World). Serves p u v) (sym (world_drawn p w h.keeps ∙ ap (λ (a : Answer). a.world) e)) h

-- What is measured beforehand

abbrev measured_at : Served → Live → Served
measured_at v live = record v { settling = record v.settling { live = live } }

-- measuring leaves what stands
pub serves_measured : (p : Plan) (w : World) (v : Served) (live : Live) → Serves p w v → live ≡ v.settling.live
    → Serves p w (measured_at v live)
serves_measured p w v live h same = subst (λ (l : Live). Serves p w (measured_at v l)) (sym same) h

pub shows_measured : (p : Plan) (w : World) (root : SurfaceId) (v : Served) (live : Live) → IsToShow p w root v → live ≡ v.settling.live
    → IsToShow p w root (measured_at v live)
shows_measured p w root v live h same = subst (λ (l : Live). IsToShow p w root (measured_at v l)) (sym same) h

pub measures_still : (root : SurfaceId) (size : Size) (old new : Live) (m : Measurement) → Measures root size old m → new ≡ old
    → Measures root size new m
measures_still root size old new m h same = subst (λ (l : Live). Measures root size l m) (sym same) h

pub flies_still : (root : SurfaceId) (size : Size) (old new : Live) (flown : List Flown) → Flies root size old flown → new ≡ old
    → Flies root size new flown
flies_still root size old new flown h same = subst (λ (l : Live). Flies root size l flown) (sym same) h

-- a step that is answered by what changed
pub step_unchanged : (p : Plan) (w : World) (s : Step) (changed : Option Rectangle) → Keeps w → drawn_reply changed ≡ (draw_answer p w).reply
    → changed ≡ None → s.reply ≡ reply.Unchanged → s.effects ≡ no_effects → IsStepOf p w event.Draw s
step_unchanged p w s changed h is none told follows = step_shown p w s h (told ∙ (ap drawn_reply (sym none) ∙ is)) follows

pub step_changed : (p : Plan) (w : World) (s : Step) (changed : Option Rectangle) (damage : Rectangle) → Keeps w
    → drawn_reply changed ≡ (draw_answer p w).reply → changed ≡ Some damage → s.reply ≡ reply.Drawn damage → s.effects ≡ no_effects
    → IsStepOf p w event.Draw s
step_changed p w s changed damage h is some told follows = step_shown p w s h (told ∙ (ap drawn_reply (sym some) ∙ is)) follows

-- What a drawing leaves

-- no frame is in flight before a drawing that walks
pub none_flying : (p : Plan) (w : World) (v : Served) (root : SurfaceId) → IsToShow p w root v → is_some v.settling.live.flight ≡ false
none_flying p w v root h = flightless p w root v.size v.settling.live h.shows

abbrev shown : Served → Live → Roomy Returned → Roomy Fed → Bool → Served
shown v live returned fed room = record v { settling = record v.settling { live = live }; returned = returned; fed = fed; landed = room }

-- the parts stand for the state that is left
serves_left : (p : Plan) (w : World) (v : Served) (live : Live) (returned : Roomy Returned) (fed : Roomy Fed) (room : Bool) → Serves p w v
    → AreLive (draw_answer p w).world None live → NoneReleased live.lent → CanLand (shown v live returned fed room)
    → Serves p (step_in p w event.Draw).world (shown v live returned fed room)
serves_left p w v live returned fed room h stands released lands =
    record {
      plan = h.plan;
      keeps = keeps_step p w event.Draw h.keeps.always;
      of_plan = plan_step p w event.Draw h.plan h.keeps.always h.of_plan;
      messages = messages_step p w event.Draw h.plan h.keeps.always h.messages;
      size = h.size;
      support = subst (λ (u : World). IsSupport p u v.support) (sym (world_drawn p w h.keeps)) (stays_drawn p w v.support h.support);
      settling = subst (λ (u : World). AreSettling u None (record v.settling { live = live })) (sym (world_drawn p w h.keeps))
          (record { always = (keeps_draw p w h.keeps).always; live = stands; waiting = stay_drawn p w v.settling.waiting h.settling.waiting });
      released = released;
      lands = lands;
    }

-- where there is room for the end of what is drawn
pub serves_drawn : (p : Plan) (w : World) (v : Served) (live : Live) (returned : Roomy Returned) (fed : Roomy Fed) (room : Bool) → Serves p w v
    → AreLive (draw_answer p w).world None live → NoneReleased live.lent
    → returned.list ≡ [] → fed.list ≡ [] → resources_out live.lent ≤ returned.spare → flying_count live.flight ≤ fed.spare → room ≡ true
    → Serves p (step_in p w event.Draw).world (shown v live returned fed room)
serves_drawn p w v live returned fed room h stands released none_returned none_fed returns places has =
    serves_left p w v live returned fed room h stands released
    (record { none_returned = none_returned; none_fed = none_fed; returned = λ flies. returns; fed = λ flies. places; effects = λ flies. has })

unlike : {A : Type 0} (t : Bool) → t ≡ false → t ≡ true → A
unlike true e f = absurd (cc)
unlike false e f = absurd (cc)

-- where no frame is in flight
unflown : (v : Served) (live : Live) (returned : Roomy Returned) (fed : Roomy Fed) (room : Bool) → is_some live.flight ≡ false → returned.list ≡ []
    → fed.list ≡ [] → CanLand (shown v live returned fed room)
unflown v live returned fed room none none_returned none_fed =
    record {
      none_returned = none_returned;
      none_fed = none_fed;
      returned = λ flies. unlike (is_some live.flight) none flies;
      fed = λ flies. unlike (is_some live.flight) none flies;
      effects = λ flies. unlike (is_some live.flight) none flies;
    }

-- where nothing changed, and what is seen is remembered alone
pub serves_unchanged : (p : Plan) (w : World) (root : SurfaceId) (v : Served) (live : Live) → IsToShow p w root v
    → live ≡ record v.settling.live { damaged = live.damaged }
    → AreLive (draw_answer p w).world None live → Serves p (step_in p w event.Draw).world (measured_at v live)
serves_unchanged p w root v live h rest stands =
    serves_left p w v live v.returned v.fed v.landed h.serves stands
    (subst (λ (l : List Lent). NoneReleased l) (sym (ap (λ (l : Live). l.lent) rest)) h.serves.released)
    (unflown v live v.returned v.fed v.landed (ap (λ (l : Live). is_some l.flight) rest ∙ none_flying p w v root h) h.serves.lands.none_returned
    h.serves.lands.none_fed)

pub on_err : {T E : Type 0} (r : Result T E) (P : Type 0) → P → OnErr r P
on_err (Ok x) P is = tt
on_err (Err e) P is = is

-- where memory was wanted: the same state, with no frame in flight as before
pub serves_still : (p : Plan) (w : World) (v : Served) (live : Live) (returned : Roomy Returned) (fed : Roomy Fed) (room : Bool) → Serves p w v
    → is_some live.flight ≡ false → AreLive w None live → NoneReleased live.lent → returned.list ≡ [] → fed.list ≡ []
    → Serves p w (shown v live returned fed room)
serves_still p w v live returned fed room h none stands released none_returned none_fed =
    record {
      plan = h.plan;
      keeps = h.keeps;
      of_plan = h.of_plan;
      messages = h.messages;
      size = h.size;
      support = h.support;
      settling = record { always = h.settling.always; live = stands; waiting = h.settling.waiting };
      released = released;
      lands = unflown v live returned fed room none none_returned none_fed;
    }

-- A look

-- what a look tells, for every state
abbrev Tells : Option SurfaceId → Live → Look → Type 0
Tells root v l = (p : Plan) (w : World) (size : Size) → IsDrawing p w root size v → Foretells p w root size v l

-- a look at the root that is kept for the clients
pub draws_root : (p : Plan) (w : World) (v : Served) (root : Option SurfaceId) → Serves p w v → root ≡ w.root
    → IsDrawing p w root v.size v.settling.live
draws_root p w v root h is = subst (λ o. IsDrawing p w o v.size v.settling.live) (h.support.root ∙ sym is) (draws_there p w v h)

-- it saw something on this root
pub to_measure : (p : Plan) (w : World) (v : Served) (root : Option SurfaceId) (id : SurfaceId) (l : Look) → Serves p w v → root ≡ w.root
    → Tells root v.settling.live l → l ≡ look.Seen id → IsToMeasure p w id v
to_measure p w v root id l h is tells seen =
    record { serves = h; seen = (subst (Foretells p w root v.size v.settling.live) seen (tells p w v.size (draws_root p w v root h is))).1 }

-- it saw that a drawing is answered so, and leaves the state
pub answered_busy : (p : Plan) (w : World) (v : Served) (root : Option SurfaceId) (l : Look) → Serves p w v → root ≡ w.root
    → Tells root v.settling.live l → l ≡ look.Busy → draw_answer p w ≡ says reply.Busy w
answered_busy p w v root l h is tells busy = subst (Foretells p w root v.size v.settling.live) busy (tells p w v.size (draws_root p w v root h is))

pub answered_rootless : (p : Plan) (w : World) (v : Served) (root : Option SurfaceId) (l : Look) → Serves p w v → root ≡ w.root
    → Tells root v.settling.live l → l ≡ look.NoRoot → draw_answer p w ≡ says reply.NoRoot w
answered_rootless p w v root l h is tells none = subst (Foretells p w root v.size v.settling.live) none (tells p w v.size (draws_root p w v root h is))

-- What a walk finds

-- there is too much to be seen
pub found_heavy : (p : Plan) (w : World) (root : SurfaceId) (v : Served) (o : Option (Measurement × List Flown)) → IsToMeasure p w root v
    → Finds p w root v.size v.settling.live o → o ≡ None → draw_answer p w ≡ says reply.TooMuch w
found_heavy p w root v o h finds none = subst (Finds p w root v.size v.settling.live) none finds

-- the drawing walks
pub found_shows : (p : Plan) (w : World) (root : SurfaceId) (v : Served) (live : Live) (o : Option (Measurement × List Flown))
    (both : Measurement × List Flown) → IsToMeasure p w root v → Finds p w root v.size v.settling.live o → o ≡ Some both
    → live ≡ v.settling.live → IsToShow p w root (measured_at v live)
found_shows p w root v live o both h finds some same =
    shows_measured p w root v live (record { serves = h.serves; shows = (subst (Finds p w root v.size v.settling.live) some finds).0 }) same

-- The worlds that a plan leads to: the first one, each next one, and how small their numbers are.
use Rattle.std.proofs.Common.{◌≡◌, ℕ, ◌+◌, ◌==◌, ◌&&◌, ◌++◌, ◌∷◌, not, map, filter, Bool, true, false, Option, Some, None, is_some, List, [], refl, sym, ap, ◌∙◌, subst}
use Rattle.std.specs.List.{flat_map, filter_map}
use Rattle.vz_ids.specs.declared.Sub.{Sub}
use Rattle.vz_frame.specs.Roomy.{Roomy}
use Rattle.vz_rules.specs.Plan.{Plan, IsPlan}
use Rattle.vz_rules.specs.declared.entry.Event.{Event}
use Rattle.vz_rules.specs.declared.entry.Event.TheVariants as event
use Rattle.vz_rules.specs.declared.entry.Reply.{Reply}
use Rattle.vz_rules.specs.declared.entry.Reply.TheVariants as reply
use Rattle.vz_rules.specs.declared.entry.Effects.{Effects}
use Rattle.vz_rules.specs.declared.entry.Lost.{Lost}
use Rattle.vz_rules.specs.declared.entry.Returned.{Returned}
use Rattle.vz_rules.specs.declared.entry.Fed.{Fed}
use Rattle.vz_frame.specs.declared.message.ClientFile.{ClientFile}
use Rattle.vz_rules.specs.World.{World, Machine, Client, Submission, opening, active_frames, new_clients, sub_of}
use Rattle.vz_rules.specs.Log.{held_resource, unfed_of, rest_in}
use Rattle.vz_rules.specs.Kept.{Keeps, no_effects}
use Rattle.vz_rules.specs.Ends.{landed}
use Rattle.vz_rules.specs.Returns.{give_back, returned_in, feed, fed_in}
use Rattle.vz_rules.specs.Step.{Outcome, step_in}
use Rattle.vz_rules.proofs.Kept_first.{keeps_first}
use Rattle.vz_rules.proofs.Kept_between.{keeps_step}
use Rattle.vz_rules.proofs.Kept_planned.{plan_first, plan_step}
use Rattle.vz_rules.proofs.Kept_sending.{messages_first, messages_step}
use Rattle.vz_rules.proofs.Kept_small.{small_client, small_resource}
use Rattle.vz_rules.proofs.Kept_few.{lists_short}
use Rattle.vz_rules.proofs.Kept_done.{over_idles, done_idles, done_presents}
use Rattle.vz_state.specs.Small.{IsSmall}
use Rattle.vz_slow.specs.Reaching.{IsReached, IsSlow, HasRoom}

-- each step leads on
pub reached_step : (p : Plan) (w : World) (e : Event) → IsReached p w → IsReached p (step_in p w e).world
reached_step p w e r =
    record {
      plan = r.plan;
      keeps = keeps_step p w e r.keeps.always;
      keeps_plan = plan_step p w e r.plan r.keeps.always r.keeps_plan;
      keeps_messages = messages_step p w e r.plan r.keeps.always r.keeps_messages;
    }

opened : (p : Plan) → opening p ≡ record (opening p) { over = false }
unfolding opening
opened p = refl

reached_opening : (p : Plan) → IsPlan p → IsReached p (opening p)
reached_opening p is = record { plan = is; keeps = keeps_first p is; keeps_plan = plan_first p; keeps_messages = messages_first p }

-- a plan leads to its opening world, also where the Over mark stands
pub reached_first : (p : Plan) (over : Bool) → IsPlan p → IsReached p (record (opening p) { over = over })
reached_first p false is = subst (IsReached p) (opened p) (reached_opening p is)
reached_first p true is =
    let r = reached_opening p is in
    subst (IsReached p) (ap (λ (o : Outcome). o.world) (over_idles p (opening p) r.keeps)) (reached_step p (opening p) event.Over r)

-- the numbers of such a world are small
pub reached_small : (p : Plan) (w : World) → IsReached p w → IsSmall w
reached_small p w r =
    let always = r.keeps.always in
    let short = lists_short p w r.plan always r.keeps_plan r.keeps_messages in
    record {
      tick = always.time.tick;
      clients = λ c m.
          record {
            taken = (small_client p w r.plan always r.keeps_plan c m).1;
            resources = λ s n. (small_resource p w r.plan always r.keeps_plan c s m n).lent;
          };
      accepted = short.subs;
      created = short.surfaces;
    }

-- Room

-- no room is wanted while no frame is in flight
pub no_room : (w : World) (r : Roomy Returned) (f : Roomy Fed) (place : Bool) → w.in_flight ≡ None → r.list ≡ [] → f.list ≡ [] → HasRoom w r f place
no_room w r f place e a b = record { room = λ t. absurd (none_is_some w.in_flight e t); no_returned = a; no_fed = b }
  where
    none_is_some : (o : Option (List Sub)) → o ≡ None → is_some o ≡ true → ⊥
    none_is_some o e t = let u : is_some o ≡ false = ap is_some e in cc

-- the machine at its opening
pub slow_opening : (p : Plan) (r : Roomy Returned) (f : Roomy Fed) (place : Bool) → IsPlan p → r.list ≡ [] → f.list ≡ [] → IsSlow p (record (opening p) { over = false }) r f place
unfolding opening
slow_opening p r f place is a b = record { reached = reached_first p false is; has_room = no_room (record (opening p) { over = false }) r f place refl a b }

pub opening_view : (p : Plan) → ◌≡◌ {A = Machine} (record { plan = p; world = record (opening p) { over = false } }) (record { plan = p; world = opening p })
unfolding opening
opening_view p = refl

-- The ends of a frame and of begin-frames

-- the step of Over
pub over_is : (p : Plan) (w v : World) (e : Effects) → Keeps w → e ≡ no_effects → v ≡ record w { over = true }
    → ◌≡◌ {A = Outcome} (record { reply = reply.Ended; effects = e; world = v }) (step_in p w event.Over)
over_is p w v e k f g = (λ i. record { reply = reply.Ended; effects = f i; world = g i }) ∙ sym (over_idles p w k)

-- what is kept is kept, with the Over mark too
pub slow_over : (p : Plan) (w : World) (r : Roomy Returned) (f : Roomy Fed) (place : Bool) → IsSlow p w r f place → IsSlow p (record w { over = true }) r f place
slow_over p w r f place h =
    record {
      reached = subst (IsReached p) (ap (λ (o : Outcome). o.world) (over_idles p w h.reached.keeps)) (reached_step p w event.Over h.reached);
      has_room = record { room = λ t. let m = h.has_room.room t in record { returned = m.returned; fed = m.fed; effects = m.effects }; no_returned = h.has_room.no_returned; no_fed = h.has_room.no_fed };
    }

-- the world in which no frame is in flight
pub landed_is : (w v : World) (o : Option (List Sub)) → v ≡ w → o ≡ None → record v { in_flight = o } ≡ landed w
landed_is w v o e f = λ i. record (e i) { in_flight = f i }

landed_same : (w : World) → w.in_flight ≡ None → landed w ≡ w
landed_same w e = λ i. record w { in_flight = sym e i }

-- the step of Done where no frame is in flight
pub done_nothing : (p : Plan) (w v : World) (e : Effects) → Keeps w → w.in_flight ≡ None → e ≡ no_effects → v ≡ landed w
    → ◌≡◌ {A = Outcome} (record { reply = reply.Nothing; effects = e; world = v }) (step_in p w event.Done)
done_nothing p w v e k n f g = (λ i. record { reply = reply.Nothing; effects = f i; world = (g ∙ landed_same w n) i }) ∙ sym (done_idles p w k n)

-- giving back leaves the submissions
pub given_subs : (w v : World) → v ≡ give_back w → v.subs ≡ w.subs
unfolding give_back
given_subs w v e = ap (λ (u : World). u.subs) e

-- feeding leaves what is in flight
pub fed_flight : (w v : World) (presented : List Sub) → v ≡ feed presented (give_back w) → v.in_flight ≡ w.in_flight
unfolding give_back feed
fed_flight w v presented e = ap (λ (u : World). u.in_flight) e

-- giving back changes no feedback
fed_given : (l : List Sub) (y : World) → fed_in l (give_back y) ≡ fed_in l y
unfolding give_back fed_in
fed_given l y = refl

-- the step of Done where these are in flight
pub done_shown : (p : Plan) (w u v x : World) (drawn presented a : List Sub) (l : List Lost) (b : List Returned) (f : List Fed) → Keeps w → w.in_flight ≡ Some drawn → presented ≡ drawn
    → u ≡ landed w → v ≡ give_back u → x ≡ feed presented v → a ≡ [] → l ≡ [] → b ≡ returned_in u → f ≡ fed_in presented v
    → ◌≡◌ {A = Outcome} (record { reply = reply.Shown; effects = record { activated = a; destroyed = l; returned = b; fed = f }; world = x }) (step_in p w event.Done)
done_shown p w u v x drawn presented a l b f k e d lands gives feeds no_a no_l back fed =
    let given : v ≡ give_back (landed w) = gives ∙ ap give_back lands in
    let effects : ◌≡◌ {A = Effects} (record { activated = a; destroyed = l; returned = b; fed = f })
    (record { activated = []; destroyed = []; returned = returned_in (landed w); fed = fed_in drawn (landed w) }) =
    λ i. record { activated = no_a i; destroyed = no_l i; returned = (back ∙ ap returned_in lands) i; fed = (fed ∙ (ap (λ m. fed_in m v) d ∙ (ap (fed_in drawn) given ∙ fed_given drawn (landed w)))) i } in
    (λ i. record { reply = reply.Shown; effects = effects i; world = (feeds ∙ (ap (λ m. feed m v) d ∙ ap (feed drawn) given)) i }) ∙ sym (done_presents p w drawn k e)

-- at its opening nothing names a root, and nothing is active
pub opening_root : (p : Plan) (over : Bool) → (record (opening p) { over = over }).root ≡ None
unfolding opening
opening_root p over = refl

-- after the end of a frame none is in flight, and no room is wanted
pub slow_done : (p : Plan) (w v : World) (x : Reply) (e : Effects) (r : Roomy Returned) (f : Roomy Fed) (place : Bool) → IsReached p w
    → ◌≡◌ {A = Outcome} (record { reply = x; effects = e; world = v }) (step_in p w event.Done) → v.in_flight ≡ None → r.list ≡ [] → f.list ≡ [] → IsSlow p v r f place
slow_done p w v x e r f place h is none a b =
    record {
      reached = subst (IsReached p) (sym (ap (λ (o : Outcome). o.world) is)) (reached_step p w event.Done h);
      has_room = no_room v r f place none a b;
    }

-- nothing is in flight at the opening
pub opening_done : (p : Plan) (over : Bool) (e : Effects) → IsPlan p → e ≡ no_effects
    → ◌≡◌ {A = Outcome} (record { reply = reply.Nothing; effects = e; world = record (opening p) { over = over } }) (step_in p (record (opening p) { over = over }) event.Done)
unfolding opening
opening_done p over e is none =
    let w : World = record (opening p) { over = over } in
    done_nothing p w w e (reached_first p over is).keeps refl none refl

pub opening_frames : (p : Plan) (over : Bool) → active_frames (record (opening p) { over = over }).subs ≡ []
unfolding opening
opening_frames p over = refl

nothing_held : (n : ℕ) (files : List ClientFile) → flat_map (λ (c : Client). filter_map (held_resource c.number) c.resources) (new_clients n files) ≡ []
nothing_held n [] = refl
nothing_held n (file ∷ files) = nothing_held (n + 1) files

nothing_unfed : (w : World) (n : ℕ) (files : List ClientFile) → w.subs ≡ [] → flat_map (unfed_of w) (new_clients n files) ≡ []
nothing_unfed w n [] e = refl
nothing_unfed w n (file ∷ files) e =
    ap (λ l. map sub_of (filter (λ (s : Submission). (s.submitted.sub.client == n) && not s.fed) l) ++ flat_map (unfed_of w) (new_clients (n + 1) files)) e ∙ nothing_unfed w (n + 1) files e

-- and nothing is outstanding
pub opening_rest : (p : Plan) (over : Bool) → rest_in (record (opening p) { over = over }) ≡ record { held = []; unfed = [] }
unfolding rest_in opening
opening_rest p over = λ i. record { held = nothing_held 1 p.files i; unfed = nothing_unfed (record (opening p) { over = over }) 1 p.files refl i }

-- Only the display's own entries change whether a frame is in flight.
use Rattle.std.proofs.Common.{◌≡◌, ℕ, zero, suc, Bool, true, false, ◌||◌, Option, Some, None, List, [], ◌∷◌, refl, ap, sym, ◌∙◌, cond, arith}
use Rattle.std.specs.Prelude.{is_some}
use Rattle.vz_ids.specs.declared.Sub.{Sub}
use Rattle.vz_rules.specs.{Plan.Plan, declared.entry.Reply.Reply, Scene.scene_of}
use Rattle.vz_rules.specs.{declared.entry.Event.Event, declared.entry.Effects.Effects, declared.entry.Entry.Entry, Returns.give_back, Returns.feed}
use Rattle.vz_rules.specs.declared.entry.Event.TheVariants as event
use Rattle.vz_rules.specs.declared.entry.Reply.TheVariants as reply
use Rattle.vz_rules.specs.{World.World, World.Scene, World.opening, Settle.round, Settle.rounds, Settle.settle, Course.is_drawn, Course.displayed}
use Rattle.vz_rules.specs.{Reach.naming, Reach.clearing, Reach.collect, Messages.Answer, Messages.says, Messages.client_answer, Messages.accepted}
use Rattle.vz_rules.specs.Step.{outcome_of, step_in, entry_in, answer_to, begin_answer, scene_answer, draw_answer, done_answer, world, world_from, Legal, LegalFrom}
use Rattle.vz_rules.proofs.Cases.{client_cases}
use Rattle.vz_desk.specs.Flights.{flies_by, flies_behind}
use Rattle.std.proofs.lemmas.Bool.Decides.{nat_tests}

rounds_fly : (n : ℕ) (w : World) → (rounds n w).in_flight ≡ w.in_flight
unfolding rounds round
rounds_fly zero w = refl
rounds_fly (suc n) w = rounds_fly n (round w)

-- what follows an answer leaves the frame in flight
outcome_flies : (presented : List Sub) (a : Answer) → (outcome_of presented a).world.in_flight ≡ a.world.in_flight
unfolding outcome_of feed give_back collect clearing naming settle
outcome_flies presented a = rounds_fly _ a.world

done_flies : (o : Option (List Sub)) (w : World) → w.in_flight ≡ o → (done_answer w).world.in_flight ≡ None
unfolding done_answer
done_flies o w is = grind (arith, nat_tests)

-- after Done no frame is in flight
pub done_lands : (p : Plan) (w : World) → (step_in p w event.Done).world.in_flight ≡ None
unfolding step_in answer_to
done_lands p w = outcome_flies _ (done_answer w) ∙ done_flies w.in_flight w refl

-- a message leaves the frame in flight
client_flies : (p : Plan) (w : World) (n : ℕ) → (client_answer p w n).world.in_flight ≡ w.in_flight
unfolding accepted
client_flies p w n = client_cases p w n (λ a. a.world.in_flight ≡ w.in_flight) refl (λ c at is. record {
  turned = λ m r t given. refl;
  not_yet = λ given. refl;
  stored = λ id block free given. refl;
  submitted = λ local frame fits given. refl;
  noted = λ k given. refl;
  reclaimed = λ given. refl;
  rooted = λ local root given. refl;
  joined = λ parent child fits given. refl;
  began = λ k e given. refl;
  over = λ given. refl;
  left = λ given. refl;
})

-- what a drawing leaves
abbrev Flies : World → Answer → Type 0
Flies w a = is_some a.world.in_flight ≡ (is_drawn a.reply || is_some w.in_flight)

by_test : (w : World) (t : Bool) (a b : Answer) → Flies w a → Flies w b → Flies w (cond t a b)
by_test w t a b h k = grind (arith, nat_tests)

scene_flies : (p : Plan) (w : World) (scene : Scene) → Flies w (scene_answer p w scene)
unfolding scene_answer
scene_flies p w scene = grind (arith, nat_tests)

drawn_flies : (p : Plan) (w : World) (o : Option Scene) → Flies w (elim o [ Some scene ↦ scene_answer p w scene | None ↦ says reply.NoRoot w ])
drawn_flies p w None = refl
drawn_flies p w (Some scene) = scene_flies p w scene

draw_flies : (p : Plan) (w : World) → Flies w (draw_answer p w)
unfolding draw_answer
draw_flies p w = by_test w (is_some w.in_flight) _ _ refl (drawn_flies p w (scene_of w))

-- whether a frame is in flight behind a step
pub step_flies : (p : Plan) (w : World) (v : Event) → is_some (step_in p w v).world.in_flight ≡ flies_by (is_some w.in_flight) v (step_in p w v).reply
unfolding step_in answer_to outcome_of begin_answer
step_flies p w (event.Client n) = ap is_some (outcome_flies [] (client_answer p w n) ∙ client_flies p w n)
step_flies p w event.Begin = ap is_some (outcome_flies [] (begin_answer p w))
step_flies p w event.Draw = ap is_some (outcome_flies [] (draw_answer p w)) ∙ draw_flies p w
step_flies p w event.Done = ap is_some (done_lands p w)
step_flies p w event.Over = ap is_some (outcome_flies [] (says reply.Ended (record w { over = true })))

flies_from : (p : Plan) (w : World) (h : List Entry) → LegalFrom p w h → is_some (world_from p w h).in_flight ≡ flies_behind (is_some w.in_flight) h
unfolding LegalFrom world_from entry_in
flies_from p w [] legal = refl
flies_from p w (e ∷ h) legal = grind (arith, nat_tests, flies_from p (step_in p w e.event).world h legal.2, step_flies p w e.event)

one_displayed : (v : Event) (r : Reply) (f : Effects) (h : List Entry) → ((flies : Bool) → flies_behind flies (displayed h) ≡ flies_behind flies h) → (flies : Bool)
    → flies_behind flies (displayed (record { event = v; reply = r; effects = f } ∷ h)) ≡ flies_behind (flies_by flies v r) h
unfolding displayed
one_displayed v r f h rest flies = grind (arith, nat_tests)

displayed_flies : (h : List Entry) (flies : Bool) → flies_behind flies (displayed h) ≡ flies_behind flies h
unfolding displayed
displayed_flies [] flies = refl
displayed_flies (e ∷ h) flies = one_displayed e.event e.reply e.effects h (displayed_flies h) flies

-- whether a frame is in flight is told by the display's own entries
pub flights_are_told : (p : Plan) (h : List Entry) → Legal p h → is_some (world p h).in_flight ≡ flies_behind false (displayed h)
unfolding Legal world opening
flights_are_told p h legal = flies_from p (opening p) h legal ∙ sym (displayed_flies h false)

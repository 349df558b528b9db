-- Begin-frames, and what follows a step.
use Rattle.std.proofs.Common.{◌≡◌, ℕ, Bool, false, ◌&&◌, not, Option, Some, None, List, [], map, refl, sym, ap, subst, ◌∙◌, if◌then◌else◌}
use Rattle.vz_ids.specs.declared.FrameSinkId.{FrameSinkId}
use Rattle.vz_ids.specs.declared.Sub.{Sub}
use Rattle.vz_rules.specs.Plan.{Plan, has_sink}
use Rattle.vz_rules.specs.World.{World, Client, Machine, first_sink}
use Rattle.vz_rules.specs.Messages.{says, reaches, client_answer}
use Rattle.vz_rules.specs.Step.{is_attached, next_tick, deliver, begin_answer, draw_answer, outcome_of, Outcome, answer_to, step_in}
use Rattle.vz_rules.specs.declared.entry.Event.{Event}
use Rattle.vz_rules.specs.declared.entry.Event.TheVariants as event
use Rattle.vz_rules.specs.Settle.{settle, activated_in}
use Rattle.vz_rules.specs.Reach.{collect, destroyed_in}
use Rattle.vz_rules.specs.Returns.{give_back, returned_in, feed, fed_in}
use Rattle.vz_rules.specs.declared.entry.Reply.{Reply}
use Rattle.vz_rules.specs.declared.entry.Reply.TheVariants as reply
use Rattle.vz_rules.specs.declared.entry.Effects.{Effects}
use Rattle.vz_rules.specs.declared.entry.Lost.{Lost}
use Rattle.vz_rules.specs.declared.entry.Returned.{Returned}
use Rattle.vz_rules.specs.declared.entry.Fed.{Fed}
use Rattle.vz_slow.specs.Reaching.{IsReached}
use Rattle.vz_slow.proofs.Reaching.{reached_step}
use Rattle.vz_state.specs.Attached.{sinks_from, attached_sinks, deliver_by}

attached_by : (w : World) (c : Client) (o : Option FrameSinkId) → has_sink (sinks_from w.relations o) c.sink ≡ (elim o [ Some sink ↦ reaches w.relations sink c.sink | None ↦ false ])
unfolding reaches
attached_by w c None = refl
attached_by w c (Some sink) = refl

delivers : (p : Plan) (w : World) (tick : ℕ) → deliver_by (attached_sinks p w) tick ≡ deliver p w tick
unfolding is_attached
delivers p w tick = λ i c. given c (attached_by w c (first_sink p) i)
  where
    given : Client → Bool → Client
    given c t = if t && not c.closed then record c { delivered = Some tick } else c

-- what was done is a begin-frame
pub begin_is : (p : Plan) (w v : World) → v ≡ w → (sinks : List FrameSinkId) (tick : ℕ) (clients : List Client) → sinks ≡ attached_sinks p w → tick ≡ next_tick v.tick
    → clients ≡ map (deliver_by sinks tick) v.clients → says (reply.Ticked tick) (record v { tick = tick; clients = clients }) ≡ begin_answer p w
unfolding begin_answer
begin_is p w v e sinks tick clients f g is =
    let now = next_tick w.tick in
    let same : tick ≡ now = g ∙ ap (λ (u : World). next_tick u.tick) e in
    let delivered : clients ≡ map (deliver p w now) w.clients =
    is ∙ (ap (λ s. map (deliver_by s tick) v.clients) f ∙ (ap (λ (u : World). map (deliver_by (attached_sinks p w) tick) u.clients) e
    ∙ (ap (λ t. map (deliver_by (attached_sinks p w) t) w.clients) same ∙ ap (λ h. map h w.clients) (delivers p w now)))) in
    ap (λ (u : World). says (reply.Ticked tick) (record u { tick = tick; clients = clients })) e
    ∙ (ap (λ l. says (reply.Ticked tick) (record w { tick = tick; clients = l })) delivered
    ∙ ap (λ t. says (reply.Ticked t) (record w { tick = t; clients = map (deliver p w now) w.clients })) same)

-- the four parts of what follows
pub follow_effects : (w v1 v2 v3 : World) (presented : List Sub) (r : Reply) (a : List Sub) (d : List Lost) (b : List Returned) (f : List Fed)
    → v1 ≡ settle w → v2 ≡ collect v1 → v3 ≡ give_back v2 → a ≡ activated_in w → d ≡ destroyed_in v1 → b ≡ returned_in v2 → f ≡ fed_in presented v3
    → ◌≡◌ {A = Effects} (record { activated = a; destroyed = d; returned = b; fed = f }) (outcome_of presented (says r w)).effects
unfolding outcome_of
follow_effects w v1 v2 v3 presented r a d b f e1 e2 e3 ea ed eb ef =
    let c2 : v2 ≡ collect (settle w) = e2 ∙ ap collect e1 in
    let c3 : v3 ≡ give_back (collect (settle w)) = e3 ∙ ap give_back c2 in
    λ i. record {
      activated = ea i;
      destroyed = (ed ∙ ap destroyed_in e1) i;
      returned = (eb ∙ ap returned_in c2) i;
      fed = (ef ∙ ap (fed_in presented) c3) i;
    }

-- the world that is left
pub follow_world : (w v1 v2 v3 v4 : World) (presented : List Sub) (r : Reply) → v1 ≡ settle w → v2 ≡ collect v1 → v3 ≡ give_back v2 → v4 ≡ feed presented v3
    → v4 ≡ (outcome_of presented (says r w)).world
unfolding outcome_of
follow_world w v1 v2 v3 v4 presented r e1 e2 e3 e4 = e4 ∙ ap (feed presented) (e3 ∙ ap give_back (e2 ∙ ap collect e1))

reply_same : (l : List Sub) (q : Reply) (x : World) → q ≡ (outcome_of l (says q x)).reply
unfolding outcome_of
reply_same l q x = refl

-- what follows an answer, by its parts
pub outcome_is : (presented : List Sub) (r : Reply) (w v : World) (e : Effects) → e ≡ (outcome_of presented (says r w)).effects → v ≡ (outcome_of presented (says r w)).world
    → ◌≡◌ {A = Outcome} (record { reply = r; effects = e; world = v }) (outcome_of presented (says r w))
outcome_is presented r w v e a b = λ i. record { reply = reply_same presented r w i; effects = a i; world = b i }

-- the steps that present nothing
pub client_step : (p : Plan) (w v : World) (c : ℕ) (r : Reply) → says r v ≡ client_answer p w c → outcome_of [] (says r v) ≡ step_in p w (event.Client c)
unfolding step_in answer_to
client_step p w v c r a = ap (outcome_of []) a

pub begin_step : (p : Plan) (w v : World) (r : Reply) → says r v ≡ begin_answer p w → outcome_of [] (says r v) ≡ step_in p w event.Begin
unfolding step_in answer_to
begin_step p w v r a = ap (outcome_of []) a

pub draw_step : (p : Plan) (w v : World) (r : Reply) → says r v ≡ draw_answer p w → outcome_of [] (says r v) ≡ step_in p w event.Draw
unfolding step_in answer_to
draw_step p w v r a = ap (outcome_of []) a

-- the world that a machine goes on to
pub reached_after : (m : Machine) (e : Event) (r : Reply) (v : World) → IsReached m.plan m.world → outcome_of [] (says r v) ≡ step_in m.plan m.world e
    → IsReached m.plan (outcome_of [] (says r v)).world
reached_after m e r v h s = subst (λ (o : Outcome). IsReached m.plan o.world) (sym s) (reached_step m.plan m.world e h)

-- what follows leaves the reply
pub reply_stays : (presented : List Sub) (r q : Reply) (w v : World) (e : Effects) → record { reply = q; effects = e; world = v } ≡ outcome_of presented (says r w) → r ≡ q
unfolding outcome_of
reply_stays presented r q w v e is = sym (ap (λ (o : Outcome). o.reply) is)

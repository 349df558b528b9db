-- Messages that change their client alone: what they leave, and that nothing follows.
use Rattle.std.proofs.Common.{◌≡◌, ◌≤◌, is_some, ℕ, ◌+◌, ◌==◌, Bool, true, false, Option, Some, None, List, [], ◌∷◌, map, refl, sym, ap, ◌∙◌, subst, cond, if◌then◌else◌, arith}
use Rattle.std.specs.List.{sum_by}
use Rattle.std.specs.Option.{IfSome}
use Rattle.std.proofs.lemmas.List.Sums.{sum_by-cons}
use Rattle.vz_rules.proofs.Counts.{count_cons}
use Rattle.vz_frame.specs.Roomy.{Roomy}
use Rattle.vz_frame.specs.declared.message.Message.{Message}
use Rattle.vz_frame.specs.declared.message.Message.TheVariants as message
use Rattle.vz_ids.specs.declared.Sub.{Sub}
use Rattle.vz_pixels.specs.Block.{Block}
use Rattle.vz_rules.specs.Plan.{Plan}
use Rattle.vz_rules.specs.World.{World, Machine, Client, Resource, change_client, opening}
use Rattle.vz_rules.specs.Kept.{Keeps, no_effects}
use Rattle.vz_rules.specs.Messages.{Answer, says, took, taking, refused, in_use, put_resource, upload_answer, answer_tick, reclaim, await_answer, message_answer, client_answer}
use Rattle.vz_rules.specs.Step.{Outcome, draw_answer, step_in}
use Rattle.vz_rules.specs.declared.entry.Effects.{Effects}
use Rattle.vz_rules.specs.declared.entry.Event.TheVariants as event
use Rattle.vz_rules.specs.declared.entry.Fed.{Fed}
use Rattle.vz_rules.specs.declared.entry.Refusal.{Refusal}
use Rattle.vz_rules.specs.declared.entry.Refusal.TheVariants as refusal
use Rattle.vz_rules.specs.declared.entry.Reply.{Reply}
use Rattle.vz_rules.specs.declared.entry.Reply.TheVariants as reply
use Rattle.vz_rules.specs.declared.entry.Returned.{Returned}
use Rattle.vz_rules.proofs.Kept_answers.{keeps_refused, keeps_upload, keeps_noted, keeps_reclaimed, keeps_await}
use Rattle.vz_rules.proofs.Kept_quiet.{nothing_follows}
use Rattle.vz_state.specs.Outs.{is_out, outs, all_outs, unfed}
use Rattle.vz_state.proofs.Lending.{outs_put}
use Rattle.vz_slow.specs.Drawn.{drawn_picture}
use Rattle.vz_slow.specs.Quiet.{IsAfterQuiet, IsAlone, IsQuietStep, IsUndrawn, AreOwn, IsOwn}
use Rattle.vz_slow.specs.Reaching.{IsReached, IsSlow, IsOutcome, HasRoom, IsRoom}
use Rattle.vz_slow.proofs.Drawing.{draw_unnamed}
use Rattle.vz_slow.proofs.Following.{client_step, draw_step}
use Rattle.vz_slow.proofs.Reaching.{reached_step, reached_small}

-- the clients of a world that a plan leads to are small, and numbered from 1
pub reached_own : (p : Plan) (w : World) → IsReached p w → IsOwn w
reached_own p w r =
    let small = reached_small p w r in
    record { small = small; clients = record { small = small.clients; numbered = r.keeps.always.clients.numbered } }

-- where each client has as much outstanding as before, so have all
outs_changed : (f : Client → Client) (c : ℕ) (clients : List Client) → ((y : Client) → outs (f y).resources ≡ outs y.resources) → all_outs (change_client (λ x. took (f x)) c clients) ≡ all_outs clients
unfolding all_outs
outs_changed f c [] h = refl
outs_changed f c (x ∷ xs) h =
    let given : List Client = change_client (λ (y : Client). took (f y)) c xs in
    let here : outs (cond (x.number == c) (took (f x)) x).resources ≡ outs x.resources = by (x.number == c) in
    let rest : sum_by (λ (y : Client). outs y.resources) given ≡ sum_by (λ (y : Client). outs y.resources) xs = outs_changed f c xs h in
    let a = sum_by-cons (λ (y : Client). outs y.resources) (cond (x.number == c) (took (f x)) x) given in
    let b = sum_by-cons (λ (y : Client). outs y.resources) x xs in
    omega arith
  where
    by : (t : Bool) → outs (cond t (took (f x)) x).resources ≡ outs x.resources
    by true = h x
    by false = refl

-- a change of one client
left_taking : (f : Client → Client) (x : Client) (w : World) → ((y : Client) → outs (f y).resources ≡ outs y.resources) → (Keeps w → Keeps (taking f x w)) → IsAfterQuiet w (taking f x w)
left_taking f x w h k = record { keeps = k; outs = outs_changed f x.number w.clients h; subs = refl; in_flight = refl }

left_same : (w : World) → IsAfterQuiet w w
left_same w = record { keeps = λ k. k; outs = refl; subs = refl; in_flight = refl }

left_refused : (w : World) (x : Client) (r : Refusal) → IsAfterQuiet w (refused w x r).world
left_refused w x r = left_taking (λ y. y) x w (λ y. refl) (keeps_refused w x r)

left_upload : (w : World) (x : Client) (id : ℕ) (block : Block) → IsAfterQuiet w (upload_answer w x id block).world
unfolding upload_answer
left_upload w x id block = by (in_use x.resources id) (keeps_upload w x id block)
  where
    answer : Bool → Answer
    answer t =
        if t then refused w x refusal.InUse
        else says reply.Stored (taking (λ (y : Client). record y { resources = put_resource id block y.resources }) x w)

    by : (t : Bool) → (Keeps w → Keeps (answer t).world) → IsAfterQuiet w (answer t).world
    by true k = left_taking (λ y. y) x w (λ y. refl) k
    by false k = left_taking (λ (y : Client). record y { resources = put_resource id block y.resources }) x w (λ y. outs_put id block y.resources) k

left_noted : (w : World) (x : Client) (n : ℕ) → IsAfterQuiet w (taking (answer_tick w.tick n) x w)
left_noted w x n = left_taking (answer_tick w.tick n) x w (λ y. by y (n == w.tick)) (keeps_noted w x n)
  where
    by : (y : Client) (t : Bool) → outs (if t then record y { answered = w.tick } else y).resources ≡ outs y.resources
    by y true = refl
    by y false = refl

outs_reclaimed : (rs : List Resource) → outs (map (λ (s : Resource). record s { reclaimed = s.queued }) rs) ≡ outs rs
unfolding outs
outs_reclaimed [] = refl
outs_reclaimed (s ∷ ss) =
    let more : List Resource → List Resource = map (λ (t : Resource). record t { reclaimed = t.queued }) in
    count_cons is_out (record s { reclaimed = s.queued }) (more ss) ∙ (ap (λ n. cond {A = ℕ} (is_out s) 1 0 + n) (outs_reclaimed ss) ∙ sym (count_cons is_out s ss))

left_reclaimed : (w : World) (x : Client) → IsAfterQuiet w (taking reclaim x w)
left_reclaimed w x = left_taking reclaim x w (λ y. outs_reclaimed y.resources) (keeps_reclaimed w x)

left_await : (w : World) (x : Client) → IsAfterQuiet w (await_answer w x).world
unfolding await_answer
left_await w x = by x.delivered w.over (keeps_await w x)
  where
    answer : Option ℕ → Bool → Answer
    answer o t =
        elim o [
          | Some n ↦ says (reply.Began n) (taking (λ (y : Client). record y { delivered = None }) x w)
          | None ↦ if t then says reply.Over (taking (λ y. y) x w) else says (reply.Refused refusal.NotYet) w
        ]

    by : (o : Option ℕ) (t : Bool) → (Keeps w → Keeps (answer o t).world) → IsAfterQuiet w (answer o t).world
    by (Some n) t k = left_taking (λ (y : Client). record y { delivered = None }) x w (λ y. refl) k
    by None true k = left_taking (λ y. y) x w (λ y. refl) k
    by None false k = left_same w

-- what was done is the answer, which changes a client alone
pub alone : (w v : World) (r : Reply) (a : Answer) → says r v ≡ a → IsAfterQuiet w a.world → IsAlone w a (Some r) v
alone w v r a e h = (e, subst (IsAfterQuiet w) (sym (ap (λ (b : Answer). b.world) e)) h)

pub alone_upload : (w v : World) (x : Client) (r : Reply) (m : Message) (id : ℕ) (block : Block) → m ≡ message.Upload id block → says r v ≡ message_answer w x m → IsAlone w (message_answer w x m) (Some r) v
unfolding message_answer
alone_upload w v x r m id block is e = alone w v r (message_answer w x m) e (subst (λ k. IsAfterQuiet w (message_answer w x k).world) (sym is) (left_upload w x id block))

pub alone_noted : (w v : World) (x : Client) (r : Reply) (m : Message) (n : ℕ) → m ≡ message.DidNotProduce n → says r v ≡ message_answer w x m → IsAlone w (message_answer w x m) (Some r) v
unfolding message_answer
alone_noted w v x r m n is e = alone w v r (message_answer w x m) e (subst (λ k. IsAfterQuiet w (message_answer w x k).world) (sym is) (left_noted w x n))

pub alone_reclaimed : (w v : World) (x : Client) (r : Reply) (m : Message) → m ≡ message.Reclaim → says r v ≡ message_answer w x m → IsAlone w (message_answer w x m) (Some r) v
unfolding message_answer
alone_reclaimed w v x r m is e = alone w v r (message_answer w x m) e (subst (λ k. IsAfterQuiet w (message_answer w x k).world) (sym is) (left_reclaimed w x))

pub alone_await : (w v : World) (x : Client) (r : Reply) (m : Message) → m ≡ message.Await → says r v ≡ message_answer w x m → IsAlone w (message_answer w x m) (Some r) v
unfolding message_answer
alone_await w v x r m is e = alone w v r (message_answer w x m) e (subst (λ k. IsAfterQuiet w (message_answer w x k).world) (sym is) (left_await w x))

-- a message that is refused, or that is not there
pub alone_refused : (w v : World) (x : Client) (r : Reply) (why : Refusal) (a : Answer) → says r v ≡ refused w x why → refused w x why ≡ a → IsAlone w a (Some r) v
alone_refused w v x r why a e is = alone w v r a (e ∙ is) (subst (λ (b : Answer). IsAfterQuiet w b.world) is (left_refused w x why))

pub alone_none : (w v : World) (r : Reply) (a : Answer) → v ≡ w → says r w ≡ a → IsAlone w a (Some r) v
alone_none w v r a same is = alone w v r a (ap (says r) same ∙ is) (subst (λ (b : Answer). IsAfterQuiet w b.world) is (left_same w))

-- the same for an answer that is equal to it
pub alone_as : (w v : World) (a b : Answer) (o : Option Reply) → a ≡ b → IsAlone w a o v → IsAlone w b o v
alone_as w v a b o is h = subst (λ (x : Answer). IsAlone w x o v) is h

-- nothing follows such a message
step_alone : (p : Plan) (w v : World) (c : ℕ) (r : Reply) → Keeps w → IsAlone w (client_answer p w c) (Some r) v → IsOutcome (step_in p w (event.Client c)) (r, no_effects) v
step_alone p w v c r k h = sym (nothing_follows r v (h.1.keeps k)) ∙ client_step p w v c r h.0

pub quiet_step : (p : Plan) (w v : World) (c : ℕ) (o : Option Reply) (m : Machine) → record { plan = p; world = w } ≡ m → Keeps w → IsAlone w (client_answer p w c) o v
    → IsQuietStep m c o (record { plan = p; world = v })
quiet_step p w v c None m e k h = ap (λ (u : World). record { plan = p; world = u }) h ∙ e
quiet_step p w v c (Some r) m e k h = subst (λ (n : Machine). IsOutcome (step_in n.plan n.world (event.Client c)) (r, no_effects) v) e (step_alone p w v c r k h)

-- the outcome of a step that was taken so
pub quiet_outcome : (m n : Machine) (c : ℕ) (o : Option Reply) (r : Reply) (e : Effects) → IsQuietStep m c o n → o ≡ Some r → e ≡ no_effects → IsOutcome (step_in m.plan m.world (event.Client c)) (r, e) n.world
quiet_outcome m n c o r e h is none =
    subst (λ x. IsOutcome (step_in m.plan m.world (event.Client c)) (r, x) n.world) (sym none) (subst (λ x. IsQuietStep m c x n) is h)

-- nothing was done
pub quiet_none : (m n : Machine) (c : ℕ) (o : Option Reply) → IsQuietStep m c o n → o ≡ None → n ≡ m
quiet_none m n c o h is = subst (λ x. IsQuietStep m c x n) is h

room_after : (w v : World) (r : Roomy Returned) (f : Roomy Fed) (e : Bool) → IsAfterQuiet w v → HasRoom w r f e → HasRoom v r f e
room_after w v r f e q h =
    record {
      room = λ t.
          let m = h.room (ap is_flying (sym q.in_flight) ∙ t) in
          record { returned = subst (λ n. n ≤ r.spare) (sym q.outs) m.returned; fed = subst (λ s. unfed s ≤ f.spare) (sym q.subs) m.fed; effects = m.effects };
      no_returned = h.no_returned;
      no_fed = h.no_fed;
    }
  where
    is_flying : Option (List Sub) → Bool
    is_flying o = is_some o

-- what always holds holds after such a message
pub slow_quiet : (p : Plan) (w v : World) (c : ℕ) (o : Option Reply) (r : Roomy Returned) (f : Roomy Fed) (e : Bool) → IsSlow p w r f e → IsAlone w (client_answer p w c) o v → IsSlow p v r f e
slow_quiet p w v c None r f e s h = subst (λ (u : World). IsSlow p u r f e) (sym h) s
slow_quiet p w v c (Some a) r f e s h =
    let step = step_alone p w v c a s.reached.keeps h in
    record {
      reached = subst (IsReached p) (sym (ap (λ (o : Outcome). o.world) step)) (reached_step p w (event.Client c) s.reached);
      has_room = room_after w v r f e h.1 s.has_room;
    }

-- Drawings that draw nothing

-- nothing is drawn of a world
pub undrawn_step : (p : Plan) (w : World) (m : Machine) (o : Option Reply) → record { plan = p; world = w } ≡ m → Keeps w → IfSome o (λ r. (says r w ≡ draw_answer p w) × (drawn_picture p w r ≡ None)) → IfSome o (λ r. IsUndrawn m r)
undrawn_step p w m None e k h = tt
undrawn_step p w m (Some r) e k h = subst (λ (n : Machine). IsUndrawn n r) e (record { outcome = sym (nothing_follows r w k) ∙ draw_step p w w r h.0; picture = h.1 })

-- nothing is drawn at the opening
pub undrawn_opening : (p : Plan) (over : Bool) → says reply.NoRoot (record (opening p) { over = over }) ≡ draw_answer p (record (opening p) { over = over })
unfolding opening
undrawn_opening p over = draw_unnamed p (record (opening p) { over = over }) refl refl

-- the outcome of such a drawing
pub undrawn_is : (m : Machine) (o : Option Reply) (r : Reply) → IfSome o (λ x. IsUndrawn m x) → o ≡ Some r → IsUndrawn m r
undrawn_is m o r h is = subst (λ x. IfSome x (λ y. IsUndrawn m y)) is h

pub undrawn_outcome : (m : Machine) (o : Option Reply) (r : Reply) (e : Effects) → IfSome o (λ x. IsUndrawn m x) → o ≡ Some r → e ≡ no_effects → IsOutcome (step_in m.plan m.world event.Draw) (r, e) m.world
undrawn_outcome m o r e h is none = subst (λ x. IsOutcome (step_in m.plan m.world event.Draw) (r, x) m.world) (sym none) (undrawn_is m o r h is).outcome

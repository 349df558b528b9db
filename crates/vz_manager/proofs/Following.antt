-- Steps from which nothing follows: what they answer, and what stands for the state that they leave.
use Rattle.std.proofs.Common.{◌≡◌, ℕ, ◌≤◌, Bool, true, false, ◌==◌, Option, Some}
use Rattle.std.proofs.Common.{None, [], length, refl, ap, sym, ◌∙◌, subst, arith, Contains}
use Rattle.std.specs.Prelude.{if◌then◌else◌}
use Rattle.vz_pixels.specs.Block.{Block}
use Rattle.vz_ids.specs.declared.FrameSinkId.{FrameSinkId}
use Rattle.vz_frame.specs.declared.message.Message.{Message}
use Rattle.vz_frame.specs.declared.message.Message.TheVariants.{Upload, DidNotProduce, Reclaim, Hierarchy, Await}
use Rattle.vz_rules.specs.{declared.entry.Event.Event, Plan.Plan, World.World, World.Client, World.client_at, Kept.Keeps, Kept.no_effects}
use Rattle.vz_rules.specs.declared.entry.Event.TheVariants as event
use Rattle.vz_rules.specs.declared.entry.Reply.TheVariants as reply
use Rattle.vz_rules.specs.declared.entry.Refusal.TheVariants as refusal
use Rattle.vz_rules.specs.Messages.{Answer, says, refused, taking, in_use, put_resource, answer_tick}
use Rattle.vz_rules.specs.Messages.{reclaim, upload_answer, hierarchy_answer}
use Rattle.vz_rules.specs.Messages.{await_answer, message_answer, known_client_answer, client_answer}
use Rattle.vz_rules.specs.Step.{Outcome, answer_to, presented_by, outcome_of, step_in}
use Rattle.vz_rules.proofs.{Members.find_at, Kept_quiet.nothing_follows, Kept_between.keeps_step, Kept_answers.keeps_over, Kept_sending.messages_step}
use Rattle.vz_rules.proofs.Kept_planned.{plan_step}
use Rattle.vz_machine.specs.declared.machine.Step.{Step}
use Rattle.vz_returns.specs.{Lent.NoneReleased, Lent.AreLent, Lent.IsLender, Lent.resources_out, Quiet.KeepsReferences}
use Rattle.vz_returns.proofs.Lent_kept.{keeps_when}
use Rattle.vz_surface_manager.specs.{Live.Live, Live.AreLive, Settles.AreSettling}
use Rattle.vz_surface_manager.proofs.{Quiet_changes.IsQuiet, Quiet.live_like, Waits_kept.waits_like}
use Rattle.vz_support.specs.Supporting.{Supported, IsSupport, Sends}
use Rattle.vz_manager.specs.Serving.{Served, Serves, CanLand, IsStepOf, IsSending, HasNone, IsClosed, IsRefused}

-- Answers

-- the answer to a client by what is found of it
abbrev client_by : Plan → World → Option Client → Answer
client_by p w o = elim o [ None ↦ says (reply.Refused refusal.NoMessage) w | Some x ↦ known_client_answer p w x ]

-- the answer to a client by its next message
abbrev known_by : World → Client → Option Message → Bool → Answer
known_by w x o t = elim o [ None ↦ says (reply.Refused refusal.NoMessage) w | Some m ↦ if t then refused w x refusal.AlreadyClosed else message_answer w x m ]

-- no message is left
pub none_answer : (p : Plan) (w : World) (c : ℕ) (x : Client) → HasNone p w c x
    → answer_to p w (event.Client c) ≡ says (reply.Refused refusal.NoMessage) w
unfolding answer_to client_answer known_client_answer
none_answer p w c x h = ap (client_by p w) h.here ∙ ap (λ o. known_by w x o x.closed) h.none

-- the client is closed
closed_answer : (p : Plan) (w : World) (c : ℕ) (x : Client) (m : Message) → IsClosed p w c x m
    → answer_to p w (event.Client c) ≡ refused w x refusal.AlreadyClosed
unfolding answer_to client_answer known_client_answer
closed_answer p w c x m h =
    ap (client_by p w) h.here ∙ (ap (λ o. known_by w x o x.closed) h.next ∙ ap (λ t. known_by w x (Some m) t) h.closed)

pub closed_refused : (p : Plan) (w : World) (c : ℕ) (x : Client) (m : Message) → IsClosed p w c x m
    → IsRefused p w c x m refusal.AlreadyClosed
closed_refused p w c x m h = record { here = h.here; next = h.next; answer = closed_answer p w c x m h }

-- the client is not closed
pub sent_answer : (p : Plan) (w : World) (c : ℕ) (x : Client) (m : Message) → IsSending p w c x m
    → answer_to p w (event.Client c) ≡ message_answer w x m
unfolding answer_to client_answer known_client_answer
sent_answer p w c x m h =
    ap (client_by p w) h.here ∙ (ap (λ o. known_by w x o x.closed) h.next ∙ ap (λ t. known_by w x (Some m) t) h.stays)

pub noted_answer : (p : Plan) (w : World) (c : ℕ) (x : Client) (n : ℕ) → IsSending p w c x (DidNotProduce n)
    → answer_to p w (event.Client c) ≡ says reply.Noted (taking (answer_tick w.tick n) x w)
unfolding message_answer
noted_answer p w c x n h = sent_answer p w c x (DidNotProduce n) h

pub upload_sent : (p : Plan) (w : World) (c : ℕ) (x : Client) (id : ℕ) (block : Block) → IsSending p w c x (Upload id block)
    → answer_to p w (event.Client c) ≡ upload_answer w x id block
unfolding message_answer
upload_sent p w c x id block h = sent_answer p w c x (Upload id block) h

pub reclaim_sent : (p : Plan) (w : World) (c : ℕ) (x : Client) → IsSending p w c x Reclaim
    → answer_to p w (event.Client c) ≡ says (reply.Reclaimed x.queue) (taking reclaim x w)
unfolding message_answer
reclaim_sent p w c x h = sent_answer p w c x Reclaim h

pub hierarchy_sent : (p : Plan) (w : World) (c : ℕ) (x : Client) (parent child : FrameSinkId) → IsSending p w c x (Hierarchy parent child)
    → answer_to p w (event.Client c) ≡ hierarchy_answer w x parent child
unfolding message_answer
hierarchy_sent p w c x parent child h = sent_answer p w c x (Hierarchy parent child) h

pub await_sent : (p : Plan) (w : World) (c : ℕ) (x : Client) → IsSending p w c x Await → answer_to p w (event.Client c) ≡ await_answer w x
unfolding message_answer
await_sent p w c x h = sent_answer p w c x Await h

pub over_answer : (p : Plan) (w : World) → answer_to p w event.Over ≡ says reply.Ended (record w { over = true })
unfolding answer_to
over_answer p w = refl

pub over_keeps : (p : Plan) (w : World) → Keeps w → Keeps (record w { over = true })
unfolding answer_to
over_keeps p w h = keeps_over p w h

-- Steps

-- where an answer leaves what is kept between steps, and nothing is presented, the step is that answer
pub quiet_step : (p : Plan) (w : World) (e : Event) (a : Answer) → answer_to p w e ≡ a → presented_by w e ≡ [] → Keeps a.world
    → step_in p w e ≡ record { reply = a.reply; effects = no_effects; world = a.world }
unfolding step_in
quiet_step p w e a is none keeps = (λ i. outcome_of (none i) (is i)) ∙ nothing_follows a.reply a.world keeps

pub step_of : (p : Plan) (w : World) (e : Event) (a : Answer) (s : Step) → answer_to p w e ≡ a → presented_by w e ≡ [] → Keeps a.world
    → s.reply ≡ a.reply → s.effects ≡ no_effects → IsStepOf p w e s
step_of p w e a s is none keeps told follows =
    let quiet = quiet_step p w e a is none keeps in
    record { reply = told ∙ ap (λ (o : Outcome). o.reply) (sym quiet); effects = follows ∙ ap (λ (o : Outcome). o.effects) (sym quiet) }

-- the parts stand for what a step leaves, with what is kept for the clients and what is lent changed
pub serves_with : (p : Plan) (w : World) (e : Event) (a : Answer) (v : Served) (support : Supported) (live : Live) → Serves p w v
    → answer_to p w e ≡ a → presented_by w e ≡ [] → Keeps a.world → live ≡ record v.settling.live { lent = live.lent }
    → NoneReleased live.lent → resources_out live.lent ≡ resources_out v.settling.live.lent
    → IsSupport p a.world support → IsQuiet w a.world → AreLive a.world None live
    → Serves p (step_in p w e).world (record v { support = support; settling = record v.settling { live = live } })
serves_with p w e a v support live h is none keeps rest released out kept quiet stands =
    record {
      plan = h.plan;
      keeps = keeps_step p w e h.keeps.always;
      of_plan = plan_step p w e h.plan h.keeps.always h.of_plan;
      messages = messages_step p w e h.plan h.keeps.always h.messages;
      size = h.size;
      support = subst (λ u. IsSupport p u support) (sym left) kept;
      settling = subst (λ u. AreSettling u None (record v.settling { live = live })) (sym left)
          (record { always = keeps.always; live = stands; waiting = waits_like w a.world v.settling.waiting quiet h.settling.waiting });
      released = released;
      lands = subst (λ (l : Live). CanLand (record v { support = support; settling = record v.settling { live = l } })) (sym rest) lands;
    }
  where
    left : (step_in p w e).world ≡ a.world
    left = ap (λ (o : Outcome). o.world) (quiet_step p w e a is none keeps)

    lands : CanLand (record v { support = support; settling = record v.settling { live = record v.settling.live { lent = live.lent } } })
    lands =
        record {
          none_returned = h.lands.none_returned;
          none_fed = h.lands.none_fed;
          returned = λ flies. subst (λ n. n ≤ v.returned.spare) (sym out) (h.lands.returned flies);
          fed = h.lands.fed;
          effects = h.lands.effects;
        }

-- where nothing but what is kept for the clients changes
pub serves_on : (p : Plan) (w : World) (e : Event) (a : Answer) (v : Served) (support : Supported) → Serves p w v
    → answer_to p w e ≡ a → presented_by w e ≡ [] → Keeps a.world
    → IsSupport p a.world support → IsQuiet w a.world → AreLent a.world v.settling.live.lent
    → Serves p (step_in p w e).world (record v { support = support })
serves_on p w e a v support h is none keeps kept quiet lent =
    serves_with p w e a v support v.settling.live h is none keeps refl h.released refl kept quiet
    (live_like w a.world None v.settling.live v.settling.live.lent quiet lent h.settling.live)

-- Clients

-- a client's next message, in a state that the parts stand for
pub sends_next : (p : Plan) (w : World) (v : Served) (c : ℕ) (x : Client) (m : Message) → Serves p w v → IsSending p w c x m
    → Sends p w c x m
sends_next p w v c x m h is = record { keeps = h.keeps.always; here = is.here; next = is.next }

pub refers_plain : KeepsReferences (λ x. x)
refers_plain = record { number = λ c. refl; resources = λ c. refl; queue = λ c. refl }

pub refers_noted : (tick n : ℕ) → KeepsReferences (answer_tick tick n)
refers_noted tick n =
    keeps_when (λ (x : Client). record x { answered = tick }) (λ x. n == tick)
    (record { number = λ c. refl; resources = λ c. refl; queue = λ c. refl })

-- a client that is there
pub client_here : (w : World) (c : ℕ) (x : Client) → client_at w c ≡ Some x → Contains w.clients x
client_here w c x here = (find_at (λ (z : Client). z.number == c) w.clients x here).0

-- it is one that lends
pub lender_here : (p : Plan) (w : World) (v : Served) (c : ℕ) → Serves p w v → 1 ≤ c → c ≤ length v.support.clients
    → IsLender c v.settling.live.lent
lender_here p w v c h some known = (some, omega (arith, known, h.support.clients.count, h.settling.live.lent.many))

-- Uploads

pub same_upload : (a b : ℕ) (d e : Block) → ◌≡◌ {A = Option Message} (Some (Upload a d)) (Some (Upload b e)) → a ≡ b
same_upload a b d e f = cc

pub upload_refused : (w : World) (x : Client) (id : ℕ) (block : Block) → in_use x.resources id ≡ true
    → upload_answer w x id block ≡ refused w x refusal.InUse
unfolding upload_answer
upload_refused w x id block e =
    ap (λ t. if t then refused w x refusal.InUse else says reply.Stored
    (taking (λ y. record y { resources = put_resource id block y.resources }) x w)) e

pub upload_stored : (w : World) (x : Client) (id : ℕ) (block : Block) → in_use x.resources id ≡ false
    → (upload_answer w x id block).reply ≡ reply.Stored
unfolding upload_answer
upload_stored w x id block e =
    ap (λ t. (if t then refused w x refusal.InUse else says reply.Stored
    (taking (λ y. record y { resources = put_resource id block y.resources }) x w)).reply) e

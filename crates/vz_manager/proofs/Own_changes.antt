-- The own changes of the steps from which something follows, but for submissions: a root, a client that is closed, and a begin-frame.
use Rattle.std.proofs.Common.{◌≡◌, ℕ, ◌+◌, ◌≤◌, Bool, true, false, ◌==◌, Option, Some, None}
use Rattle.std.proofs.Common.{List, [], ◌++◌, length, map, refl, ap, sym, ◌∙◌, arith, cond, Contains}
use Rattle.std.proofs.lemmas.List.{length-map}
use Rattle.vz_base.specs.declared.limits.TheConstants.{MOST_FILES}
use Rattle.vz_ids.specs.{declared.FrameSinkId.FrameSinkId, declared.LocalSurfaceId.LocalSurfaceId, declared.SurfaceId.SurfaceId, declared.Sub.Sub}
use Rattle.vz_frame.specs.Roomy.{Roomy}
use Rattle.vz_frame.specs.{declared.message.Message.Message, declared.message.Message.TheVariants.SetRoot, declared.message.Message.TheVariants.Close}
use Rattle.vz_rules.specs.declared.entry.Event.TheVariants as event
use Rattle.vz_rules.specs.declared.entry.Reply.TheVariants as reply
use Rattle.vz_rules.specs.Plan.{Plan}
use Rattle.vz_rules.specs.{World.World, World.Client, World.client_at, World.sub_of, Step.answer_to, Step.begin_answer, Step.next_tick, Step.deliver}
use Rattle.vz_rules.specs.{Settle.ready, Reach.naming, Reach.lost_in, Messages.took, Messages.root_answer, Messages.message_answer, Kept.KeepsAlways}
use Rattle.vz_rules.proofs.{Kept_messages.always_root, Kept_messages.always_closed, Kept_steps.always_answer, Cases.number_at}
use Rattle.vz_returns.specs.{Lent.resources_out, Owed.OwedAndRoom, Notes.owed_count}
use Rattle.vz_surfaces.specs.{Memory.HasNumber, Reading.existing_count}
use Rattle.vz_surface_manager.specs.{Waits.Waits, Waits.AreWaiting, Live.Live, Live.AreLive}
use Rattle.vz_surface_manager.proofs.{Waits_on.as_many, Waits_kept.waits_like, Quiet.live_like, Quiet_changes.IsQuiet, Quiet_changes.quiet_rooted}
use Rattle.vz_returns.proofs.Lent_kept.{lent_root}
use Rattle.vz_surface_manager.specs.{declared.surface_manager.SurfaceManager.SurfaceManager, Settles.AreSettling, Settles.IsToSettle}
use Rattle.vz_support.specs.Supporting.{Supported, IsSupport, IsNext, Sends}
use Rattle.vz_support.proofs.Asking.{numbered_there, next_same}
use Rattle.vz_manager.specs.{Serving.Served, Serving.Serves, Serving.IsSending, declared.outcome.Following.Following}
use Rattle.vz_manager.specs.Followed.{IsFollowed, IsBetween, HasRoomAfter, CanFollow, CanKeep}
use Rattle.vz_manager.proofs.{Resting.appended, Unlost.always_asked}
use Rattle.vz_manager.proofs.{Following.sent_answer, Following.client_here, Rooming.can_follow, Rooming.as_many_rise, Rooming.none_rises}

-- What such a change leaves

-- a change leaves the submissions, the drawn frame, and as many clients
pub record LeavesSubs (w u : World) : Type 0 where
  pub subs : u.subs ≡ w.subs
  pub in_flight : u.in_flight ≡ w.in_flight
  pub clients : length u.clients ≡ length w.clients

quiet_leaves : (w u : World) → IsQuiet w u → LeavesSubs w u
quiet_leaves w u q = record { subs = q.subs; in_flight = q.in_flight; clients = ap length q.clients ∙ length-map w.clients q.change }

pub close_leaves : (w : World) (c : Client) → LeavesSubs w (message_answer w c Close).world
unfolding message_answer
close_leaves w c =
    record {
      subs = refl;
      in_flight = refl;
      clients = length-map w.clients (λ (x : Client). cond (x.number == c.number) (took (record x { closed = true })) x);
    }

pub begin_leaves : (p : Plan) (w : World) → LeavesSubs w (begin_answer p w).world
unfolding begin_answer
begin_leaves p w = record { subs = refl; in_flight = refl; clients = length-map w.clients (deliver p w (next_tick w.tick)) }

pub always_close : (w : World) (c : Client) → KeepsAlways w → KeepsAlways (message_answer w c Close).world
unfolding message_answer
always_close w c h = always_closed w c h

pub always_begun : (p : Plan) (w : World) → KeepsAlways w → KeepsAlways (begin_answer p w).world
unfolding answer_to
always_begun p w h = always_answer p w event.Begin h

-- What follows it

-- between steps the parts stand for a state in which nothing is due
pub between : (p : Plan) (w : World) (v : Served) → Serves p w v → IsBetween w v.settling
between p w v h = record { keeps = h.keeps; stands = h.settling }

few_clients : (p : Plan) (w : World) (v : Served) → Serves p w v → length w.clients ≤ MOST_FILES
few_clients p w v h = omega (arith, h.of_plan.files.as_many, h.plan.few_files)

-- a step made such a change, of no new surface
pub is_followed : (p : Plan) (w u : World) (v : Served) (root : Option SurfaceId) (anew : Bool) (settling : SurfaceManager) (f : Following)
    → Serves p w v → LeavesSubs w u → root ≡ u.root → IsToSettle u None settling f.activated.list
    → (anew ≡ false → lost_in (naming u) ≡ []) → IsFollowed u root None anew settling f
is_followed p w u v root anew settling f h leaves of_root to unlost =
    record {
      settles = to;
      of_root = of_root;
      few = omega (arith, few_clients p w v h, leaves.clients);
      is = λ n e. absurd (cc);
      unlost = unlost;
    }

no_new : (v : SurfaceManager) → CanKeep None v
no_new v n e = absurd (cc)

-- Clients

-- a client that is kept is one of the state, and takes the message next that it is kept to take
pub sender_there : (p : Plan) (w : World) (v : Served) (c : ℕ) (m : Message) → Serves p w v → 1 ≤ c → c ≤ length v.support.clients
    → IsNext v.support c m → (x : Client) × Sends p w c x m
sender_there p w v c m h some known next =
    let x = numbered_there w c h.keeps.always.clients some (omega (arith, known, h.support.clients.count)) in
    (x.0, record { keeps = h.keeps.always; here = x.1; next = sym (next_same p w v.support c x.0 h.support x.1) ∙ next })

-- its number is one of those that a plan may have
pub number_there : (p : Plan) (w : World) (v : Served) (c : ℕ) → Serves p w v → 1 ≤ c → c ≤ length v.support.clients → HasNumber c
number_there p w v c h some known = (some, omega (arith, known, h.support.clients.count, few_clients p w v h))

-- Changes by which some become active

-- a change that leaves the submissions, and by which these become active
pub record IsRisen (p : Plan) (w u : World) (v : Served) (root : Option SurfaceId) (settling : SurfaceManager)
    (activated : List Sub) : Type 0 where
  pub serves : Serves p w v
  pub leaves : LeavesSubs w u
  pub rooted : root ≡ u.root
  pub settles : IsToSettle u None settling activated

rises : (p : Plan) (w u : World) (v : Served) (root : Option SurfaceId) (settling : SurfaceManager) (activated old : List Sub) → Serves p w v
    → LeavesSubs w u → KeepsAlways u → root ≡ u.root → AreLive u None settling.live → AreWaiting u settling.waiting
    → activated ≡ old ++ map sub_of (ready u) → old ≡ [] → IsRisen p w u v root settling activated
rises p w u v root settling activated old h leaves always of_root live waits told none =
    record {
      serves = h;
      leaves = leaves;
      rooted = of_root;
      settles = record {
        stands = record { always = always; live = live; waiting = waits };
        ready = appended activated activated old (map sub_of (ready u)) refl told none;
      };
    }

pub risen_follows : (p : Plan) (w u : World) (v : Served) (root : Option SurfaceId) (anew : Bool) (settling : SurfaceManager) (f : Following)
    → IsRisen p w u v root settling f.activated.list → (anew ≡ false → lost_in (naming u) ≡ []) → IsFollowed u root None anew settling f
risen_follows p w u v root anew settling f h unlost =
    is_followed p w u v root anew settling f h.serves h.leaves h.rooted h.settles unlost

-- such a change leaves as many surfaces, as much that is out, owed and referenced, and no more that is temporary
pub record LeavesFewer (old new : Live) : Type 0 where
  pub surfaces : existing_count new.store ≡ existing_count old.store
  pub lent : new.lent ≡ old.lent
  pub owed : new.owed ≡ old.owed
  pub sets : new.kept.sets ≡ old.kept.sets
  pub temporary : length new.kept.temporary ≤ length old.kept.temporary

-- there is room for what follows it
pub risen_room : (p : Plan) (w u : World) (v : Served) (root : Option SurfaceId) (settling : SurfaceManager) (activated : Roomy Sub)
    (f : Following)
    → IsRisen p w u v root settling activated.list → LeavesFewer v.settling.live settling.live → HasRoomAfter 0 v.settling f
    → length settling.waiting.blocked + f.activated.spare ≤ length v.settling.waiting.blocked + activated.spare
    → CanFollow None settling (record f { activated = activated })
risen_room p w u v root settling activated f h fewer room spare =
    let rise = as_many_rise w u v.settling settling activated.list (between p w v h.serves) h.leaves.subs h.settles in
    can_follow 0 (length activated.list) None v.settling settling f activated room
    (record {
      waiting = omega (arith, rise);
      surfaces = omega (arith, fewer.surfaces);
      out = omega (arith, ap resources_out fewer.lent);
      owed = omega (arith, ap (λ (o : OwedAndRoom). owed_count o.owed) fewer.owed);
      sets = omega (arith, ap length fewer.sets);
      temporary = omega (arith, fewer.temporary);
    }) (no_new settling) refl (omega (arith, rise, spare))

-- Roots

pub root_sent : (p : Plan) (w : World) (c : ℕ) (x : Client) (local : LocalSurfaceId) → IsSending p w c x (SetRoot local)
    → answer_to p w (event.Client c) ≡ root_answer w x local
unfolding message_answer
root_sent p w c x local h = sent_answer p w c x (SetRoot local) h

-- a root was named
pub record IsRooted (p : Plan) (w : World) (x : Client) (local : LocalSurfaceId) (v : Served) (root : Option SurfaceId) : Type 0 where
  pub serves : Serves p w v
  pub rooted : root ≡ (root_answer w x local).world.root

pub root_follows : (p : Plan) (w : World) (x : Client) (local : LocalSurfaceId) (v : Served) (root : Option SurfaceId) (f : Following)
    → IsRooted p w x local v root → f.activated.list ≡ [] → IsFollowed (root_answer w x local).world root None true v.settling f
root_follows p w x local v root f h none =
    let u = (root_answer w x local).world in
    let quiet : IsQuiet w u = quiet_rooted w x local in
    let leaves = quiet_leaves w u quiet in
    let old = h.serves.settling in
    let stands : AreSettling u None v.settling =
    record {
      always = always_root w x local h.serves.keeps.always;
      live = live_like w u None v.settling.live v.settling.live.lent quiet (lent_root w x local v.settling.live.lent old.live.lent) old.live;
      waiting = waits_like w u v.settling.waiting quiet old.waiting;
    } in
    is_followed p w u v root true v.settling f h.serves leaves h.rooted
    (record {
      stands = stands;
      ready = none
          ∙ none_rises w u v.settling v.settling (between p w v h.serves) leaves.subs (record { stands = stands; ready = refl }) refl;
    }) (always_asked u)

-- there is room for what follows, where nothing but the root changed
pub root_room : (v : SurfaceManager) (f : Following) → HasRoomAfter 0 v f → CanFollow None v f
root_room v f room =
    can_follow 0 0 None v v f f.activated room
    (record {
      waiting = omega arith;
      surfaces = omega arith;
      out = omega arith;
      owed = omega arith;
      sets = omega arith;
      temporary = omega arith;
    }) (no_new v) (ap length room.none_activated) (omega arith)

-- Clients that are closed

pub close_sent : (p : Plan) (w : World) (c : ℕ) (x : Client) → IsSending p w c x Close
    → answer_to p w (event.Client c) ≡ message_answer w x Close
close_sent p w c x h = sent_answer p w c x Close h

-- a client of a sink was closed, by all that its surfaces and what waits are told
pub closes : (p : Plan) (w : World) (c : ℕ) (x : Client) (v : Served) (sink : FrameSinkId) (support : Supported) (root : Option SurfaceId)
    (settling : SurfaceManager) (activated old : List Sub) → Serves p w v → Sends p w c x Close
    → ((q : Plan) (z : World) (y : Client) → IsSupport q z v.support → client_at z c ≡ Some y → sink ≡ y.sink)
    → ((q : Plan) (z : World) (y : Client) → Sends q z c y Close → IsSupport q z v.support
    → IsSupport q (message_answer z y Close).world support)
    → ((q : Plan) (z : World) → IsSupport q z support → root ≡ z.root)
    → ((z : World) (y : Client) → KeepsAlways z → AreLive z None v.settling.live → Contains z.clients y → y.number ≡ c → y.sink ≡ sink
    → AreLive (message_answer z y Close).world None settling.live)
    → ((z : World) (y : Client) → KeepsAlways z → Contains z.clients y → ready z ≡ [] → AreWaiting z v.settling.waiting → sink ≡ y.sink
    → AreWaiting (message_answer z y Close).world settling.waiting)
    → ((z : World) (y : Client) → KeepsAlways z → Contains z.clients y → ready z ≡ [] → AreWaiting z v.settling.waiting → sink ≡ y.sink
    → activated ≡ old ++ map sub_of (ready (message_answer z y Close).world))
    → old ≡ [] → IsRisen p w (message_answer w x Close).world v root settling activated
closes p w c x v sink support root settling activated old h sends of kept rooted live waits told none =
    let u = (message_answer w x Close).world in
    let known = client_here w c x sends.here in
    let same = of p w x h.support sends.here in
    rises p w u v root settling activated old h (close_leaves w x) (always_close w x h.keeps.always)
    (rooted p u (kept p w x sends h.support))
    (live w x h.keeps.always h.settling.live known (number_at w c x sends.here) (sym same))
    (waits w x h.keeps.always known h.keeps.none_ready h.settling.waiting same)
    (told w x h.keeps.always known h.keeps.none_ready h.settling.waiting same) none

pub close_reply : (w : World) (x : Client) → (message_answer w x Close).reply ≡ reply.Left
unfolding message_answer
close_reply w x = refl

-- Begin-frames

pub begin_sent : (p : Plan) (w : World) → answer_to p w event.Begin ≡ begin_answer p w
unfolding answer_to
begin_sent p w = refl

same_tick : (a b : ℕ) → reply.Ticked a ≡ reply.Ticked b → a ≡ b
same_tick a b e = cc

-- the tick that is answered
pub ticked : (p : Plan) (w : World) (tick : ℕ) → (begin_answer p w).reply ≡ reply.Ticked tick → tick ≡ next_tick w.tick
unfolding begin_answer
ticked p w tick e = sym (same_tick (next_tick w.tick) tick e)

-- a tick began, by all that the surfaces and what waits are told
pub begins : (p : Plan) (w : World) (v : Served) (tick : ℕ) (support : Supported) (root : Option SurfaceId) (settling : SurfaceManager)
    (activated old : List Sub) → Serves p w v
    → ((q : Plan) (z : World) → IsSupport q z v.support → (begin_answer q z).reply ≡ reply.Ticked tick)
    → ((q : Plan) (z : World) → IsSupport q z v.support → IsSupport q (begin_answer q z).world support)
    → ((q : Plan) (z : World) → IsSupport q z support → root ≡ z.root)
    → ((q : Plan) (z : World) (but : Option SurfaceId) → KeepsAlways z → AreLive z but v.settling.live → tick ≡ next_tick z.tick
    → AreLive (begin_answer q z).world but settling.live)
    → ((z : World) (q : Plan) → KeepsAlways z → ready z ≡ [] → AreWaiting z v.settling.waiting → tick ≡ next_tick z.tick
    → AreWaiting (begin_answer q z).world settling.waiting)
    → ((z : World) (q : Plan) → KeepsAlways z → ready z ≡ [] → AreWaiting z v.settling.waiting → tick ≡ next_tick z.tick
    → activated ≡ old ++ map sub_of (ready (begin_answer q z).world))
    → old ≡ [] → IsRisen p w (begin_answer p w).world v root settling activated
begins p w v tick support root settling activated old h replies kept rooted live waits told none =
    let u = (begin_answer p w).world in
    let next = ticked p w tick (replies p w h.support) in
    rises p w u v root settling activated old h (begin_leaves p w) (always_begun p w h.keeps.always) (rooted p u (kept p w h.support))
    (live p w None h.keeps.always h.settling.live next)
    (waits w p h.keeps.always h.keeps.none_ready h.settling.waiting next)
    (told w p h.keeps.always h.keeps.none_ready h.settling.waiting next) none

-- by deadlines as much room is told of as by what is lacked
pub ticked_room : (w u : World) (old new : Waits) (before after : ℕ) → AreWaiting w old → AreWaiting u new
    → length new.due + before ≡ length old.due + after → length new.blocked + before ≤ length old.blocked + after
ticked_room w u old new before after h k e = omega (arith, as_many w old h, as_many u new k, e)

-- Changes of the machine's state that leave its submissions, surfaces, tick, drawn frame and last aggregation, and close no client.
use Rattle.std.proofs.Common.{◌≡◌, ℕ, ◌==◌, ◌&&◌, Bool, true, false, Option, Some, None, List, is_some, map, refl, ap, sym, ◌∙◌, cond, arith}
use Rattle.std.specs.List.{list_any}
use Rattle.std.proofs.{lemmas.List.map-id, lemmas.Bool.Decides.nat_tests}
use Rattle.vz_geom.specs.Rectangle.{is_empty_rect}
use Rattle.vz_ids.specs.{declared.Sub.Sub, declared.FrameSinkId.FrameSinkId, declared.LocalSurfaceId.LocalSurfaceId}
use Rattle.vz_pixels.specs.Block.{Block}
use Rattle.vz_rules.specs.{Plan.Plan, World.World, World.Client, World.Scene, World.Aggregation, Scene.scene_of, Reach.has_closed, declared.entry.Refusal.Refusal}
use Rattle.vz_rules.specs.declared.entry.Reply.TheVariants as reply
use Rattle.vz_rules.specs.Messages.{Answer, says, took, taking, refused, answer_tick, submitting, reclaim, unless_refused, in_use, upload_answer, hierarchy_answer, hierarchy_refusal, root_answer, await_answer}
use Rattle.vz_frame.specs.declared.frame.CompositorFrame.{CompositorFrame}
use Rattle.vz_rules.specs.{Returns.give_back, Returns.queue_returns, Step.deliver, Step.draw_answer, Step.scene_answer, Step.accepted_frames}
use Rattle.vz_rules.specs.{Walk.walk_of, Walk.too_much, Damage.drawn_damage}
use Rattle.vz_rules.proofs.Members.{any_map, when_same}

-- a change of clients that closes none
pub record ClosesNone (k : Client → Client) : Type 0 where
  pub number : (x : Client) → (k x).number ≡ x.number
  pub closed : (x : Client) → (k x).closed ≡ x.closed
  pub sink : (x : Client) → (k x).sink ≡ x.sink

pub closes_when : (f : Client → Client) (t : Client → Bool) → ClosesNone f → ClosesNone (λ x. cond (t x) (f x) x)
closes_when f t h =
    record {
      number = λ x. when_same (λ (y : Client). y.number) f (t x) x (h.number x);
      closed = λ x. when_same (λ (y : Client). y.closed) f (t x) x (h.closed x);
      sink = λ x. when_same (λ (y : Client). y.sink) f (t x) x (h.sink x);
    }

-- a client that takes a message
pub closes_taken : (f : Client → Client) (n : ℕ) → ClosesNone f → ClosesNone (λ x. cond (x.number == n) (took (f x)) x)
closes_taken f n h =
    closes_when (λ x. took (f x)) (λ x. x.number == n) (record { number = h.number; closed = h.closed; sink = h.sink })

pub closes_plain : ClosesNone (λ x. x)
closes_plain = record { number = λ x. refl; closed = λ x. refl; sink = λ x. refl }

pub same_closed : (k : Client → Client) (w v : World) → v.clients ≡ map k w.clients → ClosesNone k → (c : ℕ) → has_closed v c ≡ has_closed w c
same_closed k w v e h c =
    ap (list_any (λ (x : Client). (x.number == c) && x.closed)) e
    ∙ any_map k (λ (x : Client). (x.number == c) && x.closed) (λ (x : Client). (x.number == c) && x.closed) w.clients
    (λ x. ap (λ n. (n == c) && (k x).closed) (h.number x) ∙ ap (λ t. (x.number == c) && t) (h.closed x))

-- the parts of the state that such a change leaves
pub record IsQuiet (w v : World) : Type 0 where
  pub subs : v.subs ≡ w.subs
  pub surfaces : v.surfaces ≡ w.surfaces
  pub tick : v.tick ≡ w.tick
  pub in_flight : v.in_flight ≡ w.in_flight
  pub last : v.last ≡ w.last
  pub change : Client → Client
  pub clients : v.clients ≡ map change w.clients
  pub closes : ClosesNone change

-- What each change leaves

pub quiet_taken : (f : Client → Client) (c : Client) (w : World) → ClosesNone f → IsQuiet w (taking f c w)
quiet_taken f c w h =
    record {
      subs = refl;
      surfaces = refl;
      tick = refl;
      in_flight = refl;
      last = refl;
      change = λ x. cond (x.number == c.number) (took (f x)) x;
      clients = refl;
      closes = closes_taken f c.number h;
    }

quiet_plain : (c : Client) (w : World) → IsQuiet w (taking (λ x. x) c w)
quiet_plain c w = quiet_taken (λ x. x) c w closes_plain

-- where clients stay too
quiet_same : (w v u : World) → IsQuiet w v → u.subs ≡ v.subs → u.surfaces ≡ v.surfaces → u.tick ≡ v.tick → u.in_flight ≡ v.in_flight → u.last ≡ v.last
    → u.clients ≡ v.clients → IsQuiet w u
quiet_same w v u q subs surfaces tick flight last clients =
    record {
      subs = subs ∙ q.subs;
      surfaces = surfaces ∙ q.surfaces;
      tick = tick ∙ q.tick;
      in_flight = flight ∙ q.in_flight;
      last = last ∙ q.last;
      change = q.change;
      clients = clients ∙ q.clients;
      closes = q.closes;
    }

pub quiet_none : (w : World) → IsQuiet w w
quiet_none w =
    record {
      subs = refl;
      surfaces = refl;
      tick = refl;
      in_flight = refl;
      last = refl;
      change = λ x. x;
      clients = sym (map-id w.clients);
      closes = closes_plain;
    }

one_of : (P : World → Type 0) (t : Bool) (a b : Answer) → P a.world → P b.world → P (cond t a b).world
one_of P true a b h k = h
one_of P false a b h k = k

refused_or : (w : World) (c : Client) (o : Option Refusal) (a : Answer) → IsQuiet w a.world → IsQuiet w (unless_refused w c o a).world
refused_or w c None a k = k
refused_or w c (Some r) a k = quiet_plain c w

begun_by : (w : World) (o : Option ℕ) (f : ℕ → Answer) (b : Answer) → ((n : ℕ) → IsQuiet w (f n).world) → IsQuiet w b.world
    → IsQuiet w (elim o as (λ o. Answer) [ Some n ↦ f n | None ↦ b ]).world
begun_by w None f b h k = k
begun_by w (Some n) f b h k = h n

pub quiet_refused : (w : World) (c : Client) (r : Refusal) → IsQuiet w (refused w c r).world
quiet_refused w c r = quiet_plain c w

pub quiet_uploaded : (w : World) (c : Client) (id : ℕ) (block : Block) → IsQuiet w (upload_answer w c id block).world
unfolding upload_answer
quiet_uploaded w c id block =
    one_of (IsQuiet w) (in_use c.resources id) _ _ (quiet_plain c w)
    (quiet_taken _ c w (record { number = λ x. refl; closed = λ x. refl; sink = λ x. refl }))

pub quiet_noted : (w : World) (c : Client) (n : ℕ) → IsQuiet w (taking (answer_tick w.tick n) c w)
quiet_noted w c n =
    quiet_taken _ c w (closes_when (λ (x : Client). record x { answered = w.tick }) (λ x. n == w.tick)
    (record { number = λ x. refl; closed = λ x. refl; sink = λ x. refl }))

pub quiet_reclaimed : (w : World) (c : Client) → IsQuiet w (taking reclaim c w)
quiet_reclaimed w c = quiet_taken reclaim c w (record { number = λ x. refl; closed = λ x. refl; sink = λ x. refl })

pub quiet_related : (w : World) (c : Client) (parent child : FrameSinkId) → IsQuiet w (hierarchy_answer w c parent child).world
unfolding hierarchy_answer
quiet_related w c parent child =
    refused_or w c (hierarchy_refusal w c parent child) _ (quiet_same w _ _ (quiet_plain c w) refl refl refl refl refl refl)

pub quiet_rooted : (w : World) (c : Client) (local : LocalSurfaceId) → IsQuiet w (root_answer w c local).world
unfolding root_answer
quiet_rooted w c local =
    one_of (IsQuiet w) (c.number == 1) _ _ (quiet_same w _ _ (quiet_plain c w) refl refl refl refl refl refl) (quiet_plain c w)

pub quiet_awaited : (w : World) (c : Client) → IsQuiet w (await_answer w c).world
unfolding await_answer
quiet_awaited w c =
    begun_by w c.delivered _ _ (λ n. quiet_taken _ c w (record { number = λ x. refl; closed = λ x. refl; sink = λ x. refl }))
    (one_of (IsQuiet w) w.over _ _ (quiet_plain c w) (quiet_none w))

pub quiet_over : (w : World) → IsQuiet w (record w { over = true })
quiet_over w = quiet_same w w _ (quiet_none w) refl refl refl refl refl refl

pub quiet_given : (w : World) → IsQuiet w (give_back w)
unfolding give_back
quiet_given w =
    record {
      subs = refl;
      surfaces = refl;
      tick = refl;
      in_flight = refl;
      last = refl;
      change = queue_returns w;
      clients = refl;
      closes = record { number = λ x. refl; closed = λ x. refl; sink = λ x. refl };
    }

-- Other changes that close none

pub closes_submitting : (w : World) (frame : CompositorFrame) (n : ℕ) → ClosesNone (λ x. cond (x.number == n) (took (submitting w frame x)) x)
closes_submitting w frame n = grind (arith, nat_tests, closes_taken (submitting w frame) n, when_same)

pub closes_delivering : (p : Plan) (w : World) (n : ℕ) → ClosesNone (deliver p w n)
closes_delivering p w n = grind (arith, nat_tests, when_same)

-- a drawing changes at most the last aggregation and what is in flight
pub drawn_as : (P : World → Type 0) (p : Plan) (w : World)
    → ((last : Option Aggregation) (flight : Option (List Sub)) → P (record w { last = last; in_flight = flight }))
    → P (draw_answer p w).world
unfolding draw_answer scene_answer
drawn_as P p w h = one_of P (is_some w.in_flight) _ _ (h w.last w.in_flight) (seen (scene_of w))
  where
    seen : (o : Option Scene) → P (elim o as (λ o. Answer) [ Some s ↦ scene_answer p w s | None ↦ says reply.NoRoot w ]).world
    seen None = h w.last w.in_flight
    seen (Some s) =
        one_of P (too_much (walk_of p.size s)) _ _ (h w.last w.in_flight)
        (one_of P (is_some w.last && is_empty_rect (drawn_damage p.size w.last (accepted_frames w) s.root (walk_of p.size s))) _ _
        (h _ w.in_flight) (h _ _))

-- The messages and events after which nothing follows.
use Rattle.std.proofs.Common.{◌≡◌, ℕ, Bool, true, false, ◌==◌, ◌⊎◌, inl, inr, Option, Some, None, List, map-id, refl, ap, sym, ◌∙◌, cond, Contains}
use Rattle.std.specs.Prelude.{is_some}
use Rattle.vz_pixels.specs.Block.{Block}
use Rattle.vz_ids.specs.declared.FrameSinkId.{FrameSinkId}
use Rattle.vz_ids.specs.declared.Sub.{Sub}
use Rattle.vz_rules.specs.declared.entry.Event.TheVariants as event
use Rattle.vz_rules.specs.declared.entry.Reply.TheVariants as reply
use Rattle.vz_rules.specs.declared.entry.Refusal.{Refusal}
use Rattle.vz_rules.specs.declared.entry.Refusal.TheVariants as refusal
use Rattle.vz_rules.specs.Plan.{Plan}
use Rattle.vz_rules.specs.World.{World, Client, Resource, Aggregation, is_in_flight}
use Rattle.vz_rules.specs.Messages.{Answer, says, took, taking, refused, unless_refused, upload_answer, answer_tick, reclaim, hierarchy_refusal, relate, hierarchy_answer, await_answer}
use Rattle.vz_rules.specs.Step.{draw_answer, answer_to}
use Rattle.vz_rules.specs.Kept.{KeepsAlways, Keeps}
use Rattle.vz_rules.proofs.Members.{contains_map}
use Rattle.vz_rules.proofs.Kept_returns.{put_at, storing}
use Rattle.vz_rules.proofs.Kept_steps.{always_seen}
use Rattle.vz_rules.proofs.Kept_worlds.{always_besides}
use Rattle.vz_rules.proofs.Kept_messages.{always_refused, always_stored, always_begun, always_noted, always_reclaimed}
use Rattle.vz_rules.proofs.Kept_idle.{IsIdle, keeps_idle}
use Rattle.vz_rules.proofs.Cases.{drawing_cases}
use Rattle.std.proofs.lemmas.Bool.{cond_both}

-- what counts of a client stays, and what is new in its resources is not out
record IdlesClient (c d : Client) : Type 0 where
  number : d.number ≡ c.number
  sink : d.sink ≡ c.sink
  closed : d.closed ≡ c.closed

abbrev NothingOut : Client → Client → Type 0
NothingOut c d = (s : Resource) → Contains d.resources s → (s.queued ≡ s.lent) ⊎ ((r : Resource) × Contains c.resources r × (r.id ≡ s.id) × (r.queued ≡ r.lent → s.queued ≡ s.lent))

out_itself : (c : Client) → NothingOut c c
out_itself c s p = inr (s, p, refl, λ e. e)

idles_by : (t : Bool) (c d : Client) → IdlesClient c d → IdlesClient c (cond t (took d) c)
idles_by true c d h = record { number = h.number; sink = h.sink; closed = h.closed }
idles_by false c d h = record { number = refl; sink = refl; closed = refl }

idle_taking : (w : World) (c : Client) (f : Client → Client) → ((x : Client) → IdlesClient x (f x)) → ((x : Client) → Contains w.clients x → NothingOut x (f x))
    → IsIdle w (taking f c w) (λ x. cond (x.number == c.number) (took (f x)) x)
idle_taking w c f same out =
    record {
      subs = refl;
      surfaces = refl;
      tick = refl;
      root = refl;
      clients = refl;
      number = λ x. (idles_by (x.number == c.number) x (f x) (same x)).number;
      sink = λ x. (idles_by (x.number == c.number) x (f x) (same x)).sink;
      closed = λ x. (idles_by (x.number == c.number) x (f x) (same x)).closed;
      flies = λ sub e. e;
      totals = λ x s p q. cond_both (x.number == c.number) (took (f x)) x (NothingOut x) (λ e. (out x p)) (λ e. out_itself x) s q;
    }

keeps_taking : (w : World) (c : Client) (f : Client → Client) → ((x : Client) → IdlesClient x (f x))
    → ((x : Client) → Contains w.clients x → NothingOut x (f x))
    → KeepsAlways (taking f c w) → Keeps w → Keeps (taking f c w)
keeps_taking w c f same out always h = keeps_idle w (taking f c w) _ (idle_taking w c f same out) always h

idles : (c : Client) → IdlesClient c c
idles c = record { number = refl; sink = refl; closed = refl }

-- what nothing depends on
keeps_besides : (w : World) (last : Option Aggregation) (over : Bool) (relations : List (FrameSinkId × FrameSinkId)) (drawn : Option (List Sub))
    → ((sub : Sub) → is_in_flight w.in_flight sub ≡ true → is_in_flight drawn sub ≡ true) → KeepsAlways (record w { last = last; over = over; relations = relations; in_flight = drawn }) → Keeps w
    → Keeps (record w { last = last; over = over; relations = relations; in_flight = drawn })
keeps_besides w last over relations drawn flies always h =
    keeps_idle w (record w { last = last; over = over; relations = relations; in_flight = drawn }) (λ c. c) (record {
      subs = refl;
      surfaces = refl;
      tick = refl;
      root = refl;
      clients = sym (map-id w.clients);
      number = λ c. refl;
      sink = λ c. refl;
      closed = λ c. refl;
      flies = flies;
      totals = λ c s p q. out_itself c s q;
    }) always h

-- Messages

pub keeps_refused : (w : World) (c : Client) (r : Refusal) → Keeps w → Keeps (refused w c r).world
keeps_refused w c r h = keeps_taking w c (λ x. x) idles (λ x p. out_itself x) (always_refused w c r h.always) h

pub keeps_upload : (w : World) (c : Client) (id : ℕ) (block : Block) → Keeps w → Keeps (upload_answer w c id block).world
unfolding upload_answer
keeps_upload w c id block h =
    cond_both _ _ _ (λ (a : Answer). Keeps a.world) (λ e. keeps_refused w c refusal.InUse h)
    (λ e. keeps_taking w c (storing id block) (λ x. record { number = refl; sink = refl; closed = refl })
    (λ x p s q. elim (put_at id block x.resources s (h.always.shelves x p).rising q) [
      | inl r ↦ inr (r.0, r.1, sym r.2.id, λ e. r.2.queued ∙ (e ∙ sym r.2.lent))
      | inr r ↦ inl (ap (λ (y : Resource). y.queued) r.0 ∙ ap (λ (y : Resource). y.lent) (sym r.0))
    ])
    (always_stored w c id block h.always) h)

noted_by : (t : Bool) (now : ℕ) (c : Client) → IdlesClient c (cond t (record c { answered = now }) c)
noted_by true now c = record { number = refl; sink = refl; closed = refl }
noted_by false now c = idles c

pub keeps_noted : (w : World) (c : Client) (n : ℕ) → Keeps w → Keeps (taking (answer_tick w.tick n) c w)
keeps_noted w c n h =
    keeps_taking w c (answer_tick w.tick n) (λ x. noted_by (n == w.tick) w.tick x) (λ x p. cond_both (n == w.tick) _ x (NothingOut x) (λ e. out_itself x) (λ e. out_itself x)) (always_noted w c n h.always) h

pub keeps_reclaimed : (w : World) (c : Client) → Keeps w → Keeps (taking reclaim c w)
keeps_reclaimed w c h =
    keeps_taking w c reclaim (λ x. record { number = refl; sink = refl; closed = refl })
    (λ x p s q.
    let m = contains_map (λ (r : Resource). record r { reclaimed = r.queued }) x.resources s q in
    inr (m.0, m.1, ap (λ (y : Resource). y.id) m.2, λ e. ap (λ (y : Resource). y.queued) (sym m.2) ∙ (e ∙ ap (λ (y : Resource). y.lent) m.2)))
    (always_reclaimed w c h.always) h

unless_by : (w : World) (c : Client) (r : Option Refusal) (a : Answer) → Keeps w → Keeps a.world → Keeps (unless_refused w c r a).world
unless_by w c None a h k = k
unless_by w c (Some r) a h k = keeps_refused w c r h

pub keeps_related : (w : World) (c : Client) (parent child : FrameSinkId) → Keeps w → Keeps (hierarchy_answer w c parent child).world
unfolding hierarchy_answer
keeps_related w c parent child h =
    let v = taking (λ x. x) c w in
    let k = keeps_refused w c refusal.NotRoot h in
    unless_by w c (hierarchy_refusal w c parent child) (says reply.Joined (record v { relations = relate parent child w.relations })) h
    (keeps_besides v v.last v.over (relate parent child w.relations) v.in_flight (λ sub e. e) (always_besides v v.last v.over v.root (relate parent child w.relations) k.always) k)

awaits_by : (w : World) (c : Client) (d : Option ℕ) (over : Bool) → Keeps w
    → KeepsAlways (taking (λ (x : Client). record x { delivered = None }) c w)
    → Keeps (elim d as (λ d. Answer) [
      | Some n ↦ says (reply.Began n) (taking (λ (x : Client). record x { delivered = None }) c w)
      | None ↦ cond over (says reply.Over (taking (λ x. x) c w)) (says (reply.Refused refusal.NotYet) w)
    ]).world
awaits_by w c None true h always = keeps_refused w c refusal.NotRoot h
awaits_by w c None false h always = h
awaits_by w c (Some n) over h always =
    keeps_taking w c (λ (x : Client). record x { delivered = None }) (λ x. record { number = refl; sink = refl; closed = refl }) (λ x p. out_itself x) always h

pub keeps_await : (w : World) (c : Client) → Keeps w → Keeps (await_answer w c).world
unfolding await_answer
keeps_await w c h = awaits_by w c c.delivered w.over h (always_begun w c h.always)

-- Events

pub keeps_over : (p : Plan) (w : World) → Keeps w → Keeps (answer_to p w event.Over).world
unfolding answer_to
keeps_over p w h = keeps_besides w w.last true w.relations w.in_flight (λ sub e. e) (always_besides w w.last true w.root w.relations h.always) h

none_flies : (drawn : Option (List Sub)) (sub : Sub) → is_some drawn ≡ false → is_in_flight drawn sub ≡ true → ⊥
none_flies None sub e h = absurd (cc)
none_flies (Some subs) sub e h = absurd (cc)

pub keeps_draw : (p : Plan) (w : World) → Keeps w → Keeps (draw_answer p w).world
keeps_draw p w h =
    drawing_cases p w (λ a. Keeps a.world) h h (λ scene idle e.
    let always = always_seen p w scene e h.always in
    record {
      much = h;
      unchanged = λ some none. keeps_besides w _ w.over w.relations w.in_flight (λ sub flies. flies) (always.unchanged some none) h;
      drawn = λ full. keeps_besides w _ w.over w.relations _ (λ sub flies. absurd (none_flies w.in_flight sub idle flies)) (always.drawn full) h;
    })

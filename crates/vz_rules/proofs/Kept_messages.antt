-- What a world keeps all the time, through a client's message that is not accepted as a submission.
use Rattle.std.proofs.Common.{◌≡◌, ℕ, Bool, true, false, ◌==◌, inr, Some, None, map, map-id, refl, ap, sym, ◌∙◌, arith, cond, subst, Contains, le_refl}
use Rattle.std.proofs.lemmas.Bool.{eqb-true, eq-eqb, both_ways, cond_both}
use Rattle.vz_ids.specs.declared.LocalSurfaceId.{LocalSurfaceId}
use Rattle.vz_pixels.specs.Block.{Block}
use Rattle.vz_rules.specs.declared.entry.Refusal.{Refusal}
use Rattle.vz_rules.specs.declared.entry.Refusal.TheVariants as refusal
use Rattle.vz_rules.specs.World.{World, Client, Surface}
use Rattle.vz_rules.specs.Returns.{holds}
use Rattle.vz_rules.specs.Messages.{Answer, took, taking, refused, answer_tick, reclaim, root_answer, mark_of}
use Rattle.vz_rules.specs.Kept.{KeepsAlways, KeepsShelf}
use Rattle.vz_rules.proofs.Members.{contains_map}
use Rattle.vz_rules.proofs.Kept_names.{KeepsSurface, surface_when}
use Rattle.vz_rules.proofs.Kept_states.{states_keep}
use Rattle.vz_rules.proofs.Kept_shelves.{KeepsStock, shelf_of_client}
use Rattle.vz_rules.proofs.Kept_returns.{storing, shelf_stored, shelf_reclaimed}
use Rattle.vz_rules.proofs.Kept_last.{last_at}
use Rattle.vz_rules.proofs.Kept_stays.{IsSafe}
use Rattle.vz_rules.proofs.Kept_accepted.{IsTimely, flight_keeps}
use Rattle.vz_rules.proofs.Kept_worlds.{always_besides, always_clients, always_parts, StaysClient, stands_map, holds_from}
use Rattle.vz_rules.proofs.Kept_follows.{nothing_opens, marked_marks}
use Rattle.vz_rules.proofs.Facts.{same_when}

-- the world of an answer keeps it
abbrev pub Always : Answer → Type 0
Always a = KeepsAlways a.world

-- A client that took a message

stays : (now : ℕ) (c : Client) → StaysClient now now c c
stays now c = record { number = refl; sink = refl; closed = λ e. e; timely = λ t. t }

-- where one client changes and takes its message
pub always_taking : (f : Client → Client) (c : Client) (w : World) → ((x : Client) → StaysClient w.tick w.tick x (took (f x)))
    → ((x : Client) → Contains w.clients x → KeepsShelf (holds w) w.subs x → KeepsShelf (holds w) w.subs (took (f x))) → KeepsAlways w
    → KeepsAlways (taking f c w)
always_taking f c w same shelf h =
    always_clients w (λ x. cond (x.number == c.number) (took (f x)) x) w.tick (le_refl w.tick) h.time.tick
    (λ x. cond_both (x.number == c.number) (took (f x)) x (StaysClient w.tick w.tick x) (λ e. (same x)) (λ e. stays w.tick x))
    (λ x p k. cond_both (x.number == c.number) (took (f x)) x (KeepsShelf (holds w) w.subs) (λ e. shelf x p k) (λ e. k)) h

took_stays : (now : ℕ) (c d : Client) → d.number ≡ c.number → d.sink ≡ c.sink → (d.closed ≡ false → c.closed ≡ false) → (IsTimely now c → IsTimely now d)
    → StaysClient now now c (took d)
took_stays now c d number sink closed timely =
    record { number = number; sink = sink; closed = closed; timely = λ t. let u = timely t in record { delivered = u.delivered; answered = u.answered } }

took_stock : (c d : Client) → KeepsStock c d → KeepsStock c (took d)
took_stock c d h = record { number = h.number; resources = h.resources; queue = h.queue; taken = omega (arith, h.taken) }

own_stock : (c : Client) → KeepsStock c c
own_stock c = record { number = refl; resources = refl; queue = refl; taken = omega arith }

pub always_refused : (w : World) (c : Client) (r : Refusal) → KeepsAlways w → Always (refused w c r)
always_refused w c r h =
    always_taking (λ x. x) c w (λ x. took_stays w.tick x x refl refl (λ e. e) (λ t. t)) (λ x p k. shelf_of_client (holds w) w.subs x (took x) (took_stock x x (own_stock x)) k) h

-- The messages

pub always_stored : (w : World) (c : Client) (id : ℕ) (block : Block) → KeepsAlways w → KeepsAlways (taking (storing id block) c w)
always_stored w c id block h =
    always_taking (storing id block) c w (λ x. took_stays w.tick x (storing id block x) refl refl (λ e. e) (λ t. record { delivered = t.delivered; answered = t.answered }))
    (λ x p k. shelf_stored (holds w) w.subs x id block k) h

answered_stays : (t : Bool) (now : ℕ) (c : Client) → StaysClient now now c (took (cond t (record c { answered = now }) c))
answered_stays true now c = took_stays now c (record c { answered = now }) refl refl (λ e. e) (λ t. record { delivered = t.delivered; answered = le_refl now })
answered_stays false now c = took_stays now c c refl refl (λ e. e) (λ t. t)

answered_stock : (t : Bool) (now : ℕ) (c : Client) → KeepsStock c (took (cond t (record c { answered = now }) c))
answered_stock true now c = took_stock c (record c { answered = now }) (record { number = refl; resources = refl; queue = refl; taken = omega arith })
answered_stock false now c = took_stock c c (own_stock c)

pub always_noted : (w : World) (c : Client) (n : ℕ) → KeepsAlways w → KeepsAlways (taking (answer_tick w.tick n) c w)
always_noted w c n h =
    always_taking (answer_tick w.tick n) c w (λ x. answered_stays (n == w.tick) w.tick x)
    (λ x p k. shelf_of_client (holds w) w.subs x (took (answer_tick w.tick n x)) (answered_stock (n == w.tick) w.tick x) k) h

pub always_reclaimed : (w : World) (c : Client) → KeepsAlways w → KeepsAlways (taking reclaim c w)
always_reclaimed w c h =
    always_taking reclaim c w (λ x. took_stays w.tick x (reclaim x) refl refl (λ e. e) (λ t. record { delivered = t.delivered; answered = t.answered }))
    (λ x p k. shelf_reclaimed (holds w) w.subs x k) h

pub always_took : (w : World) (c : Client) → KeepsAlways w → KeepsAlways (taking (λ x. x) c w)
always_took w c h = always_refused w c refusal.NotRoot h

pub always_root : (w : World) (c : Client) (local : LocalSurfaceId) → KeepsAlways w → Always (root_answer w c local)
unfolding root_answer
always_root w c local h =
    cond_both _ _ _ Always (λ e. let v = taking (λ x. x) c w in always_besides v v.last v.over (Some (record { sink = c.sink; local = local })) v.relations (always_took w c h))
    (λ e. always_refused w c refusal.NotRoot h)

taken_stays : (now : ℕ) (c : Client) → StaysClient now now c (took (record c { delivered = None }))
taken_stays now c = took_stays now c (record c { delivered = None }) refl refl (λ e. e) (λ t. record { delivered = λ n e. absurd (cc); answered = t.answered })

pub always_begun : (w : World) (c : Client) → KeepsAlways w → KeepsAlways (taking (λ (x : Client). record x { delivered = None }) c w)
always_begun w c h =
    always_taking (λ (x : Client). record x { delivered = None }) c w (λ x. taken_stays w.tick x)
    (λ x p k. shelf_of_client (holds w) w.subs x (took (record x { delivered = None })) (took_stock x (record x { delivered = None }) (record { number = refl; resources = refl; queue = refl; taken = omega arith })) k) h

-- Closing

abbrev pub leaving : Client → Client
leaving x = record x { closed = true }

marked_names : (c : ℕ) → KeepsSurface (mark_of c)
marked_names c = surface_when (λ s. record s { marked = true }) (λ s. s.client == c) (record { client = λ s. refl; number = λ s. refl; id = λ s. refl; born = λ s. refl })

mark_safe : (t : Bool) (s : Surface) → (t ≡ true → ⊥) → IsSafe s → IsSafe (cond t (record s { marked = true }) s)
mark_safe true s no_mark h = absurd (no_mark refl)
mark_safe false s no_mark h = h

-- a client that is not closed afterwards is another one
left_closed : (n : ℕ) (x : Client) → (cond (x.number == n) (took (leaving x)) x).closed ≡ false → (cond (x.number == n) (took (leaving x)) x).number ≡ n → ⊥
left_closed n x = by (x.number == n) refl
  where
    by : (t : Bool) → (x.number == n) ≡ t → (cond t (took (leaving x)) x).closed ≡ false → (cond t (took (leaving x)) x).number ≡ n → ⊥
    by true e h k = absurd (cc)
    by false e h k = both_ways (x.number == n) e (eq-eqb x.number n k)

pub always_closed : (w : World) (c : Client) → KeepsAlways w → KeepsAlways (record (taking leaving c w) { surfaces = map (mark_of c.number) w.surfaces })
always_closed w c h =
    let v = taking leaving c w in
    let first : KeepsAlways v =
    always_taking leaving c w (λ x. took_stays w.tick x (leaving x) refl refl (λ e. absurd (cc)) (λ t. record { delivered = t.delivered; answered = t.answered }))
    (λ x p k. shelf_of_client (holds w) w.subs x (took (leaving x)) (took_stock x (leaving x) (record { number = refl; resources = refl; queue = refl; taken = omega arith })) k) h in
    let names = marked_names c.number in
    subst (λ l. KeepsAlways (record v { subs = l; surfaces = map (mark_of c.number) w.surfaces })) (map-id w.subs)
    (always_parts v (λ s. s) (mark_of c.number) w.in_flight (record {
      submitted = λ s. refl;
      surface = names;
      marks = λ s p. marked_marks (s.client == c.number) s;
      safe = λ x s p o e. mark_safe (s.client == c.number) s (λ t.
          let m = contains_map (λ (y : Client). cond (y.number == c.number) (took (leaving y)) y) w.clients x p in
          let at = last_at (λ (y : Surface). y.client == x.number) w.surfaces s e in
          let number : x.number ≡ c.number = sym (eqb-true s.client x.number at.1.1) ∙ eqb-true s.client c.number t in
          left_closed c.number m.0 (ap (λ (y : Client). y.closed) m.2 ∙ o) (ap (λ (y : Client). y.number) m.2 ∙ number));
      states = states_keep (λ s. s) w.surfaces (map (mark_of c.number) w.surfaces) w.subs nothing_opens
          (λ s p o. stands_map (mark_of c.number) w.surfaces s.submitted.id names (λ y. same_when (λ (x : Surface). x.destroyed) (y.client == c.number) _ y refl)) first.states;
      flight = flight_keeps (λ s. s) w.in_flight w.subs (λ s. refl) first.in_flight;
      opens = λ s p e. e;
      draws = λ s p e. holds_from v s first.states p (inr e);
    }) first)

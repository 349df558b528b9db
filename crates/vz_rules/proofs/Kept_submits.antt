-- What a world keeps all the time, where a submission is accepted.
use Rattle.std.proofs.Common.{◌≡◌, ℕ, ◌+◌, ◌≤◌, Bool, true, false, ◌&&◌, ◌==◌, inl, inr, Option, Some, None, List, [], ◌∷◌, ◌++◌, map, map-id, refl, ap, sym, ◌∙◌, arith, cond, subst, Contains, count_by, le_refl}
use Rattle.std.specs.List.{list_any}
use Rattle.std.proofs.lemmas.Bool.{and_parts, and_from, eqb-true, eq-eqb, ne_eqb, both_ways, not-false}
use Rattle.vz_ids.specs.declared.LocalSurfaceId.{LocalSurfaceId}
use Rattle.vz_ids.specs.declared.SurfaceId.{SurfaceId}
use Rattle.vz_ids.specs.Ids.{same_sink, same_local, same_surface, is_raised}
use Rattle.vz_frame.specs.declared.frame.CompositorFrame.{CompositorFrame}
use Rattle.vz_frame.specs.declared.frame.Listing.{Listing}
use Rattle.vz_frame.specs.Frame.{lists, frame_size}
use Rattle.vz_rules.specs.World.{World, Client, Surface, Resource, Submission, is_on, is_in_flight, last_created}
use Rattle.vz_rules.specs.Returns.{holds}
use Rattle.vz_rules.specs.Messages.{is_unknown, violates, is_last, id_of, new_submission, with_surface, replace_on, lend, submitting, took, accepted}
use Rattle.vz_rules.specs.Kept.{KeepsAlways, KeepsClients, KeepsSurfaces, KeepsNumbers, KeepsTime, LastStays, IsCreated, HasResource, KeepsShelf, is_by, is_surface_of}
use Rattle.vz_rules.proofs.Reached.{from_same, self_same, self_same_sink}
use Rattle.vz_rules.proofs.Members.{when_same, contains_map, contains_at, at_contains, at_same, push_contains, push_contains_last, any_at, none_at}
use Rattle.vz_rules.proofs.Counts.{count_same, count_push}
use Rattle.vz_rules.proofs.Kept_names.{KeepsName, clients_keep, surfaces_of_clients, numbers_keep}
use Rattle.vz_rules.proofs.Kept_states.{Stands, open_before, states_keep}
use Rattle.vz_rules.proofs.Kept_shelves.{Lends, shelf_more}
use Rattle.vz_rules.proofs.Kept_last.{last_at, raised_from_all, surfaces_more}
use Rattle.vz_rules.proofs.Kept_stays.{last_keeps, last_more}
use Rattle.vz_rules.proofs.Kept_accepted.{IsTimely, numbers_of_more, numbers_more, none_waits, replaces, states_more, flight_keeps, flight_more, time_of_clients, time_of_more}
use Rattle.vz_rules.proofs.Kept_worlds.{StaysClient, stands_at, stands_from, holds_at, holds_from}

-- of one number there is one client
pub one_of_number : (cs : List Client) (c d : Client) → KeepsClients cs → Contains cs c → Contains cs d → c.number ≡ d.number → c ≡ d
one_of_number cs c d h p q e =
    let n = contains_at cs c p in
    let m = contains_at cs d q in
    at_same cs n.0 m.0 c d n.1 m.1 (omega (arith, h.numbered n.0 c n.1, h.numbered m.0 d m.1, e))

-- The surface

-- the last surface of a client, where a submission goes to it
pub last_is_on : (w : World) (c : Client) (local : LocalSurfaceId) (last : Surface) → KeepsAlways w → Contains w.clients c → last_created w c.number ≡ Some last → is_last (Some last) local ≡ true
    → Contains w.surfaces last × (last.client ≡ c.number) × (same_surface last.id (id_of c local) ≡ true)
last_is_on w c local last h p was is =
    let at = last_at (λ (x : Surface). x.client == c.number) w.surfaces last was in
    let here = at_contains w.surfaces at.0 last at.1.0 in
    let client = eqb-true last.client c.number at.1.1 in
    let owner = h.surfaces.of_clients last here in
    let sink : last.id.sink ≡ c.sink = sym owner.3 ∙ ap (λ (x : Client). x.sink) (one_of_number w.clients owner.0 c h.clients owner.1 p (owner.2 ∙ client)) in
    (here, client, and_from (same_sink last.id.sink c.sink) (same_local last.id.local local) (ap (λ x. same_sink x c.sink) sink ∙ self_same_sink c.sink) is)

-- what is kept with the surface of a submission
record Grows (w : World) (new : Submission) (ss : List Surface) : Type 0 where
  surfaces : KeepsSurfaces w.clients ss
  last_stays : LastStays w.clients ss
  created : IsCreated ss new
  numbers : KeepsNumbers ss w.subs
  few_created : (c : ℕ) → count_by (is_surface_of c) ss ≤ count_by (is_surface_of c) w.surfaces + cond (is_by c new) 1 0
  stand : (id : SurfaceId) → Stands w.surfaces id → Stands ss id
  stands : Stands ss new.submitted.id
  time : KeepsTime w.clients ss w.tick

-- a submission goes to the last surface of its client
grows_not : (w : World) (c : Client) (local : LocalSurfaceId) (frame : CompositorFrame) (o : Option Surface) → KeepsAlways w → Contains w.clients c
    → c.closed ≡ false
    → last_created w c.number ≡ o → is_last o local ≡ true → Grows w (new_submission w c local frame) w.surfaces
unfolding new_submission
grows_not w c local frame None h p e was is = absurd (cc)
grows_not w c local frame (Some last) h p e was is =
    let on = last_is_on w c local last h p was is in
    record {
      surfaces = h.surfaces;
      last_stays = h.last_stays;
      created = (last, on.0, from_same last.id (id_of c local) on.2, on.1);
      numbers = h.numbers;
      few_created = λ n. omega arith;
      stand = λ id s. s;
      stands = stands_from w.surfaces (id_of c local) last on.0 on.2 (h.last_stays c last p e was).0;
      time = h.time;
    }

-- a submission makes a surface
grows_one : (w : World) (c : Client) (local : LocalSurfaceId) (frame : CompositorFrame) (new : Surface) → KeepsAlways w → Contains w.clients c
    → violates (last_created w c.number) local ≡ false → is_last (last_created w c.number) local ≡ false → new.client ≡ c.number
    → new.number ≡ count_by (is_surface_of c.number) w.surfaces + 1 → new.id ≡ id_of c local → new.born ≡ w.tick → new.marked ≡ false → new.destroyed ≡ false
    → Grows w (new_submission w c local frame) (w.surfaces ++ new ∷ [])
unfolding new_submission
grows_one w c local frame new h p good other client number id born unmarked stands =
    let after = w.surfaces ++ new ∷ [] in
    record {
      surfaces = surfaces_more w.clients w.surfaces new (number ∙ ap (λ n. count_by (is_surface_of n) w.surfaces + 1) (sym client))
          (c, p, sym client, ap (λ (i : SurfaceId). i.sink) (sym id))
          (λ n s at same. ap (λ (i : SurfaceId). is_raised s.id.local i.local) id
          ∙ raised_from_all w.clients w.surfaces c.number local (last_created w c.number) h.surfaces refl good other n s at (same ∙ client)) stands h.surfaces;
      last_stays = last_more w.clients w.surfaces new (stands, unmarked) h.last_stays;
      created = (new, push_contains_last w.surfaces new, id, client);
      numbers = numbers_of_more w.surfaces w.subs new h.numbers;
      few_created = λ n. omega (arith, count_push (is_surface_of n) w.surfaces new, ap {B = ℕ} (λ m. cond (m == n) 1 0) client);
      stand = λ i s. let m = stands_at w.surfaces i s in stands_from after i m.0 (push_contains w.surfaces new m.0 m.1) m.2 m.3;
      stands = stands_from after (id_of c local) new (push_contains_last w.surfaces new) (ap (λ i. same_surface i (id_of c local)) id ∙ self_same (id_of c local)) stands;
      time = time_of_more w.clients w.surfaces new w.tick (omega (arith, born)) h.time;
    }

grows : (w : World) (c : Client) (local : LocalSurfaceId) (frame : CompositorFrame) → KeepsAlways w → Contains w.clients c → c.closed ≡ false
    → violates (last_created w c.number) local ≡ false → Grows w (new_submission w c local frame) (with_surface w c local frame)
unfolding with_surface
grows w c local frame h p e good =
    elim (is_last (last_created w c.number) local) as (λ (t : Bool). is_last (last_created w c.number) local ≡ t
    → Grows w (new_submission w c local frame) (cond t w.surfaces (w.surfaces ++ record {
      client = c.number;
      number = count_by (λ s. s.client == c.number) w.surfaces + 1;
      id = id_of c local;
      size = frame_size frame;
      born = w.tick;
      named = false;
      marked = false;
      destroyed = false;
    } ∷ []))) [
      | true ↦ λ is. grows_not w c local frame (last_created w c.number) h p e refl is
      | false ↦ λ other. grows_one w c local frame _ h p good other refl refl refl refl refl refl
    ] refl

-- The clients

-- a client that submits
record Submits (w : World) (frame : CompositorFrame) (x d : Client) : Type 0 where
  number : d.number ≡ x.number
  sink : d.sink ≡ x.sink
  closed : d.closed ≡ x.closed
  resources : d.resources ≡ map (lend frame.resources) x.resources
  queue : d.queue ≡ x.queue
  taken : d.taken ≡ x.taken + 1
  timely : IsTimely w.tick x → IsTimely w.tick d

submits_by : (t : Bool) (w : World) (frame : CompositorFrame) (x : Client)
    → Submits w frame x (took (cond t (record x { resources = map (lend frame.resources) x.resources; answered = w.tick }) (record x { resources = map (lend frame.resources) x.resources })))
submits_by true w frame x =
    record { number = refl; sink = refl; closed = refl; resources = refl; queue = refl; taken = refl; timely = λ t. record { delivered = t.delivered; answered = le_refl w.tick } }
submits_by false w frame x =
    record { number = refl; sink = refl; closed = refl; resources = refl; queue = refl; taken = refl; timely = λ t. record { delivered = t.delivered; answered = t.answered } }

submits : (w : World) (frame : CompositorFrame) (x : Client) → Submits w frame x (took (submitting w frame x))
submits w frame x = submits_by (frame.metadata.ack == w.tick) w frame x

submit_stays : (t : Bool) (w : World) (frame : CompositorFrame) (x d : Client) → Submits w frame x d → StaysClient w.tick w.tick x (cond t d x)
submit_stays true w frame x d s = record { number = s.number; sink = s.sink; closed = λ e. sym s.closed ∙ e; timely = s.timely }
submit_stays false w frame x d s = record { number = refl; sink = refl; closed = λ e. e; timely = λ t. t }

lends_by : (t u : Bool) (s : Resource) → t ≡ true → (cond u (record s { lent = s.lent + 1 }) s).lent ≡ s.lent + cond (t && u) 1 0
lends_by true true s e = refl
lends_by true false s e = omega arith
lends_by false u s e = absurd (cc)

lends : (c : ℕ) (new : Submission) → (new.submitted.sub.client == c) ≡ true → Lends c new (lend new.submitted.frame.resources)
lends c new e =
    record {
      id = λ s. when_same (λ (x : Resource). x.id) (λ s. record s { lent = s.lent + 1 }) (list_any (lists s.id) new.submitted.frame.resources) s refl;
      queued = λ s. when_same (λ (x : Resource). x.queued) (λ s. record s { lent = s.lent + 1 }) (list_any (lists s.id) new.submitted.frame.resources) s refl;
      reclaimed = λ s. when_same (λ (x : Resource). x.reclaimed) (λ s. record s { lent = s.lent + 1 }) (list_any (lists s.id) new.submitted.frame.resources) s refl;
      lent = λ s. lends_by (new.submitted.sub.client == c) (list_any (lists s.id) new.submitted.frame.resources) s e;
    }

lends_not : (c : ℕ) (new : Submission) → (new.submitted.sub.client == c) ≡ false → Lends c new (λ s. s)
lends_not c new e =
    record {
      id = λ s. refl;
      queued = λ s. refl;
      reclaimed = λ s. refl;
      lent = λ s. none (new.submitted.sub.client == c) (list_any (lists s.id) new.submitted.frame.resources) s.lent e;
    }
  where
    none : (t u : Bool) (n : ℕ) → t ≡ false → n ≡ n + cond (t && u) 1 0
    none true u n h = absurd (cc)
    none false u n h = omega arith

-- The world

knows : (w : World) (c x : Client) (frame : CompositorFrame) (l : Listing) → KeepsAlways w → Contains w.clients c → Contains w.clients x
    → list_any (is_unknown c.resources) frame.resources ≡ false
    → c.number ≡ x.number → Contains frame.resources l → HasResource x.resources l.id
knows w c x frame l h p q none same m =
    let known = not-false _ (none_at (is_unknown c.resources) frame.resources l none m) in
    let r = any_at (λ (s : Resource). (s.id == l.id) && (s.block.w == l.w) && (s.block.h == l.h)) c.resources known in
    let id = and_parts (r.0.id == l.id) (r.0.block.w == l.w) (and_parts ((r.0.id == l.id) && (r.0.block.w == l.w)) (r.0.block.h == l.h) r.2).0 in
    subst (λ (y : Client). HasResource y.resources l.id) (one_of_number w.clients c x h.clients p q same) (r.0, r.1, eqb-true r.0.id l.id id.0)

-- the world with the clients, surfaces and submissions that a submission leaves
abbrev after_submit : World → Client → LocalSurfaceId → CompositorFrame → List Surface → World
after_submit w c local frame ss =
    record w {
      clients = map (λ x. cond (x.number == c.number) (took (submitting w frame x)) x) w.clients;
      surfaces = ss;
      subs = map (replace_on (id_of c local)) w.subs ++ new_submission w c local frame ∷ [];
    }

-- the shelf of a client, the one that submits or another
shelf_by : (t : Bool) (w v : World) (c x : Client) (local : LocalSurfaceId) (frame : CompositorFrame) → (x.number == c.number) ≡ t → KeepsAlways w
    → Contains w.clients c → Contains w.clients x
    → list_any (is_unknown c.resources) frame.resources ≡ false
    → ((s : Submission) → Contains w.subs s → holds v (replace_on (id_of c local) s) ≡ true → holds w s ≡ true)
    → KeepsShelf (holds v) (map (replace_on (id_of c local)) w.subs ++ new_submission w c local frame ∷ []) (cond t (took (submitting w frame x)) x)
unfolding new_submission
shelf_by true w v c x local frame e h p q none held =
    let s = submits w frame x in
    let same = eqb-true x.number c.number e in
    let mine = eq-eqb c.number x.number (sym same) in
    shelf_more (replace_on (id_of c local)) (holds w) (holds v) w.subs (new_submission w c local frame) x (took (submitting w frame x)) (lend frame.resources)
    (replaces (id_of c local)).submitted held (lends x.number (new_submission w c local frame) mine) s.number s.resources s.queue
    (omega (arith, s.taken, one_more (c.number == x.number))) (λ l by m. knows w c x frame l h p q none by m) (h.shelves x q)
  where
    one_more : (t : Bool) → cond t 1 0 ≤ 1
    one_more true = omega arith
    one_more false = omega arith
shelf_by false w v c x local frame e h p q none held =
    let other : (c.number == x.number) ≡ false = ne_eqb c.number x.number (λ k. both_ways (x.number == c.number) e (eq-eqb x.number c.number (sym k))) in
    shelf_more (replace_on (id_of c local)) (holds w) (holds v) w.subs (new_submission w c local frame) x x (λ r. r)
    (replaces (id_of c local)).submitted held (lends_not x.number (new_submission w c local frame) other) refl (sym (map-id x.resources)) refl
    (no_more (c.number == x.number) x.taken other) (λ l by m. absurd (both_ways (c.number == x.number) other (eq-eqb c.number x.number by))) (h.shelves x q)
  where
    no_more : (t : Bool) (n : ℕ) → t ≡ false → n + cond t 1 0 ≤ n
    no_more true n k = absurd (cc)
    no_more false n k = omega arith

always_submitted : (w : World) (c : Client) (local : LocalSurfaceId) (frame : CompositorFrame) (ss : List Surface) → Grows w (new_submission w c local frame) ss
    → KeepsAlways w
    → Contains w.clients c → list_any (is_unknown c.resources) frame.resources ≡ false → KeepsAlways (after_submit w c local frame ss)
unfolding new_submission
always_submitted w c local frame ss grown h p none =
    let v = after_submit w c local frame ss in
    let id = id_of c local in
    let new = new_submission w c local frame in
    let f = replace_on id in
    let k : Client → Client = λ x. cond (x.number == c.number) (took (submitting w frame x)) x in
    let stays : (x : Client) → StaysClient w.tick w.tick x (k x) = λ x. submit_stays (x.number == c.number) w frame x (took (submitting w frame x)) (submits w frame x) in
    let name : KeepsName k = record { number = λ x. (stays x).number; sink = λ x. (stays x).sink } in
    let submitted = (replaces id).submitted in
    let numbers = numbers_keep f ss w.subs submitted grown.numbers in
    let index = ap (λ n. n + 1) (sym (count_same f (is_on id) (is_on id) w.subs (λ s. ap (λ i. same_surface i.id id) (submitted s)))) in
    let ordinal = ap (λ n. n + 1) (sym (count_same f (is_by c.number) (is_by c.number) w.subs (λ s. ap (λ i. i.sub.client == c.number) (submitted s)))) in
    let states = states_keep f w.surfaces ss w.subs (replaces id) (λ s q o st. grown.stand s.submitted.id st) h.states in
    let after = states_more ss (map f w.subs) new numbers (record { waits = refl; acts = refl; was = refl; index = index; alone = none_waits id w.subs; stands = grown.stands }) states in
    record {
      clients = clients_keep k w.clients name h.clients;
      surfaces = surfaces_of_clients k w.clients ss name grown.surfaces;
      last_stays = subst (λ l. LastStays (map k w.clients) l) (map-id ss)
          (last_keeps k (λ s. s) w.clients ss name (λ x. (stays x).closed) (record { client = λ s. refl; number = λ s. refl; id = λ s. refl; born = λ s. refl }) (λ x s q o e safe. safe) grown.last_stays);
      numbers = numbers_more ss (map f w.subs) new index ordinal grown.created numbers;
      few_created = λ n. omega (
        arith,
        h.few_created n,
        grown.few_created n,
        count_push (is_by n) (map f w.subs) new,
        count_same f (is_by n) (is_by n) w.subs (λ s. ap (λ i. i.sub.client == n) (submitted s)),
      );
      states = after;
      in_flight = flight_more w.in_flight (map f w.subs) new (flight_keeps f w.in_flight w.subs submitted h.in_flight);
      shelves = λ x q.
          let m = contains_map k w.clients x q in
          subst (λ y. KeepsShelf (holds v) v.subs y) m.2 (shelf_by (m.0.number == c.number) w v c m.0 local frame refl h p m.1 none (λ s r e. holds_from w s h.states r (elim (holds_at v (f s) e) [
            | inl o ↦ inl (open_before f (replaces id) s o)
            | inr o ↦ inr (ap (λ i. is_in_flight w.in_flight i.sub) (sym (submitted s)) ∙ o)
          ])));
      time = time_of_clients k w.clients ss w.tick w.tick (le_refl w.tick) h.time.tick (λ x q. (stays x).timely) grown.time;
    }

-- a submission is accepted of a client that is not closed, where its id does not violate the last one and it lists nothing that is unknown
pub always_accepted : (w : World) (c : Client) (local : LocalSurfaceId) (frame : CompositorFrame) → KeepsAlways w → Contains w.clients c → c.closed ≡ false
    → violates (last_created w c.number) local ≡ false → list_any (is_unknown c.resources) frame.resources ≡ false
    → KeepsAlways (accepted w c local frame).world
unfolding accepted
always_accepted w c local frame h p e good none = always_submitted w c local frame (with_surface w c local frame) (grows w c local frame h p e good) h p none

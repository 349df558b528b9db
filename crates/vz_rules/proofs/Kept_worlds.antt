-- What a world keeps all the time, where its clients change, and where its submissions, surfaces and drawn frame do.
use Rattle.std.proofs.Common.{◌≡◌, ℕ, ◌≤◌, Bool, true, false, not, ◌&&◌, ◌==◌, ◌⊎◌, inl, inr, Option, Some, List, map, map-id, refl, ap, sym, ◌∙◌, arith, subst, Contains}
use Rattle.std.proofs.lemmas.Bool.{and_parts, and_from, or_cases, or_left, or_right, not-true}
use Rattle.vz_ids.specs.declared.FrameSinkId.{FrameSinkId}
use Rattle.vz_ids.specs.declared.SurfaceId.{SurfaceId}
use Rattle.vz_ids.specs.declared.Sub.{Sub}
use Rattle.vz_ids.specs.Ids.{same_surface}
use Rattle.vz_rules.specs.World.{World, Client, Surface, Submission, Aggregation, is_in_flight, sub_of}
use Rattle.vz_rules.specs.Returns.{holds}
use Rattle.vz_rules.specs.Kept.{is_by, is_surface_of, KeepsAlways, KeepsStates, KeepsFlight, KeepsShelf, LastStays, last_in, is_open, stands_in}
use Rattle.vz_rules.proofs.Members.{contains_map, map_contains, any_at, any_from, found}
use Rattle.vz_rules.proofs.Counts.{count_same}
use Rattle.vz_rules.proofs.Kept_names.{KeepsName, KeepsSurface, clients_keep, surfaces_of_clients, surfaces_keep, numbers_of_surfaces, numbers_keep}
use Rattle.vz_rules.proofs.Kept_states.{Stands}
use Rattle.vz_rules.proofs.Kept_shelves.{shelf_of_subs}
use Rattle.vz_rules.proofs.Kept_stays.{last_keeps, IsSafe}
use Rattle.vz_rules.proofs.Kept_accepted.{IsTimely, time_of_clients, time_of_surfaces}

-- what nothing depends on
pub always_besides : (w : World) (last : Option Aggregation) (over : Bool) (root : Option SurfaceId) (relations : List (FrameSinkId × FrameSinkId))
    → KeepsAlways w → KeepsAlways (record w { last = last; over = over; root = root; relations = relations })
always_besides w last over root relations h =
    record {
      clients = h.clients;
      surfaces = h.surfaces;
      last_stays = h.last_stays;
      numbers = h.numbers;
      few_created = h.few_created;
      states = h.states;
      in_flight = h.in_flight;
      shelves = h.shelves;
      time = h.time;
    }

-- Clients

-- a client keeps its name, stays closed, and is timely
pub record StaysClient (now next : ℕ) (c d : Client) : Type 0 where
  pub number : d.number ≡ c.number
  pub sink : d.sink ≡ c.sink
  pub closed : d.closed ≡ false → c.closed ≡ false
  pub timely : IsTimely now c → IsTimely next d

stays_name : (k : Client → Client) (now next : ℕ) → ((c : Client) → StaysClient now next c (k c)) → KeepsName k
stays_name k now next h = record { number = λ c. (h c).number; sink = λ c. (h c).sink }

pub always_clients : (w : World) (k : Client → Client) (next : ℕ) → w.tick ≤ next → next ≤ 4294967231 → ((c : Client) → StaysClient w.tick next c (k c))
    → ((c : Client) → Contains w.clients c → KeepsShelf (holds w) w.subs c → KeepsShelf (holds w) w.subs (k c))
    → KeepsAlways w → KeepsAlways (record w { clients = map k w.clients; tick = next })
always_clients w k next l top stays shelf h =
    let name = stays_name k w.tick next stays in
    let none : KeepsSurface (λ s. s) = record { client = λ s. refl; number = λ s. refl; id = λ s. refl; born = λ s. refl } in
    record {
      clients = clients_keep k w.clients name h.clients;
      surfaces = surfaces_of_clients k w.clients w.surfaces name h.surfaces;
      last_stays = subst (λ ss. LastStays (map k w.clients) ss) (map-id w.surfaces)
          (last_keeps k (λ s. s) w.clients w.surfaces name (λ c. (stays c).closed) none (λ c s p o e safe. safe) h.last_stays);
      numbers = h.numbers;
      few_created = h.few_created;
      states = h.states;
      in_flight = h.in_flight;
      shelves = λ c p.
          let m = contains_map k w.clients c p in
          subst (λ x. KeepsShelf (holds w) w.subs x) m.2 (shelf m.0 m.1 (h.shelves m.0 m.1));
      time = time_of_clients k w.clients w.surfaces w.tick next l top (λ c p. (stays c).timely) h.time;
    }

-- Standing surfaces

not_destroyed : (a b : Bool) → (a && not b) ≡ true → (a ≡ true) × (b ≡ false)
not_destroyed a b h = let both = and_parts a (not b) h in (both.0, not-true b both.1)

stands_test : (a b : Bool) → a ≡ true → b ≡ false → (a && not b) ≡ true
stands_test a b h k = and_from a (not b) h (ap not k)

pub stands_at : (ss : List Surface) (id : SurfaceId) → Stands ss id → (c : Surface) × Contains ss c × (same_surface c.id id ≡ true) × (c.destroyed ≡ false)
stands_at ss id h =
    let m = any_at (λ (s : Surface). same_surface s.id id && not s.destroyed) ss (sym (found (λ (s : Surface). same_surface s.id id && not s.destroyed) ss) ∙ h) in
    let both = not_destroyed (same_surface m.0.id id) m.0.destroyed m.2 in
    (m.0, m.1, both.0, both.1)

pub stands_from : (ss : List Surface) (id : SurfaceId) (c : Surface) → Contains ss c → same_surface c.id id ≡ true → c.destroyed ≡ false → Stands ss id
stands_from ss id c p e d =
    found (λ (s : Surface). same_surface s.id id && not s.destroyed) ss
    ∙ any_from (λ (s : Surface). same_surface s.id id && not s.destroyed) ss c p (stands_test (same_surface c.id id) c.destroyed e d)

pub stands_map : (g : Surface → Surface) (ss : List Surface) (id : SurfaceId) → KeepsSurface g → ((s : Surface) → (g s).destroyed ≡ s.destroyed) → Stands ss id
    → Stands (map g ss) id
stands_map g ss id name same h =
    let m = stands_at ss id h in
    stands_from (map g ss) id (g m.0) (map_contains g ss m.0 m.1) (ap (λ i. same_surface i id) (name.id m.0) ∙ m.2) (same m.0 ∙ m.3)

-- what holds is open, on a standing surface, or in flight
pub holds_from : (w : World) (s : Submission) → KeepsStates w.surfaces w.subs → Contains w.subs s
    → (is_open s ≡ true) ⊎ (is_in_flight w.in_flight (sub_of s) ≡ true) → holds w s ≡ true
holds_from w s h c either =
    elim either [
      | inl e ↦ or_left (is_open s && stands_in w.surfaces s.submitted.id) (is_in_flight w.in_flight (sub_of s)) (and_from (is_open s) (stands_in w.surfaces s.submitted.id) e (h.stand s c e))
      | inr e ↦ or_right (is_open s && stands_in w.surfaces s.submitted.id) (is_in_flight w.in_flight (sub_of s)) e
    ]

pub holds_at : (w : World) (s : Submission) → holds w s ≡ true → (is_open s ≡ true) ⊎ (is_in_flight w.in_flight (sub_of s) ≡ true)
holds_at w s h =
    elim (or_cases (is_open s && stands_in w.surfaces s.submitted.id) (is_in_flight w.in_flight (sub_of s)) h) [
      | inl e ↦ inl (and_parts (is_open s) (stands_in w.surfaces s.submitted.id) e).0
      | inr e ↦ inr e
    ]

-- Submissions, surfaces and the drawn frame

abbrev with_parts : World → (Submission → Submission) → (Surface → Surface) → Option (List Sub) → World
with_parts w f g drawn = record w { subs = map f w.subs; surfaces = map g w.surfaces; in_flight = drawn }

-- names stay, and what is open or in flight then held before
pub record StaysParts (w : World) (f : Submission → Submission) (g : Surface → Surface) (drawn : Option (List Sub)) : Type 0 where
  pub submitted : (s : Submission) → (f s).submitted ≡ s.submitted
  pub surface : KeepsSurface g
  pub marks : (s : Surface) → Contains w.surfaces s → (s.destroyed ≡ true → s.marked ≡ true) → (g s).destroyed ≡ true → (g s).marked ≡ true
  pub safe : (c : Client) (s : Surface) → Contains w.clients c → c.closed ≡ false → last_in w.surfaces c.number ≡ Some s → IsSafe s → IsSafe (g s)
  pub states : KeepsStates (map g w.surfaces) (map f w.subs)
  pub flight : KeepsFlight drawn (map f w.subs)
  pub opens : (s : Submission) → Contains w.subs s → is_open (f s) ≡ true → is_open s ≡ true
  pub draws : (s : Submission) → Contains w.subs s → is_in_flight drawn (sub_of s) ≡ true → holds w s ≡ true

pub always_parts : (w : World) (f : Submission → Submission) (g : Surface → Surface) (drawn : Option (List Sub)) → StaysParts w f g drawn → KeepsAlways w
    → KeepsAlways (with_parts w f g drawn)
always_parts w f g drawn stays h =
    let v = with_parts w f g drawn in
    let held : (s : Submission) → Contains w.subs s → holds v (f s) ≡ true → holds w s ≡ true = λ s c e.
    elim (holds_at v (f s) e) [
      | inl o ↦ holds_from w s h.states c (inl (stays.opens s c o))
      | inr o ↦ stays.draws s c (ap (λ i. is_in_flight drawn i.sub) (sym (stays.submitted s)) ∙ o)
    ] in
    record {
      clients = h.clients;
      surfaces = surfaces_keep g w.clients w.surfaces stays.surface stays.marks h.surfaces;
      last_stays = subst (λ cs. LastStays cs (map g w.surfaces)) (map-id w.clients)
          (last_keeps (λ c. c) g w.clients w.surfaces (record { number = λ c. refl; sink = λ c. refl }) (λ c e. e) stays.surface stays.safe h.last_stays);
      numbers = numbers_of_surfaces g w.surfaces (map f w.subs) stays.surface (numbers_keep f w.surfaces w.subs stays.submitted h.numbers);
      few_created = λ c. omega (
        arith,
        h.few_created c,
        count_same f (is_by c) (is_by c) w.subs (λ s. ap (λ i. i.sub.client == c) (stays.submitted s)),
        count_same g (is_surface_of c) (is_surface_of c) w.surfaces (λ s. ap (λ n. n == c) (stays.surface.client s)),
      );
      states = stays.states;
      in_flight = stays.flight;
      shelves = λ c p. shelf_of_subs f (holds w) (holds v) w.subs c stays.submitted held (h.shelves c p);
      time = time_of_surfaces g w.clients w.surfaces w.tick stays.surface h.time;
    }

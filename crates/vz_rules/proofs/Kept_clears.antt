-- What a world keeps all the time, where surfaces are destroyed, references are given back and feedback is given.
use Rattle.std.proofs.Common.{◌≡◌, Bool, true, false, not, ◌&&◌, ◌||◌, inr, List, map, map-id, refl, ap, sym, ◌∙◌, cond, subst, le_refl}
use Rattle.std.specs.List.{list_any}
use Rattle.std.proofs.lemmas.Bool.{and_parts, both_ways, false_from_ne_true, cond-false}
use Rattle.vz_ids.specs.declared.SurfaceId.{SurfaceId}
use Rattle.vz_ids.specs.declared.Sub.{Sub}
use Rattle.vz_ids.specs.Ids.{same_surface}
use Rattle.vz_rules.specs.declared.entry.State.TheVariants.{Dropped}
use Rattle.vz_rules.specs.World.{World, Surface, Submission, is_waiting, is_active, is_on}
use Rattle.vz_rules.specs.Reach.{has_id, naming, reach, is_lost, destroy, drop_on, lost_in, clearing, collect}
use Rattle.vz_rules.specs.Returns.{queue_returns, give_back, mark_fed, feed}
use Rattle.vz_rules.specs.Kept.{KeepsAlways, is_open}
use Rattle.vz_rules.proofs.Reached.{from_same, self_same}
use Rattle.vz_rules.proofs.Members.{filter_has, any_from, map_contains}
use Rattle.vz_rules.proofs.Kept_names.{KeepsSurface, surface_when}
use Rattle.vz_rules.proofs.Kept_states.{OpensNone, drops_when, Stands, open_before, states_keep}
use Rattle.vz_rules.proofs.Kept_given.{shelf_given}
use Rattle.vz_rules.proofs.Kept_stays.{unmarked_stays}
use Rattle.vz_rules.proofs.Kept_accepted.{flight_keeps}
use Rattle.vz_rules.proofs.Kept_worlds.{always_parts, always_clients, stands_at, stands_from, holds_from}
use Rattle.vz_rules.proofs.Kept_follows.{always_naming}

-- Destroying

destroyed_names : (kept : List SurfaceId) → KeepsSurface (destroy kept)
destroyed_names kept = surface_when (λ s. record s { destroyed = true }) (is_lost kept) (record { client = λ s. refl; number = λ s. refl; id = λ s. refl; born = λ s. refl })

pub destroyed_marks : (t : Bool) (s : Surface) → (t ≡ true → s.marked ≡ true) → (s.destroyed ≡ true → s.marked ≡ true)
    → (cond t (record s { destroyed = true }) s).destroyed ≡ true
    → (cond t (record s { destroyed = true }) s).marked ≡ true
destroyed_marks true s lost h e = lost refl
destroyed_marks false s lost h e = h e

lost_marked : (kept : List SurfaceId) (s : Surface) → is_lost kept s ≡ true → s.marked ≡ true
lost_marked kept s h = (and_parts s.marked (not s.destroyed) (and_parts (s.marked && not s.destroyed) (not (has_id kept s.id)) h).0).0

pub drops : (lost : List Surface) → OpensNone (drop_on lost)
drops lost = drops_when (λ s. (is_waiting s || is_active s) && list_any (λ c. is_on c.id s) lost)

open_on : (o any : Bool) (s : Submission) → is_open s ≡ o → is_open (cond (o && any) (record s { state = Dropped }) s) ≡ true → any ≡ false
open_on true true s e h = absurd (cc)
open_on true false s e h = refl
open_on false any s e h = absurd (both_ways (is_open s) e h)

-- what is open afterwards is on no surface that is lost
pub open_unlost : (lost : List Surface) (s : Submission) → is_open (drop_on lost s) ≡ true → list_any (λ c. is_on c.id s) lost ≡ false
open_unlost lost s h = open_on (is_waiting s || is_active s) (list_any (λ c. is_on c.id s) lost) s refl h

-- and so that surface stands on
stands_on : (w : World) (s : Submission) → is_open (drop_on (lost_in w) s) ≡ true → Stands w.surfaces s.submitted.id
    → Stands (map (destroy (reach w)) w.surfaces) s.submitted.id
unfolding lost_in
stands_on w s o h =
    let m = stands_at w.surfaces s.submitted.id h in
    let stays : is_lost (reach w) m.0 ≡ false =
    false_from_ne_true (is_lost (reach w) m.0) (λ e. both_ways (list_any (λ c. is_on c.id s) (lost_in w)) (open_unlost (lost_in w) s o)
    (any_from (λ c. is_on c.id s) (lost_in w) m.0 (filter_has (is_lost (reach w)) w.surfaces m.0 m.1 e)
    (ap (λ i. same_surface i m.0.id) (sym (from_same m.0.id s.submitted.id m.2)) ∙ self_same m.0.id))) in
    stands_from (map (destroy (reach w)) w.surfaces) s.submitted.id (destroy (reach w) m.0) (map_contains (destroy (reach w)) w.surfaces m.0 m.1)
    (ap (λ i. same_surface i s.submitted.id) ((destroyed_names (reach w)).id m.0) ∙ m.2) (ap (λ (x : Surface). x.destroyed) (cond-false (is_lost (reach w) m.0) _ m.0 stays) ∙ m.3)

pub always_clearing : (w : World) → KeepsAlways w → KeepsAlways (clearing w)
unfolding clearing
always_clearing w h =
    always_parts w (drop_on (lost_in w)) (destroy (reach w)) w.in_flight (record {
      submitted = (drops (lost_in w)).submitted;
      surface = destroyed_names (reach w);
      marks = λ s p. destroyed_marks (is_lost (reach w) s) s (lost_marked (reach w) s);
      safe = λ c s p o e. unmarked_stays (reach w) s;
      states = states_keep (drop_on (lost_in w)) w.surfaces (map (destroy (reach w)) w.surfaces) w.subs (drops (lost_in w)) (λ s p o. stands_on w s o) h.states;
      flight = flight_keeps (drop_on (lost_in w)) w.in_flight w.subs (drops (lost_in w)).submitted h.in_flight;
      opens = λ s p. open_before (drop_on (lost_in w)) (drops (lost_in w)) s;
      draws = λ s p e. holds_from w s h.states p (inr e);
    }) h

pub always_collect : (w : World) → KeepsAlways w → KeepsAlways (collect w)
unfolding collect
always_collect w h = always_clearing (naming w) (always_naming w h)

-- Returns

pub always_given : (w : World) → KeepsAlways w → KeepsAlways (give_back w)
unfolding give_back
always_given w h =
    always_clients w (queue_returns w) w.tick (le_refl w.tick) h.time.tick
    (λ c. record { number = refl; sink = refl; closed = λ e. e; timely = λ t. record { delivered = t.delivered; answered = t.answered } })
    (λ c p. shelf_given w c) h

-- Feedback

pub always_fed : (presented : List Sub) (w : World) → KeepsAlways w → KeepsAlways (feed presented w)
unfolding feed
always_fed presented w h =
    let marks : OpensNone (mark_fed w presented) = record { submitted = λ s. refl; waits = λ s e. e; acts = λ s e. e; was = λ s. refl } in
    subst (λ l. KeepsAlways (record w { subs = map (mark_fed w presented) w.subs; surfaces = l })) (map-id w.surfaces)
    (always_parts w (mark_fed w presented) (λ s. s) w.in_flight (record {
      submitted = λ s. refl;
      surface = record { client = λ s. refl; number = λ s. refl; id = λ s. refl; born = λ s. refl };
      marks = λ s p e. e;
      safe = λ c s p o e i. i;
      states = states_keep (mark_fed w presented) w.surfaces (map (λ s. s) w.surfaces) w.subs marks (λ s p o i. subst (λ l. Stands l s.submitted.id) (sym (map-id w.surfaces)) i) h.states;
      flight = flight_keeps (mark_fed w presented) w.in_flight w.subs (λ s. refl) h.in_flight;
      opens = λ s p e. e;
      draws = λ s p e. holds_from w s h.states p (inr e);
    }) h)

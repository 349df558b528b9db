-- What a world keeps all the time, through activation, collection, returns and feedback.
use Rattle.std.proofs.Common.{◌≡◌, ℕ, zero, suc, Bool, true, false, not, ◌&&◌, inr, List, map, map-id, filter, length, refl, cond, subst}
use Rattle.std.specs.List.{list_any}
use Rattle.vz_rules.specs.World.{World, Surface, Submission}
use Rattle.vz_rules.specs.Settle.{is_ready, ready, after_round, marked_by, is_before, round, rounds, settle}
use Rattle.vz_rules.specs.Reach.{name_one, naming, is_named_now}
use Rattle.vz_rules.specs.Kept.{KeepsAlways}
use Rattle.vz_rules.proofs.Members.{filter_at}
use Rattle.vz_rules.proofs.Kept_names.{KeepsSurface, surface_when}
use Rattle.vz_rules.proofs.Kept_states.{OpensNone, frame_after, open_after, states_round, states_keep, states_of_surfaces}
use Rattle.vz_rules.proofs.Kept_stays.{last_unmarked, IsSafe}
use Rattle.vz_rules.proofs.Kept_accepted.{flight_keeps}
use Rattle.vz_rules.proofs.Kept_worlds.{always_parts, stands_map, holds_from}
use Rattle.vz_rules.proofs.Facts.{same_when}
pub use Rattle.vz_rules.proofs.Settled.{ready_waits}

-- A round

marked_names : (ss : List Surface) (activated : List Submission) → KeepsSurface (marked_by ss activated)
marked_names ss activated = surface_when (λ s. record s { marked = true }) (λ s. list_any (is_before ss s) activated) (record { client = λ s. refl; number = λ s. refl; id = λ s. refl; born = λ s. refl })

pub marked_marks : (t : Bool) (s : Surface) → (s.destroyed ≡ true → s.marked ≡ true) → (cond t (record s { marked = true }) s).destroyed ≡ true
    → (cond t (record s { marked = true }) s).marked ≡ true
marked_marks true s h e = refl
marked_marks false s h e = h e

pub always_round : (w : World) → KeepsAlways w → KeepsAlways (round w)
unfolding round ready
always_round w h =
    let becomes = is_ready w in
    let waits = ready_waits w in
    let risen = filter (is_ready w) w.subs in
    let names = marked_names w.surfaces risen in
    let submitted = frame_after becomes w.surfaces w.subs waits h.states in
    always_parts w (after_round becomes risen) (marked_by w.surfaces risen) w.in_flight (record {
      submitted = submitted;
      surface = names;
      marks = λ s p. marked_marks (list_any (is_before w.surfaces s) risen) s;
      safe = λ c s p o e. last_unmarked w.clients w.surfaces risen s c.number h.clients h.surfaces (λ a q. h.numbers.created a (filter_at becomes w.subs a q).0) e;
      states = states_of_surfaces w.surfaces (map (marked_by w.surfaces risen) w.surfaces) (map (after_round becomes risen) w.subs)
          (λ id. stands_map (marked_by w.surfaces risen) w.surfaces id names (λ s. same_when (λ (x : Surface). x.destroyed) (list_any (is_before w.surfaces s) risen) _ s refl))
          (states_round becomes w.surfaces w.subs waits h.states);
      flight = flight_keeps (after_round becomes risen) w.in_flight w.subs submitted h.in_flight;
      opens = λ s p. open_after becomes w.surfaces w.subs waits h.states s;
      draws = λ s p e. holds_from w s h.states p (inr e);
    }) h

always_rounds : (n : ℕ) (w : World) → KeepsAlways w → KeepsAlways (rounds n w)
unfolding rounds
always_rounds zero w h = h
always_rounds (suc n) w h = always_rounds n (round w) (always_round w h)

pub always_settle : (w : World) → KeepsAlways w → KeepsAlways (settle w)
unfolding settle
always_settle w h = always_rounds (length w.subs) w h

-- Naming

named_names : (w : World) → KeepsSurface (name_one w)
named_names w = surface_when (λ s. record s { named = true }) (λ s. not s.destroyed && is_named_now w s.id) (record { client = λ s. refl; number = λ s. refl; id = λ s. refl; born = λ s. refl })

named_marks : (t : Bool) (s : Surface) → (s.destroyed ≡ true → s.marked ≡ true) → (cond t (record s { named = true }) s).destroyed ≡ true
    → (cond t (record s { named = true }) s).marked ≡ true
named_marks true s h e = h e
named_marks false s h e = h e

named_safe : (t : Bool) (s : Surface) → IsSafe s → IsSafe (cond t (record s { named = true }) s)
named_safe true s h = h
named_safe false s h = h

pub nothing_opens : OpensNone (λ s. s)
nothing_opens = record { submitted = λ s. refl; waits = λ s e. e; acts = λ s e. e; was = λ s. refl }

pub always_naming : (w : World) → KeepsAlways w → KeepsAlways (naming w)
unfolding naming
always_naming w h =
    let names = named_names w in
    subst (λ l. KeepsAlways (record w { subs = l; surfaces = map (name_one w) w.surfaces })) (map-id w.subs)
    (always_parts w (λ s. s) (name_one w) w.in_flight (record {
      submitted = λ s. refl;
      surface = names;
      marks = λ s p. named_marks (not s.destroyed && is_named_now w s.id) s;
      safe = λ c s p o e. named_safe (not s.destroyed && is_named_now w s.id) s;
      states = states_keep (λ s. s) w.surfaces (map (name_one w) w.surfaces) w.subs nothing_opens
          (λ s p o. stands_map (name_one w) w.surfaces s.submitted.id names (λ c. same_when (λ (x : Surface). x.destroyed) (not c.destroyed && is_named_now w c.id) _ c refl)) h.states;
      flight = flight_keeps (λ s. s) w.in_flight w.subs (λ s. refl) h.in_flight;
      opens = λ s p e. e;
      draws = λ s p e. holds_from w s h.states p (inr e);
    }) h)

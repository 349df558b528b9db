-- What a world keeps all the time, as one submission becomes active or one surface is destroyed.
use Rattle.std.proofs.Common.{◌≡◌, Bool, true, false, not, ◌&&◌, ◌==◌, inl, inr, List, [], ◌∷◌, map, filter, refl, ap, sym, ◌∙◌, cond, subst, Contains}
use Rattle.std.specs.List.{list_any}
use Rattle.std.proofs.lemmas.Bool.{and_parts, and_from, or_left, both_ways, false_from_ne_true, cond-false}
use Rattle.vz_ids.specs.declared.SurfaceId.{SurfaceId}
use Rattle.vz_ids.specs.Ids.{same_surface, same_sub}
use Rattle.vz_rules.specs.declared.entry.State.TheVariants.{Active, Past}
use Rattle.vz_rules.specs.World.{World, Surface, Submission, is_waiting, is_active, is_on, sub_of}
use Rattle.vz_rules.specs.Settle.{after_round, is_before, marked_by}
use Rattle.vz_rules.specs.Reach.{has_id, reach, is_lost, drop_on, lost_in}
use Rattle.vz_rules.specs.Singly.{as_one_rises, rising, as_one_goes, going, IsMarked}
use Rattle.vz_rules.specs.Kept.{KeepsAlways, KeepsStates, IsCreated, is_open}
use Rattle.vz_rules.proofs.Reached.{from_same, self_same}
use Rattle.vz_rules.proofs.Members.{any_at, any_from, at_contains, at_same, contains_at, contains_map, contains_cases, contains_none, filter_at, filter_has, map_contains, same_tests, when_same}
use Rattle.vz_rules.proofs.Kept_names.{KeepsSurface, surface_when}
use Rattle.vz_rules.proofs.Kept_last.{last_at}
use Rattle.vz_rules.proofs.Kept_states.{Stands, open_before, states_keep, states_round, states_of_surfaces}
use Rattle.vz_rules.proofs.Kept_stays.{IsSafe, last_unmarked}
use Rattle.vz_rules.proofs.Kept_accepted.{flight_keeps}
use Rattle.vz_rules.proofs.Kept_rounds.{map_alike}
use Rattle.vz_rules.proofs.Kept_clears.{drops, open_unlost, destroyed_marks}
use Rattle.vz_rules.proofs.Kept_facts.{surfaces_apart, subs_apart}
use Rattle.vz_rules.proofs.Kept_worlds.{always_parts, stands_at, stands_from, stands_map, holds_from}
use Rattle.vz_rules.proofs.Facts.{same_when, same_either, or_false}
use Rattle.vz_rules.proofs.Kept_follows.{marked_marks}
use Rattle.vz_rules.proofs.Settled.{acts_not_waits}
pub use Rattle.vz_rules.proofs.Kept_rounds.{self_sub as own_sub}

-- Names and states

-- no two have one name
abbrev pub Apart : List Submission → Type 0
Apart subs = (s t : Submission) → Contains subs s → Contains subs t → same_sub (sub_of s) (sub_of t) ≡ true → s ≡ t

pub apart : (w : World) → KeepsAlways w → Apart w.subs
apart w h s t c d e =
    let n = contains_at w.subs s c in
    let m = contains_at w.subs t d in
    at_same w.subs n.0 m.0 s t n.1 m.1 (subs_apart w n.0 m.0 s t h n.1 m.1 e)

pub active_waits_not : (s : Submission) → is_active s ≡ true → is_waiting s ≡ false
active_waits_not s e = acts_not_waits s.state e

-- A surface is destroyed

goes_names : (c : Surface) → KeepsSurface (as_one_goes c)
goes_names c = surface_when (λ s. record s { destroyed = true }) (λ s. same_surface s.id c.id) (record { client = λ s. refl; number = λ s. refl; id = λ s. refl; born = λ s. refl })

-- what is open afterwards is on another surface, which stands on
stands_on : (c : Surface) (ss : List Surface) (s : Submission) → is_open (drop_on (c ∷ []) s) ≡ true → Stands ss s.submitted.id → Stands (map (as_one_goes c) ss) s.submitted.id
stands_on c ss s o h =
    let m = stands_at ss s.submitted.id h in
    let other : same_surface m.0.id c.id ≡ false = ap (λ i. same_surface i c.id) (from_same m.0.id s.submitted.id m.2) ∙ sym (or_false (is_on c.id s)) ∙ (open_unlost (c ∷ []) s o) in
    stands_from (map (as_one_goes c) ss) s.submitted.id (as_one_goes c m.0) (map_contains (as_one_goes c) ss m.0 m.1) (ap (λ i. same_surface i s.submitted.id) ((goes_names c).id m.0) ∙ m.2)
    (ap (λ (x : Surface). x.destroyed) (cond-false (same_surface m.0.id c.id) _ m.0 other) ∙ m.3)

pub always_going : (w : World) (c : Surface) → KeepsAlways w → IsMarked w c.id → KeepsAlways (going c w)
unfolding going
always_going w c h marked =
    always_parts w (drop_on (c ∷ [])) (as_one_goes c) w.in_flight (record {
      submitted = (drops (c ∷ [])).submitted;
      surface = goes_names c;
      marks = λ s p. destroyed_marks (same_surface s.id c.id) s (marked s p);
      safe = λ x s p o e safe.
          let at = last_at (λ (y : Surface). y.client == x.number) w.surfaces s e in
          (subst IsSafe (sym (cond-false (same_surface s.id c.id) _ s (false_from_ne_true (same_surface s.id c.id) (λ t. both_ways s.marked safe.1 (marked s (at_contains w.surfaces at.0 s at.1.0) t))))) safe);
      states = states_keep (drop_on (c ∷ [])) w.surfaces (map (as_one_goes c) w.surfaces) w.subs (drops (c ∷ [])) (λ s p o. stands_on c w.surfaces s o) h.states;
      flight = flight_keeps (drop_on (c ∷ [])) w.in_flight w.subs (drops (c ∷ [])).submitted h.in_flight;
      opens = λ s p. open_before (drop_on (c ∷ [])) (drops (c ∷ [])) s;
      draws = λ s p e. holds_from w s h.states p (inr e);
    }) h

-- the others stay marked
pub marked_on : (w : World) (id : SurfaceId) (c : Surface) → IsMarked w id → IsMarked (going c w) id
unfolding going
marked_on w id c h s p e =
    let m = contains_map (as_one_goes c) w.surfaces s p in
    let same : s.id ≡ m.0.id = ap (λ (x : Surface). x.id) (sym m.2) ∙ (goes_names c).id m.0 in
    ap (λ (x : Surface). x.marked) (sym m.2)
    ∙ (when_same (λ (x : Surface). x.marked) (λ x. record x { destroyed = true }) (same_surface m.0.id c.id) m.0 refl
    ∙ h m.0 m.1 (ap (λ i. same_surface i id) (sym same) ∙ e))

pub lost_marked : (w : World) (c : Surface) → KeepsAlways w → Contains (lost_in w) c → IsMarked w c.id
unfolding lost_in
lost_marked w c h l s p e =
    let at = filter_at (is_lost (reach w)) w.surfaces c l in
    let n = contains_at w.surfaces s p in
    let m = contains_at w.surfaces c at.0 in
    let one : s ≡ c = at_same w.surfaces n.0 m.0 s c n.1 m.1 (surfaces_apart w n.0 m.0 s c h n.1 m.1 e) in
    ap (λ (x : Surface). x.marked) one ∙ (and_parts c.marked (not c.destroyed) (and_parts (c.marked && not c.destroyed) (not (has_id (reach w) c.id)) at.1).0).0

-- A submission becomes active

marked_names : (ss : List Surface) (s : Submission) → KeepsSurface (marked_by ss (s ∷ []))
marked_names ss s = surface_when (λ c. record c { marked = true }) (λ c. list_any (is_before ss c) (s ∷ [])) (record { client = λ c. refl; number = λ c. refl; id = λ c. refl; born = λ c. refl })

rises_open : (a b : Bool) (t : Submission) → (a ≡ true → is_open t ≡ true) → is_open (cond a (record t { state = Active; was_active = true }) (cond b (record t { state = Past }) t)) ≡ true → is_open t ≡ true
rises_open true b t one h = one refl
rises_open false true t one h = absurd (cc)
rises_open false false t one h = h

module _ (w : World) (s : Submission) (h : KeepsAlways w) (here : Contains w.subs s) (waits : is_waiting s ≡ true) where
  abbrev is_it : Submission → Bool
  is_it t = is_waiting t && same_sub (sub_of t) (sub_of s)

  abbrev risen : List Submission
  risen = filter is_it w.subs

  it_is : (t : Submission) → Contains w.subs t → same_sub (sub_of t) (sub_of s) ≡ true → t ≡ s
  it_is t p e = apart w h t s p here e

  becomes : (t : Submission) → Contains w.subs t → is_it t ≡ same_sub (sub_of t) (sub_of s)
  becomes t p =
      same_tests (is_it t) (same_sub (sub_of t) (sub_of s)) (λ e. (and_parts (is_waiting t) (same_sub (sub_of t) (sub_of s)) e).1)
      (λ e. and_from (is_waiting t) (same_sub (sub_of t) (sub_of s)) (ap is_waiting (it_is t p e) ∙ waits) e)

  -- exactly it becomes active
  on_it : (t : Submission) → list_any (is_on t.submitted.id) risen ≡ is_on s.submitted.id t
  on_it t =
      same_tests (list_any (is_on t.submitted.id) risen) (is_on s.submitted.id t)
      (λ e.
      let m = any_at (is_on t.submitted.id) risen e in
      let at = filter_at is_it w.subs m.0 m.1 in
      let one : m.0 ≡ s = it_is m.0 at.0 (and_parts (is_waiting m.0) (same_sub (sub_of m.0) (sub_of s)) at.1).1 in
      let on : s.submitted.id ≡ t.submitted.id = ap (λ (x : Submission). x.submitted.id) (sym one) ∙ from_same m.0.submitted.id t.submitted.id m.2 in
      ap (same_surface t.submitted.id) on ∙ self_same t.submitted.id)
      (λ e.
      let on : t.submitted.id ≡ s.submitted.id = from_same t.submitted.id s.submitted.id e in
      any_from (is_on t.submitted.id) risen s (filter_has is_it w.subs s here (and_from (is_waiting s) (same_sub (sub_of s) (sub_of s)) waits (own_sub (sub_of s))))
      (ap (same_surface s.submitted.id) on ∙ self_same s.submitted.id))

  as_a_round : (t : Submission) → Contains w.subs t → after_round is_it risen t ≡ as_one_rises s t
  as_a_round t p = λ i. cond (becomes t p i) (record t { state = Active; was_active = true }) (cond (is_active t && on_it t i) (record t { state = Past }) t)

  rises_states : KeepsStates w.surfaces (map (as_one_rises s) w.subs)
  rises_states =
      subst (KeepsStates w.surfaces) (map_alike (after_round is_it risen) (as_one_rises s) w.subs as_a_round)
      (states_round is_it w.surfaces w.subs (λ t e. (and_parts (is_waiting t) (same_sub (sub_of t) (sub_of s)) e).0) h.states)

  submitted : (t : Submission) → (as_one_rises s t).submitted ≡ t.submitted
  submitted t = same_either (λ (x : Submission). x.submitted) (same_sub (sub_of t) (sub_of s)) (is_active t && is_on s.submitted.id t) _ _ t refl refl

  pub always_rising : KeepsAlways (rising s w)
  unfolding rising
  always_rising =
      let names = marked_names w.surfaces s in
      always_parts w (as_one_rises s) (marked_by w.surfaces (s ∷ [])) w.in_flight (record {
        submitted = submitted;
        surface = names;
        marks = λ c p. marked_marks (list_any (is_before w.surfaces c) (s ∷ [])) c;
        safe = λ x c p o e. last_unmarked w.clients w.surfaces (s ∷ []) c x.number h.clients h.surfaces (λ a q. elim (contains_cases s a [] q) [ inl m ↦ subst (λ y. IsCreated w.surfaces y) m (h.numbers.created s here) | inr m ↦ absurd (contains_none a m) ]) e;
        states = states_of_surfaces w.surfaces (map (marked_by w.surfaces (s ∷ [])) w.surfaces) (map (as_one_rises s) w.subs)
            (λ id. stands_map (marked_by w.surfaces (s ∷ [])) w.surfaces id names (λ c. same_when (λ (x : Surface). x.destroyed) (list_any (is_before w.surfaces c) (s ∷ [])) _ c refl)) rises_states;
        flight = flight_keeps (as_one_rises s) w.in_flight w.subs submitted h.in_flight;
        opens = λ t p. rises_open (same_sub (sub_of t) (sub_of s)) (is_active t && is_on s.submitted.id t) t
            (λ e. or_left (is_waiting t) (is_active t) (ap is_waiting (it_is t p e) ∙ waits));
        draws = λ t p e. holds_from w t h.states p (inr e);
      }) h

rises_not : (a b : Bool) (t : Submission) → a ≡ false → is_active t ≡ false → cond a (record t { state = Active; was_active = true }) (cond (is_active t && b) (record t { state = Past }) t) ≡ t
rises_not true b t e f = absurd (cc)
rises_not false b t e f = ap (λ (u : Bool). cond (u && b) (record t { state = Past }) t) f

-- the others that wait are not changed
pub others_wait : (w : World) (s t : Submission) → Contains w.subs t → is_waiting t ≡ true → same_sub (sub_of t) (sub_of s) ≡ false → Contains (rising s w).subs t
unfolding rising
others_wait w s t p waits other =
    let quiet : is_active t ≡ false = false_from_ne_true (is_active t) (λ a. both_ways (is_waiting t) (active_waits_not t a) waits) in
    subst (λ x. Contains (map (as_one_rises s) w.subs) x) (rises_not (same_sub (sub_of t) (sub_of s)) (is_on s.submitted.id t) t other quiet)
    (map_contains (as_one_rises s) w.subs t p)

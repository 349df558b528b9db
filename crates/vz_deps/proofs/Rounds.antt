-- What rounds meet, and what is blocked in the machine's state.
use Rattle.std.proofs.Common.{arith, ◌≡◌, ℕ, Bool, nat_le, true, false, not, ◌&&◌, ◌||◌, ◌==◌, List, [], ◌∷◌, map, filter, refl, ap, sym, cond}
use Rattle.std.proofs.lemmas.Bool.Decides.{nat_tests}
use Rattle.std.specs.List.{list_any, list_all}
use Rattle.vz_ids.specs.declared.SurfaceId.{SurfaceId}
use Rattle.vz_ids.specs.Ids.{at_least, same_sink}
use Rattle.vz_rules.specs.World.{World, Submission, Client, is_waiting, is_active, is_on, sub_of}
use Rattle.vz_rules.specs.declared.entry.State.TheVariants.{Active, Past}
use Rattle.vz_rules.specs.Messages.{taking, took}
use Rattle.vz_rules.specs.Settle.{is_met, has_come, ready, is_ready, round, after_round}
use Rattle.vz_deps.specs.Tracking.{freed, still, meets, meets_any}
use Rattle.vz_deps.specs.Blocking.{dependencies_of, lacks_in, blocked_by}

module _ (is_met more : SurfaceId → Bool) where
  all_more : (ds : List SurfaceId) → list_all more (filter (λ d. not (is_met d)) ds) ≡ list_all (λ d. is_met d || more d) ds
  all_more [] = refl
  all_more (d ∷ ds) = grind (arith, nat_tests, all_more ds)

  left_more : (ds : List SurfaceId) → filter (λ d. not (more d)) (filter (λ d. not (is_met d)) ds) ≡ filter (λ d. not (is_met d || more d)) ds
  left_more [] = refl
  left_more (d ∷ ds) = grind (arith, nat_tests, left_more ds)

  all_before : (ds : List SurfaceId) → list_all is_met ds ≡ true → list_all (λ d. is_met d || more d) ds ≡ true
  all_before [] e = refl
  all_before (d ∷ ds) e = grind (arith, nat_tests, all_before ds)

  pub frees_more : (subs : List Submission) → freed more (blocked_by is_met subs) ≡ map sub_of (filter (λ s. lacks_in is_met s && list_all (λ d. is_met d || more d) (dependencies_of s)) subs)
  unfolding freed blocked_by
  frees_more [] = refl
  frees_more (s ∷ subs) = grind (arith, nat_tests, all_more (dependencies_of s), frees_more subs)

  pub still_more : (subs : List Submission) → still more (blocked_by is_met subs) ≡ blocked_by (λ d. is_met d || more d) subs
  unfolding still blocked_by
  still_more [] = refl
  still_more (s ∷ subs) = grind (arith, nat_tests, still_more subs, all_before (dependencies_of s), all_more (dependencies_of s), left_more (dependencies_of s))

-- A round

-- a submission on a surface at a dependency or newer was active
abbrev was_at : SurfaceId → Submission → Bool
was_at d s = s.was_active && at_least s.submitted.id d

absorbed : (a b : Bool) → b ≡ ((a && b) || b)
absorbed true true = refl
absorbed true false = refl
absorbed false b = refl

or_false : (a : Bool) → a ≡ (a || false)
or_false true = refl
or_false false = refl

after_has : (p : Submission → Bool) (activated : List Submission) (d : SurfaceId) (s : Submission) → was_at d (after_round p activated s) ≡ (was_at d s || (p s && at_least s.submitted.id d))
after_has p activated d s =
    elim (p s) as (λ (t : Bool). was_at d (cond t (record s { state = Active; was_active = true }) (cond (is_active s && list_any (is_on s.submitted.id) activated) (record s { state = Past }) s)) ≡ (was_at d s || (t && at_least s.submitted.id d))) [
      | true ↦ absorbed s.was_active (at_least s.submitted.id d)
      | false ↦ elim (is_active s && list_any (is_on s.submitted.id) activated) as (λ (u : Bool). was_at d (cond u (record s { state = Past }) s) ≡ (was_at d s || false)) [
        | true ↦ or_false (was_at d s)
        | false ↦ or_false (was_at d s)
      ]
    ]

sorted : (a b c e : Bool) → ((a || b) || (c || e)) ≡ ((a || c) || (b || e))
sorted true b c e = refl
sorted false true true e = refl
sorted false true false e = refl
sorted false false c e = refl

at_by : (p : Submission → Bool) (d : SurfaceId) (s : Submission) (subs : List Submission) → list_any (λ s. meets s.submitted.id d) (cond (p s) (s ∷ filter p subs) (filter p subs)) ≡ ((p s && at_least s.submitted.id d) || list_any (λ s. meets s.submitted.id d) (filter p subs))
at_by p d s subs = grind (arith, nat_tests)

were_at : (p : Submission → Bool) (activated : List Submission) (d : SurfaceId) (subs : List Submission)
    → list_any (was_at d) (map (after_round p activated) subs) ≡ (list_any (was_at d) subs || list_any (λ s. meets s.submitted.id d) (filter p subs))
were_at p activated d [] = refl
were_at p activated d (s ∷ subs) = grind (arith, nat_tests, after_has p activated d s, were_at p activated d subs, sorted, at_by p d s subs)

placed : (a b c : Bool) → ((a || b) || c) ≡ ((a || c) || b)
placed true b c = refl
placed false true true = refl
placed false true false = refl
placed false false c = or_false c

pub round_meets : (w : World) (d : SurfaceId) → is_met (round w) d ≡ (is_met w d || list_any (λ s. meets s.submitted.id d) (ready w))
unfolding is_met round ready
round_meets w d = grind (arith, nat_tests, were_at (is_ready w) (filter (is_ready w) w.subs) d w.subs, placed)

-- What is ready next

active_stays : (s : Submission) → is_active s ≡ true → is_waiting s ≡ false
active_stays s e = grind (arith, nat_tests)

first_part : (a b : Bool) → (a && b) ≡ true → a ≡ true
first_part true b e = refl
first_part false b e = absurd (cc)

not_yet : (a b c d e : Bool) → (a && (b || c)) ≡ false → d ≡ e → (a && (d || c)) ≡ ((a && not b) && e)
not_yet true true c d e h is = absurd (cc)
not_yet true false true d e h is = absurd (cc)
not_yet true false false true e h is = is
not_yet true false false false e h is = is
not_yet false b c d e h is = refl

all_same : (p q : SurfaceId → Bool) (ds : List SurfaceId) → ((d : SurfaceId) → p d ≡ q d) → list_all p ds ≡ list_all q ds
all_same p q [] same = refl
all_same p q (d ∷ ds) same = λ i. same d i && all_same p q ds same i

-- the clock stands, and the submissions are gone through
same_tick : (w : World) (n : ℕ) → nat_le n (round w).tick ≡ nat_le n w.tick
unfolding round
same_tick w n = refl

ready_after : (w : World) → map sub_of (ready (round w)) ≡ map sub_of (filter (is_ready (round w)) (map (after_round (is_ready w) (ready w)) w.subs))
unfolding ready round
ready_after w = refl

module _ (w : World) where
  abbrev more_in : SurfaceId → Bool
  more_in d = list_any (λ s. meets s.submitted.id d) (ready w)

  -- a submission that is freed
  abbrev is_freed : Submission → Bool
  is_freed s = lacks_in (is_met w) s && list_all (λ d. is_met w d || more_in d) (dependencies_of s)

  none_freed : (s : Submission) → is_waiting s ≡ false → false ≡ is_freed s
  none_freed s e = sym (ap (λ t. (t && not (list_all (is_met w) (dependencies_of s))) && list_all (λ d. is_met w d || more_in d) (dependencies_of s)) e)

  later_ready : (s : Submission) → is_ready w s ≡ false → is_ready (round w) s ≡ is_freed s
  unfolding is_ready has_come
  later_ready s e = grind (arith, nat_tests, all_same, round_meets, same_tick, not_yet)

  all_ready : (subs : List Submission) → map sub_of (filter (is_ready (round w)) (map (after_round (is_ready w) (ready w)) subs)) ≡ map sub_of (filter is_freed (filter (λ s. not (is_ready w s)) subs))
  unfolding is_ready
  all_ready [] = refl
  all_ready (s ∷ subs) = grind (arith, nat_tests, none_freed, active_stays, first_part, later_ready, all_ready subs)

same_more : (subs : List Submission) (d : SurfaceId) → meets_any (map (λ s. s.submitted.id) subs) d ≡ list_any (λ s. meets s.submitted.id d) subs
same_more [] d = refl
same_more (s ∷ subs) d = ap (λ t. meets s.submitted.id d || t) (same_more subs d)

pub round_frees : (w : World) → map sub_of (ready (round w)) ≡ freed (meets_any (map (λ s. s.submitted.id) (ready w))) (blocked_by (is_met w) (filter (λ s. not (is_ready w s)) w.subs))
round_frees w = grind (arith, nat_tests, ready_after w, all_ready w w.subs, frees_more (is_met w), same_more (ready w))

-- What stays blocked

module _ (w : World) (met_then : SurfaceId → Bool) where
  all_blocked : (subs : List Submission) → blocked_by met_then (filter (λ s. not (is_ready w s)) subs) ≡ blocked_by met_then (map (after_round (is_ready w) (ready w)) subs)
  unfolding blocked_by
  all_blocked [] = refl
  all_blocked (s ∷ subs) = grind (arith, nat_tests, all_blocked subs, active_stays, first_part)

blocked_after : (w : World) → blocked_by (is_met (round w)) (map (after_round (is_ready w) (ready w)) w.subs) ≡ blocked_by (is_met (round w)) (round w).subs
unfolding round ready
blocked_after w = refl

pub round_leaves : (w : World) → still (meets_any (map (λ s. s.submitted.id) (ready w))) (blocked_by (is_met w) (filter (λ s. not (is_ready w s)) w.subs)) ≡ blocked_by (is_met (round w)) (round w).subs
round_leaves w = grind (arith, nat_tests, same_more (ready w), still_more (is_met w), round_meets w, all_blocked w (is_met (round w)) w.subs, blocked_after w)

-- A client is closed

-- a client, closed where it is the one
abbrev after_close : Bool → Client → Client
after_close t x = cond t (took (record x { closed = true })) x

-- a client's sink is closed, and is that of a dependency
abbrev is_closed_at : SurfaceId → Client → Bool
is_closed_at d x = x.closed && same_sink x.sink d.sink

close_all : (n : ℕ) (d : SurfaceId) (clients : List Client)
    → list_any (is_closed_at d) (map (λ x. after_close (x.number == n) x) clients) ≡ (list_any (is_closed_at d) clients || list_any (λ x. (x.number == n) && same_sink x.sink d.sink) clients)
close_all n d [] = refl
close_all n d (x ∷ clients) = grind (arith, nat_tests, absorbed, or_false, close_all n d clients, sorted)

joined : (a b c : Bool) → (a || (b || c)) ≡ ((a || b) || c)
joined true b c = refl
joined false b c = refl

pub close_meets : (w : World) (c : Client) (d : SurfaceId) → is_met (taking (λ x. record x { closed = true }) c w) d ≡ (is_met w d || list_any (λ x. (x.number == c.number) && same_sink x.sink d.sink) w.clients)
unfolding is_met
close_meets w c d = grind (arith, nat_tests, close_all c.number d w.clients, joined)

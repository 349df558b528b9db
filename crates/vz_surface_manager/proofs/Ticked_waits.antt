-- Those that wait at a new tick, and how many they are.
use Rattle.std.proofs.Common.{◌≡◌, ℕ, suc, ◌+◌, Bool, true, false, not, ◌&&◌, ◌||◌, List, [], ◌∷◌, length, map, filter, refl, ap, sym, ◌∙◌, arith}
use Rattle.std.specs.{Prelude.nat_le, Prelude.nat_lt, List.list_any, List.list_all}
use Rattle.std.proofs.{lemmas.Bool.Decides.nat_tests, lemmas.List.length-map}
use Rattle.vz_ids.specs.{declared.SurfaceId.SurfaceId, declared.Sub.Sub}
use Rattle.vz_rules.specs.{Plan.Plan, World.World, World.Submission, World.is_waiting, World.sub_of, Step.next_tick, Step.deliver, Step.begin_answer}
use Rattle.vz_rules.specs.{Settle.is_met, Settle.ready, Course.some_waits, Kept.KeepsAlways}
use Rattle.vz_rules.proofs.{Kept_singly.apart}
use Rattle.vz_deps.specs.{Tracking.Blocked, Tracking.freed, Tracking.still, Tracking.lacking, Blocking.dependencies_of}
use Rattle.vz_deadlines.specs.{declared.due.Due.Due, Timing.due_at, Timing.left_at, Timing.due_of}
use Rattle.vz_surface_manager.specs.{Waits.Waits, Waits.AreWaiting, Left_out.blocked_without}
use Rattle.vz_surface_manager.proofs.Filtered.{named_is, filter_alike, filter_twice, filter_mapped, both_lengths}
use Rattle.vz_surface_manager.proofs.Waits_on.{Stand, comes, stays, stand_of, waiting_from, stand_alike, ready_comes}
use Rattle.vz_surface_manager.proofs.{Quiet_changes.closes_delivering, Waits_kept.met_is, Waits_kept.met_of_clients, Dropped_waits.blocked_less}
use Rattle.vz_surface_manager.proofs.Closed_waits.{none_comes}

map_map : {A B C : Type 0} (f : B → C) (g : A → B) (xs : List A) → map f (map g xs) ≡ map (λ x. f (g x)) xs
map_map f g [] = refl
map_map f g (x ∷ xs) = ap (λ l. f (g x) ∷ l) (map_map f g xs)

-- in the tests: it waits, all is met, its deadline had come and has come now, where it was not ready before

due_then : (a m d e : Bool) → (a && (m || d)) ≡ false → ((a && not (m || d)) && e) ≡ (a && (m || e))
due_then a m d e h = grind (arith, nat_tests)

left_then : (a m d e : Bool) → (a && (m || d)) ≡ false → ((a && not (m || d)) && not e) ≡ (a && not (m || e))
left_then a m d e h = grind (arith, nat_tests)

blocked_then : (a m d e : Bool) → (a && (m || d)) ≡ false → ((a && not (m || d)) && not (a && (m || e))) ≡ (a && not (m || e))
blocked_then a m d e h = grind (arith, nat_tests)

module _ (w : World) (n : ℕ) (none : ready w ≡ []) where
  due_comes : due_at n (map due_of (filter (stays (is_met w) w.tick) w.subs)) ≡ map sub_of (filter (comes (is_met w) n) w.subs)
  unfolding due_at
  due_comes =
      ap (map (λ (d : Due). d.sub)) (filter_mapped (λ (d : Due). nat_le d.tick n) due_of (filter (stays (is_met w) w.tick) w.subs))
      ∙ (map_map (λ (d : Due). d.sub) due_of (filter (λ s. nat_le s.due n) (filter (stays (is_met w) w.tick) w.subs))
      ∙ ap (map (λ (s : Submission). sub_of s)) (filter_twice (λ (s : Submission). nat_le s.due n) (stays (is_met w) w.tick) w.subs
      ∙ filter_alike (λ s. stays (is_met w) w.tick s && nat_le s.due n) (comes (is_met w) n) w.subs
      (λ s c. due_then (is_waiting s) (list_all (is_met w) (dependencies_of s)) (nat_le s.due w.tick) (nat_le s.due n) (none_comes w s none c))))

  left_stays : left_at n (map due_of (filter (stays (is_met w) w.tick) w.subs)) ≡ map due_of (filter (stays (is_met w) n) w.subs)
  unfolding left_at
  left_stays =
      filter_mapped (λ (d : Due). not (nat_le d.tick n)) due_of (filter (stays (is_met w) w.tick) w.subs)
      ∙ ap (map due_of) (filter_twice (λ (s : Submission). not (nat_le s.due n)) (stays (is_met w) w.tick) w.subs
      ∙ filter_alike (λ s. stays (is_met w) w.tick s && not (nat_le s.due n)) (stays (is_met w) n) w.subs
      (λ s c. left_then (is_waiting s) (list_all (is_met w) (dependencies_of s)) (nat_le s.due w.tick) (nat_le s.due n) (none_comes w s none c)))

  pub due_of_waiting : (a : Waits) → AreWaiting w a → due_at n a.due ≡ map sub_of (filter (comes (is_met w) n) w.subs)
  due_of_waiting a r = ap (due_at n) (stand_of w a r).due ∙ due_comes

  pub stand_at : (old new : Waits) (gone : List Sub) → KeepsAlways w → AreWaiting w old → gone ≡ due_at n old.due → new.due ≡ left_at n old.due
      → new.blocked ≡ blocked_without gone old.blocked → Stand (is_met w) n w.subs new.blocked new.due
  stand_at old new gone h r is e f =
      let stand = stand_of w old r in
      record {
        blocked =
            f
            ∙ ((λ i. blocked_without ((is ∙ due_of_waiting old r) i) (stand.blocked i))
            ∙ blocked_less (is_met w) (stays (is_met w) w.tick) (stays (is_met w) n) (map sub_of (filter (comes (is_met w) n) w.subs)) w.subs (λ s c.
            ap (λ (t : Bool). stays (is_met w) w.tick s && not t) (named_is (comes (is_met w) n) w.subs s (apart w h) c)
            ∙ blocked_then (is_waiting s) (list_all (is_met w) (dependencies_of s)) (nat_le s.due w.tick) (nat_le s.due n) (none_comes w s none c)));
        due = e ∙ (ap (left_at n) stand.due ∙ left_stays);
      }

met_begun : (p : Plan) (w : World) → is_met (begin_answer p w).world ≡ is_met w
unfolding begin_answer
met_begun p w = met_is (begin_answer p w).world ∙ (met_of_clients (deliver p w (next_tick w.tick)) w.subs w.clients (closes_delivering p w (next_tick w.tick)) ∙ sym (met_is w))

pub waits_ticked : (w : World) (p : Plan) (n : ℕ) (old new : Waits) (gone : List Sub) → KeepsAlways w → ready w ≡ [] → AreWaiting w old → n ≡ next_tick w.tick
    → gone ≡ due_at n old.due → new.due ≡ left_at n old.due → new.blocked ≡ blocked_without gone old.blocked → AreWaiting (begin_answer p w).world new
unfolding begin_answer
waits_ticked w p n old new gone h none r at is e f =
    let v = (begin_answer p w).world in
    waiting_from v new (stand_alike (is_met w) (is_met v) n v.tick w.subs v.subs new.blocked new.due (met_begun p w) (sym at) refl (stand_at w n none old new gone h r is e f))

pub ready_ticked : (w : World) (p : Plan) (n : ℕ) (old : Waits) → ready w ≡ [] → AreWaiting w old → n ≡ next_tick w.tick → due_at n old.due ≡ map sub_of (ready (begin_answer p w).world)
unfolding begin_answer
ready_ticked w p n old none r at = grind (arith, nat_tests, due_of_waiting w n none old r, comes, met_begun p w, ready_comes)

-- How many

pub left_and_due : (n : ℕ) (list : List Due) → length (left_at n list) + length (due_at n list) ≡ length list
unfolding left_at due_at
left_and_due n list = ap (λ k. length (filter (λ (d : Due). not (nat_le d.tick n)) list) + k) (length-map (filter (λ (d : Due). nat_le d.tick n) list) (λ (d : Due). d.sub)) ∙ both_lengths (λ (d : Due). nat_le d.tick n) list

pub still_and_freed : (met : SurfaceId → Bool) (list : List Blocked) → length (still met list) + length (freed met list) ≡ length list
unfolding still freed
still_and_freed met list =
    (λ i. length-map (filter (λ (b : Blocked). not (list_all met b.unmet)) list) (lacking met) i + length-map (filter (λ (b : Blocked). list_all met b.unmet) list) (λ (b : Blocked). b.sub) i)
    ∙ both_lengths (λ (b : Blocked). list_all met b.unmet) list

one_more : (n : ℕ) → true ≡ nat_lt 0 (suc n)
one_more n = let some : nat_lt 0 (suc n) ≡ true = grind (arith, nat_tests) in sym some

some_filtered : (p : Submission → Bool) (subs : List Submission) → list_any p subs ≡ nat_lt 0 (length (map due_of (filter p subs)))
some_filtered p [] = refl
some_filtered p (s ∷ subs) = grind (arith, nat_tests, one_more (length (map due_of (filter p subs))), some_filtered p subs)

waits_on : (a m d : Bool) → (a && (m || d)) ≡ false → (a && not (m || d)) ≡ a
waits_on a m d h = grind (arith, nat_tests)

pub some_wait : (w : World) (a : Waits) (n : ℕ) → ready w ≡ [] → AreWaiting w a → n ≡ length a.due → some_waits w ≡ nat_lt 0 n
some_wait w a n none r is =
    some_filtered is_waiting w.subs
    ∙ sym (ap (nat_lt 0) (is ∙ ap length ((stand_of w a r).due ∙ ap (map due_of) (filter_alike (stays (is_met w) w.tick) is_waiting w.subs
    (λ s c. waits_on (is_waiting s) (list_all (is_met w) (dependencies_of s)) (nat_le s.due w.tick) (none_comes w s none c))))))

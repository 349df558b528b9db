-- Which submissions wait on, by what is met and by the tick.
use Rattle.std.proofs.Common.{◌≡◌, ℕ, Bool, not, ◌&&◌, ◌||◌, List, length, map, filter, refl, sym, ◌∙◌, arith}
use Rattle.std.specs.{Prelude.nat_le, List.list_all}
use Rattle.std.proofs.{lemmas.List.length-map, lemmas.Bool.Decides.nat_tests}
use Rattle.vz_ids.specs.declared.SurfaceId.{SurfaceId}
use Rattle.vz_rules.specs.{World.World, World.Submission, World.is_waiting, Settle.is_met, Settle.has_come, Settle.is_ready, Settle.ready}
use Rattle.vz_deps.specs.{Tracking.Blocked, Blocking.dependencies_of, Blocking.blocked_of, Blocking.blocked_by}
use Rattle.vz_deadlines.specs.{declared.due.Due.Due, Timing.due_of}
use Rattle.vz_surface_manager.specs.Waits.{Waits, AreWaiting}
use Rattle.vz_surface_manager.proofs.Filtered.{filter_twice}

-- a submission waits and becomes active
abbrev pub comes : (SurfaceId → Bool) → ℕ → Submission → Bool
comes met tick s = is_waiting s && (list_all met (dependencies_of s) || nat_le s.due tick)

-- a submission waits on
abbrev pub stays : (SurfaceId → Bool) → ℕ → Submission → Bool
stays met tick s = is_waiting s && not (list_all met (dependencies_of s) || nat_le s.due tick)

-- these are what is blocked and the deadlines of those that wait on
pub record Stand (met : SurfaceId → Bool) (tick : ℕ) (subs : List Submission) (bs : List Blocked) (ds : List Due) : Type 0 where
  pub blocked : bs ≡ map (blocked_of met) (filter (stays met tick) subs)
  pub due : ds ≡ map due_of (filter (stays met tick) subs)

lacks_too : (a m d : Bool) → (not (a && (m || d)) && (a && not m)) ≡ (a && not (m || d))
lacks_too a m d = grind (arith, nat_tests)

waits_too : (a m d : Bool) → (a && not (a && (m || d))) ≡ (a && not (m || d))
waits_too a m d = grind (arith, nat_tests)

pub blocked_stand : (w : World) → blocked_by (is_met w) (filter (λ s. not (is_ready w s)) w.subs) ≡ map (blocked_of (is_met w)) (filter (stays (is_met w) w.tick) w.subs)
unfolding blocked_by is_ready has_come
blocked_stand w = grind (arith, nat_tests, filter_twice, lacks_too)

pub due_stand : (w : World) → map due_of (filter (λ s. is_waiting s && not (is_ready w s)) w.subs) ≡ map due_of (filter (stays (is_met w) w.tick) w.subs)
unfolding is_ready has_come
due_stand w = (λ i. map due_of (filter (λ s. waits_too (is_waiting s) (list_all (is_met w) (dependencies_of s)) (nat_le s.due w.tick) i) w.subs))

pub stand_of : (w : World) (a : Waits) → AreWaiting w a → Stand (is_met w) w.tick w.subs a.blocked a.due
stand_of w a h = record { blocked = h.blocked ∙ blocked_stand w; due = h.due ∙ due_stand w }

pub waiting_from : (w : World) (a : Waits) → Stand (is_met w) w.tick w.subs a.blocked a.due → AreWaiting w a
waiting_from w a h = record { blocked = h.blocked ∙ sym (blocked_stand w); due = h.due ∙ sym (due_stand w) }

pub ready_comes : (w : World) → ready w ≡ filter (comes (is_met w) w.tick) w.subs
unfolding ready is_ready has_come
ready_comes w = refl

-- they stand where the same is met at the same tick
pub stand_alike : (met then : SurfaceId → Bool) (tick later : ℕ) (subs more : List Submission) (bs : List Blocked) (ds : List Due) → then ≡ met → later ≡ tick → more ≡ subs
    → Stand met tick subs bs ds → Stand then later more bs ds
stand_alike met then tick later subs more bs ds e f g h = grind (arith, nat_tests)

pub as_many : (w : World) (a : Waits) → AreWaiting w a → length a.blocked ≡ length a.due
as_many w a h = grind (arith, nat_tests, stand_of w a h, length-map)

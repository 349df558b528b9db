-- Those that wait where more dependencies are met.
use Rattle.std.proofs.Common.{◌≡◌, ℕ, Bool, true, not, ◌&&◌, ◌||◌, List, [], ◌∷◌, map, filter, refl, ap, ◌∙◌, arith}
use Rattle.std.specs.{Prelude.nat_le, List.list_all}
use Rattle.vz_ids.specs.declared.SurfaceId.{SurfaceId}
use Rattle.vz_rules.specs.World.{Submission, is_waiting, sub_of}
use Rattle.vz_deps.specs.{Tracking.freed, Tracking.still, Blocking.dependencies_of, Blocking.lacks_in, Blocking.blocked_of, Blocking.blocked_by}
use Rattle.vz_deps.proofs.Rounds.{frees_more, still_more}
use Rattle.vz_deadlines.specs.Timing.{due_of}
use Rattle.vz_surface_manager.specs.Left_out.{due_without}
use Rattle.vz_rules.proofs.Kept_singly.{Apart}
use Rattle.vz_surface_manager.proofs.{Filtered.named_is, Filtered.filter_twice, Waits_on.comes, Waits_on.stays, Dropped_waits.due_less}
use Rattle.std.proofs.lemmas.Bool.Decides.{nat_tests}

-- in the tests: it waits, what it depends on was met, is met now, and its deadline has come

freed_too : (a m n d : Bool) → (not (a && (m || d)) && ((a && not m) && n)) ≡ (not (a && (m || d)) && (a && (n || d)))
freed_too a m n d = grind (arith, nat_tests)

left_too : (a m n d : Bool) → (m ≡ true → n ≡ true) → (not (a && (m || d)) && (a && not n)) ≡ (a && not (n || d))
left_too a m n d h = grind (arith, nat_tests)

due_too : (a m n d : Bool) → (m ≡ true → n ≡ true) → ((a && not (m || d)) && not (not (a && (m || d)) && (a && (n || d)))) ≡ (a && not (n || d))
due_too a m n d h = grind (arith, nat_tests)

module _ (met more : SurfaceId → Bool) (tick : ℕ) (subs : List Submission) where
  -- what is met then
  abbrev pub met_then : SurfaceId → Bool
  met_then d = met d || more d

  -- a submission becomes active by what is met more
  abbrev pub rises : Submission → Bool
  rises s = not (comes met tick s) && comes met_then tick s

  pub all_then : (ds : List SurfaceId) → list_all met ds ≡ true → list_all met_then ds ≡ true
  all_then [] e = refl
  all_then (d ∷ ds) e = grind (arith, nat_tests, all_then ds)

  pub frees : freed more (blocked_by met (filter (λ s. not (comes met tick s)) subs)) ≡ map sub_of (filter rises subs)
  frees = grind (arith, nat_tests, frees_more met more, comes met tick, filter_twice, freed_too)

  pub leaves : still more (blocked_by met (filter (λ s. not (comes met tick s)) subs)) ≡ map (blocked_of met_then) (filter (stays met_then tick) subs)
  unfolding blocked_by
  leaves =
      still_more met more (filter (λ s. not (comes met tick s)) subs)
      ∙ ap (map (blocked_of met_then)) (filter_twice (lacks_in met_then) (λ s. not (comes met tick s)) subs
      ∙ (λ i. filter (λ s. left_too (is_waiting s) (list_all met (dependencies_of s)) (list_all met_then (dependencies_of s)) (nat_le s.due tick) (all_then (dependencies_of s)) i) subs))

  pub clears : Apart subs → due_without (map sub_of (filter rises subs)) (map due_of (filter (stays met tick) subs)) ≡ map due_of (filter (stays met_then tick) subs)
  clears names =
      due_less (stays met tick) (stays met_then tick) (map sub_of (filter rises subs)) subs (λ s c.
      ap (λ (t : Bool). stays met tick s && not t) (named_is rises subs s names c)
      ∙ due_too (is_waiting s) (list_all met (dependencies_of s)) (list_all met_then (dependencies_of s)) (nat_le s.due tick) (all_then (dependencies_of s)))

-- The feedback that is owed in the machine's state.
use Rattle.std.specs.Prelude.{◌≡◌, ℕ, Bool, true, not, ◌&&◌, ◌==◌, Option, Some, is_some, is_none, List, [], slice_get, length, find, count_by, if◌then◌else◌}
use Rattle.std.specs.Option.{option_map, option_and_then}
use Rattle.std.specs.List.{Contains}
use Rattle.std.specs.Map.{lookup}
use Rattle.vz_ids.specs.declared.SurfaceId.{SurfaceId}
use Rattle.vz_ids.specs.declared.Sub.{Sub}
use Rattle.vz_ids.specs.Ids.{same_sub}
use Rattle.vz_rules.specs.declared.entry.Fed.{Fed}
use Rattle.vz_rules.specs.World.{World, Submission, is_waiting, is_active, is_on, is_in_flight, sub_of}
use Rattle.vz_rules.specs.Returns.{feedback_of}
use Rattle.vz_returns.specs.declared.ended.Ended.{Ended}
use Rattle.vz_returns.specs.declared.due.Due.{Due}

-- the feedback that is owed: the submissions that await it, by client and ordinal, each with its
-- place in the order of acceptance, from 0; the feedback that is given at the end of the step, in
-- any order; and how many submissions were accepted
pub record Owed : Type 0 where
  pub unfed : List Sub
  pub places : List (Sub × ℕ)
  pub due : List Due
  pub accepted : ℕ

-- the same, with reserved room for later submissions
pub record OwedAndRoom : Type 0 where
  pub owed : Owed
  pub spare : ℕ

-- the place of a submission that awaits feedback
abbrev pub place_of : Owed → Sub → Option ℕ
place_of f t = lookup (same_sub t) f.places

-- the submission has no feedback and gets none now
abbrev pub awaits : (Submission → Option Fed) → Submission → Bool
awaits gets s = not s.fed && is_none (gets s)

-- the feedback that the submission at a place gets now
abbrev pub gets_at : (Submission → Option Fed) → List Submission → ℕ → Option Fed
gets_at gets subs n = option_and_then gets (slice_get subs n)

-- this is the feedback owed to these submissions: exactly the submissions that await feedback have
-- places, each its own; and what is due is the feedback that submissions get now, once each
pub record Owes (gets : Submission → Option Fed) (subs : List Submission) (f : Owed) : Type 0 where
  pub accepted : f.accepted ≡ length subs
  pub places : (n : ℕ) (s : Submission) → slice_get subs n ≡ Some s → awaits gets s ≡ true → place_of f (sub_of s) ≡ Some n
  pub only : (t : Sub) (n : ℕ) → place_of f t ≡ Some n → (s : Submission) × (slice_get subs n ≡ Some s) × (sub_of s ≡ t) × (awaits gets s ≡ true)
  pub due : (d : Due) → Contains f.due d → gets_at gets subs d.place ≡ Some d.fed
  pub once : (n : ℕ) → count_by (λ d. d.place == n) f.due ≡ (if is_some (gets_at gets subs n) then 1 else 0)

-- this is the feedback owed to the submissions of a state, if none is presented now
abbrev pub AreOwed : World → Owed → Type 0
AreOwed w f = Owes (feedback_of w []) w.subs f

-- a submission that ends, and whether it is in flight
abbrev pub ended_of : World → Sub → Ended
ended_of w t = record { sub = t; in_flight = is_in_flight w.in_flight t }

-- the waiting submission on a surface, if there is one
abbrev pub waiting_on : World → SurfaceId → Option Sub
waiting_on w id = option_map (λ (s : Submission). sub_of s) (find (λ s. is_waiting s && is_on id s) w.subs)

-- the active submission on a surface, if there is one
abbrev pub active_on : World → SurfaceId → Option Sub
active_on w id = option_map (λ (s : Submission). sub_of s) (find (λ s. is_active s && is_on id s) w.subs)

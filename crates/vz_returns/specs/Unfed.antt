-- Submissions that await feedback.
use Rattle.std.specs.Prelude.{◌≡◌, ℕ, Bool, true, not, ◌&&◌, ◌||◌, ◌==◌, nat_lt, List, [], ◌∷◌, filter, count_by, insert, if◌then◌else◌}
use Rattle.std.specs.List.{list_any, list_all}
use Rattle.vz_ids.specs.declared.Sub.{Sub}
use Rattle.vz_ids.specs.Ids.{same_sub}
use Rattle.vz_rules.specs.World.{Submission, sub_of}

-- the submissions that await feedback, by client and ordinal; each of them with its place in the
-- order of acceptance; and reserved room
pub record Unfed : Type 0 where
  pub list : List Sub
  pub places : List (Sub × ℕ)
  pub spare : ℕ

-- one submission comes before another, by client and ordinal
abbrev pub before : Sub → Sub → Bool
before a b = nat_lt a.client b.client || ((a.client == b.client) && nat_lt a.ordinal b.ordinal)

-- each submission comes before those that follow it
unfoldable pub in_order : List Sub → Bool
in_order [] = true
in_order (s ∷ list) = list_all (before s) list && in_order list

-- the submission awaits feedback
abbrev pub is_open : List Sub → Sub → Bool
is_open list s = list_any (λ t. same_sub t s) list

-- how many submissions come before this one
abbrev pub place_in : List Sub → Sub → ℕ
place_in list s = count_by (λ t. before t s) list

-- one more submission awaits feedback, at its place in the order
abbrev pub opened : Sub → List Sub → List Sub
opened s list = insert list (place_in list s) s

-- the submissions that have places, each once, by client and ordinal
unfoldable pub sorted_subs : List (Sub × ℕ) → List Sub
sorted_subs [] = []
sorted_subs (e ∷ places) = if is_open (sorted_subs places) e.0 then sorted_subs places else opened e.0 (sorted_subs places)

-- a submission got its feedback
abbrev pub fed : Sub → List Sub → List Sub
fed s list = filter (λ t. not (same_sub t s)) list

-- these are the submissions of the machine's state that have no feedback
abbrev pub AreUnfed : List Submission → List Sub → Type 0
AreUnfed subs list = (t : Sub) → is_open list t ≡ list_any (λ s. not s.fed && same_sub (sub_of s) t) subs

-- the submission is marked as having got its feedback
abbrev pub mark_of : Sub → Submission → Submission
mark_of f s = if same_sub (sub_of s) f then record s { fed = true } else s

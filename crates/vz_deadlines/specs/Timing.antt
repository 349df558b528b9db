-- Submissions that wait until a tick.
use Rattle.std.specs.Prelude.{ℕ, Bool, not, nat_le, List, map, filter}
use Rattle.std.specs.List.{list_any}
use Rattle.vz_ids.specs.declared.Sub.{Sub}
use Rattle.vz_ids.specs.Ids.{same_sub}
use Rattle.vz_rules.specs.World.{World, Submission, is_waiting, sub_of}
use Rattle.vz_deadlines.specs.declared.due.Due.{Due}

-- the waiting submissions, in the order in which their deadlines were set, with reserved room
pub record Timed : Type 0 where
  pub list : List Due
  pub spare : ℕ

-- a submission waits
unfoldable pub waits : List Due → Sub → Bool
waits list s = list_any (λ d. same_sub d.sub s) list

-- all except this submission
unfoldable pub without : Sub → List Due → List Due
without s list = filter (λ d. not (same_sub d.sub s)) list

-- the submissions whose tick has come
unfoldable pub due_at : ℕ → List Due → List Sub
due_at tick list = map (λ d. d.sub) (filter (λ d. nat_le d.tick tick) list)

-- the submissions whose tick has not come
unfoldable pub left_at : ℕ → List Due → List Due
left_at tick list = filter (λ d. not (nat_le d.tick tick)) list

-- a submission with its deadline
abbrev pub due_of : Submission → Due
due_of s = record { sub = sub_of s; tick = s.due }

-- the waiting submissions of a state, with their deadlines
unfoldable pub waiting_in : World → List Due
waiting_in w = map due_of (filter is_waiting w.subs)

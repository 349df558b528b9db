-- Counts of references compared with the machine's state, and the releases of a step.
use Rattle.std.specs.Prelude.{◌≡◌, ℕ, ◌+◌, ◌-◌, Bool, true, ◌&&◌, ◌||◌, ◌==◌, nat_lt, nat_le, Some, None, List, [], ◌∷◌, ◌++◌, count_by, option_to_list, IsTrue}
use Rattle.std.specs.List.{list_all}
use Rattle.vz_rules.specs.World.{World, Submission, Client, Resource, resource_in, exists, is_waiting, is_active, is_in_flight, sub_of}
use Rattle.vz_rules.specs.Kept.{borrows}
use Rattle.vz_rules.specs.declared.entry.Returned.{Returned}
use Rattle.vz_returns.specs.Held.{Counted, Holding, received_of, alive_of, is_rising, return_at, released}

-- a submission holds its resources on its surface: it is waiting or active, and the surface exists
abbrev pub holds_there : World → Submission → Bool
holds_there w s = (is_waiting s || is_active s) && exists w s.submitted.id

-- a submission holds its resources in the drawn frame: it is in flight
abbrev pub holds_in_flight : World → Submission → Bool
holds_in_flight w s = is_in_flight w.in_flight (sub_of s)

-- how many references of a client's resource are alive: one for each submission that holds it on
-- its surface, and one more for each that holds it in the drawn frame
unfoldable pub alive_in : World → ℕ → ℕ → ℕ
alive_in w c id = count_by (λ s. borrows c id s && holds_there w s) w.subs + count_by (λ s. borrows c id s && holds_in_flight w s) w.subs

-- the references of a resource that are lent and not queued
unfoldable pub out_in : List Resource → ℕ → ℕ
out_in resources id = elim (resource_in id resources) [ Some r ↦ r.lent - r.queued | None ↦ 0 ]

-- how often a resource is in a list
abbrev pub times : ℕ → List ℕ → ℕ
times id ids = count_by (λ n. n == id) ids

-- the ids never fall
unfoldable pub is_sorted : List ℕ → Bool
is_sorted [] = true
is_sorted (id ∷ ids) = list_all (nat_le id) ids && is_sorted ids

-- each resource has received references, and some that are alive
unfoldable pub are_some : List Counted → Bool
are_some list = list_all (λ c. nat_lt 0 c.received && nat_lt 0 c.alive) list

-- what a client lent represents its part of a state, once the listed references are released
pub record AreCounts (w : World) (c : Client) (h : Holding) (ids : List ℕ) : Type 0 where
  pub client : h.client ≡ c.number
  pub rising : IsTrue (is_rising h.counted)
  pub some : IsTrue (are_some h.counted)
  pub received : (id : ℕ) → received_of id h.counted ≡ out_in c.resources id
  pub alive : (id : ℕ) → alive_of id h.counted ≡ alive_in w c.number id + times id ids
  pub queue : h.queue ≡ c.queue

-- each reference in the list is released
abbrev pub release_all : List ℕ → Holding → Holding
release_all [] h = h
release_all (id ∷ ids) h = release_all ids (released id h)

-- the returns that these releases give
abbrev pub returns_in : List ℕ → Holding → List Returned
returns_in [] h = []
returns_in (id ∷ ids) h = option_to_list (return_at id h) ++ returns_in ids (released id h)

-- The references that a client lent, and which of them go back.
use Rattle.std.specs.Prelude.{ℕ, ◌+◌, ◌-◌, Bool, true, not, ◌&&◌, ◌||◌, ◌==◌, nat_lt, nat_le, Option, Some, None, List, [], ◌∷◌, ◌++◌}
use Rattle.std.specs.Prelude.{map, filter, find, option_to_list, if◌then◌else◌}
use Rattle.std.specs.List.{list_any, list_all}
use Rattle.vz_rules.specs.declared.entry.Returned.{Returned}

-- a resource: how many references were received since it last went back, and how many are alive
pub record Counted : Type 0 where
  pub id : ℕ
  pub received : ℕ
  pub alive : ℕ

-- what a client lent: the resources with a reference alive, by rising id, and the returns in the
-- queue
pub record Holding : Type 0 where
  pub client : ℕ
  pub counted : List Counted
  pub queue : List Returned

-- the same, with reserved room
pub record Held : Type 0 where
  pub holding : Holding
  pub spare : ℕ

-- counts of resources, with reserved room
pub record Counting : Type 0 where
  pub list : List Counted
  pub spare : ℕ

-- the greatest number of references of a resource that is counted
abbrev pub MOST_REFERENCES : ℕ
MOST_REFERENCES = 4294967295

-- the counts of a resource, if one of its references is alive
abbrev pub counted_at : ℕ → List Counted → Option Counted
counted_at id list = find (λ c. c.id == id) list

-- how many references of a resource were received since it last went back
unfoldable pub received_of : ℕ → List Counted → ℕ
received_of id list = elim (counted_at id list) [ Some c ↦ c.received | None ↦ 0 ]

-- how many references of a resource are alive
unfoldable pub alive_of : ℕ → List Counted → ℕ
alive_of id list = elim (counted_at id list) [ Some c ↦ c.alive | None ↦ 0 ]

-- the ids rise
unfoldable pub is_rising : List Counted → Bool
is_rising [] = true
is_rising (c ∷ list) = list_all (λ x. nat_lt c.id x.id) list && is_rising list

-- counts are put at their place by id, and replace others of that id
unfoldable pub put_in : Counted → List Counted → List Counted
put_in c [] = c ∷ []
put_in c (x ∷ list) =
    if c.id == x.id then c ∷ list
    else (if nat_lt c.id x.id then c ∷ x ∷ list else x ∷ put_in c list)

-- all except this resource
unfoldable pub without : ℕ → List Counted → List Counted
without id list = filter (λ c. not (c.id == id)) list

-- the counts of this id and of greater ones
unfoldable pub from_on : ℕ → List Counted → List Counted
from_on n list = filter (λ c. nat_le n c.id) list

-- the least id that is this one or greater, with the references received
unfoldable pub first_from : ℕ → List Counted → Option (ℕ × ℕ)
first_from n [] = None
first_from n (c ∷ list) = if nat_le n c.id then Some (c.id, c.received) else first_from n list

-- the lesser of two ids that are this one or greater: the least one so far, and one more
abbrev pub nearer : ℕ → Option (ℕ × ℕ) → ℕ → ℕ → Option (ℕ × ℕ)
nearer n least id received =
    if nat_le n id then elim least [ Some p ↦ if nat_le id p.0 then Some (id, received) else Some p | None ↦ Some (id, received) ]
    else least

-- the counts as returns to a client
unfoldable pub as_returns : ℕ → List Counted → List Returned
as_returns client list = map (λ c. record { client = client; id = c.id; count = c.received }) list

-- one more reference of a resource is received, and is alive
abbrev pub lent : ℕ → Holding → Holding
lent id h = record h { counted = put_in (record { id = id; received = received_of id h.counted + 1; alive = alive_of id h.counted + 1 }) h.counted }

-- one more reference of a resource is alive
abbrev pub shared : ℕ → Holding → Holding
shared id h = record h { counted = put_in (record { id = id; received = received_of id h.counted; alive = alive_of id h.counted + 1 }) h.counted }

-- exactly one reference is alive
abbrev pub is_last : ℕ → Holding → Bool
is_last id h = alive_of id h.counted == 1

-- what goes back if a reference is released: all received references if it was the last one alive,
-- and otherwise nothing
abbrev pub return_at : ℕ → Holding → Option Returned
return_at id h = if is_last id h then Some (record { client = h.client; id = id; count = received_of id h.counted }) else None

-- one reference less is alive, and what goes back is appended to the queue
abbrev pub released : ℕ → Holding → Holding
released id h =
    record h {
      counted = if is_last id h then without id h.counted
          else put_in (record { id = id; received = received_of id h.counted; alive = alive_of id h.counted - 1 }) h.counted;
      queue = h.queue ++ option_to_list (return_at id h);
    }

-- the queue is taken
abbrev pub taken : Holding → Holding
taken h = record h { queue = [] }

-- the client lent references of the resource and did not take them all back: one is alive, or a
-- return of it is in the queue
abbrev pub in_use : ℕ → Holding → Bool
in_use id h = nat_lt 0 (alive_of id h.counted) || list_any (λ r. r.id == id) h.queue

-- each resource with a reference alive, by rising id, with all received references
abbrev pub held : Holding → List Returned
held h = as_returns h.client h.counted

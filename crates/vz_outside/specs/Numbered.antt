-- Calls that are numbered from 1, some of which fail.
use Rattle.std.specs.Prelude.{ℕ, ◌==◌, nat_lt, Bool, ◌&&◌, List}
use Rattle.std.specs.List.{list_any, list_all}
use Rattle.vz_outside.specs.Faults.{greatest_count, one_more}

-- what is known of the calls of a device
pub record Numbered : Type 0 where
  -- the numbers of the calls that fail
  pub failing : List ℕ
  -- the number of the next call
  pub next : ℕ
  -- how many faults there were
  pub faults : ℕ

-- no call was made yet, and the calls with these numbers will fail
abbrev pub numbered_from_1 : List ℕ → Numbered
numbered_from_1 failing = record { failing = failing; next = 1; faults = 0 }

-- the state after one more call
abbrev pub after_one_call : Numbered → Numbered
after_one_call calls = record calls { next = one_more calls.next }

-- the state after one more call, which failed
abbrev pub after_one_fault : Numbered → Numbered
after_one_fault calls = record calls { next = one_more calls.next; faults = one_more calls.faults }

-- the next call is one of those that fail
abbrev pub is_failing : Numbered → Bool
is_failing calls = list_any (λ n. n == calls.next) calls.failing

-- no later call is one of those that fail, and the count of faults is not at its greatest value
abbrev pub is_faultless : Numbered → Bool
is_faultless calls = list_all (λ n. nat_lt n calls.next) calls.failing && nat_lt calls.faults greatest_count

-- Blocked submissions and their numbers.
use Rattle.std.specs.Prelude.{◌≡◌, ℕ, ◌-◌, ◌<◌, min, nat_eq, Some, List, []}
use Rattle.std.specs.Map.{lookup}
use Rattle.indexmap.specs.IndexMap.{IndexMap, spare}
use Rattle.vz_ids.specs.declared.Sub.{Sub}
use Rattle.vz_ids.specs.Ids.{same_sub}
use Rattle.vz_deps.specs.declared.lacks.Lacks.{Lacks}
use Rattle.vz_deps.specs.Lacking.{IsKept, HasCounts, room_of}

-- the two maps agree: a submission has a number exactly if that number has the submission
pub record IsNumbered (subs : List (ℕ × Sub)) (numbers : List (Sub × ℕ)) : Type 0 where
  pub of_sub : (s : Sub) (o : ℕ) → lookup (same_sub s) numbers ≡ Some o → lookup (nat_eq o) subs ≡ Some s
  pub of_number : (o : ℕ) (s : Sub) → lookup (nat_eq o) subs ≡ Some s → lookup (same_sub s) numbers ≡ Some o

-- the bound of the numbers of submissions: each number is below it
abbrev pub LAST_NUMBER : ℕ
LAST_NUMBER = 18446744073709551615

-- for how many more submissions there is room, if this is the next number
abbrev pub room_for : {S T : Type 0} → IndexMap ℕ Sub S → IndexMap Sub ℕ T → Lacks → ℕ → ℕ
room_for subs numbers lacks next = min (spare subs) (min (spare numbers) (min (room_of lacks) (LAST_NUMBER - next)))

-- each blocked submission has a number below the next one and a count of its unmet dependencies,
-- and each lacks something
pub record IsTracked (subs : List (ℕ × Sub)) (numbers : List (Sub × ℕ)) (lacks : Lacks) (next : ℕ) : Type 0 where
  pub kept : IsKept lacks
  pub none : lacks.freed.items ≡ []
  pub counts : HasCounts lacks subs
  pub numbered : IsNumbered subs numbers
  pub later : (o : ℕ) (s : Sub) → lookup (nat_eq o) subs ≡ Some s → o < next

-- How many returns and how much feedback may still come.
use Rattle.std.specs.Prelude.{◌≡◌, ◌+◌, ◌++◌, ℕ, Bool, nat_lt, not, List, count_by, length}
use Rattle.std.specs.List.{sum_by}
use Rattle.vz_frame.specs.Roomy.{Roomy}
use Rattle.vz_rules.specs.World.{Client, Resource, Submission}

-- more references of a resource were lent than queued
abbrev pub is_out : Resource → Bool
is_out r = nat_lt r.queued r.lent

-- how many resources have outstanding references
unfoldable pub outs : List Resource → ℕ
outs resources = count_by is_out resources

-- how many resources of all clients have outstanding references
unfoldable pub all_outs : List Client → ℕ
all_outs clients = sum_by (λ c. outs c.resources) clients

-- how many submissions have no feedback
unfoldable pub unfed : List Submission → ℕ
unfed subs = count_by (λ s. not s.fed) subs

-- the list after more was put into its spare places
pub record IsPutInto {A : Type 0} (old new : Roomy A) (more : List A) : Type 0 where
  pub list : new.list ≡ old.list ++ more
  pub spare : old.spare ≡ new.spare + length more

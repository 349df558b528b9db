-- What a command reads that takes the clients' files alone, and the plan that they make.
use Rattle.std.specs.Prelude.{◌≡◌, ℕ, Some, None, List}
use Rattle.vz_base.specs.declared.limits.TheConstants.{MOST_FILE_BYTES}
use Rattle.vz_geom.specs.declared.Size.{Size}
use Rattle.viz_run.specs.Read.{AreReadUpto}
use Rattle.viz_run.specs.Refusals.{file_refused, plan_read}
use Rattle.viz_run.specs.declared.refused.Refused.{Refused}
use Rattle.vz_outside.specs.Shelved.{Shelved}
use Rattle.vz_rules.specs.Command.{Word}
use Rattle.vz_rules.specs.Plan.{Plan}

-- the clients' files have these bytes, none is refused, and they make this plan for a display of
-- this size
pub record ArePlanned (shelf : Shelved) (size : Size) (names : List Word) (files : List (List ℕ)) (p : Plan) : Type 0 where
  pub read : AreReadUpto MOST_FILE_BYTES names files shelf
  pub good : file_refused files ≡ None
  pub plan : p ≡ plan_read size files

-- the clients' files have these bytes, and this is the first of them that is refused
pub record AreUnplanned (shelf : Shelved) (names : List Word) (files : List (List ℕ)) (r : Refused) : Type 0 where
  pub read : AreReadUpto MOST_FILE_BYTES names files shelf
  pub first : file_refused files ≡ Some r

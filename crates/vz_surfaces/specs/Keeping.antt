-- What always holds of the surfaces and submissions of a store.
use Rattle.std.specs.Prelude.{List}
use Rattle.std.specs.List.{Contains}
use Rattle.vz_rules.specs.World.{Client, Submission}
use Rattle.vz_rules.specs.Kept.{KeepsClients, KeepsSurfaces, KeepsNumbers, KeepsStates, FewAreCreated, IsWhole}
use Rattle.vz_surfaces.specs.Stored.{Stored}

-- there are clients with one sink each, whose surfaces are numbered and each raised above the
-- client's earlier ones; submissions are numbered, and each client has at least as many as
-- surfaces; and a surface has at most one waiting and one active submission, and exists if it has
-- one
pub record KeepsStored (st : Stored) : Type 0 where
  pub clients : List Client
  pub sinks : KeepsClients clients
  pub surfaces : KeepsSurfaces clients st.surfaces
  pub numbers : KeepsNumbers st.surfaces st.subs
  pub few_created : FewAreCreated st.surfaces st.subs
  pub states : KeepsStates st.surfaces st.subs

-- accepted frames fit a message file and break no rule, and each of their listings has its block
abbrev pub KeepsFrames : Stored → Type 0
KeepsFrames st = (s : Submission) → Contains st.subs s → IsWhole s.submitted

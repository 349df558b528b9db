-- The state of the plain machine, and the room that it keeps.
use Rattle.std.specs.Prelude.{◌≡◌, ◌≤◌, Bool, true, is_some, []}
use Rattle.vz_frame.specs.Roomy.{Roomy}
use Rattle.vz_rules.specs.Plan.{Plan, IsPlan}
use Rattle.vz_rules.specs.World.{World, opening}
use Rattle.vz_rules.specs.Kept.{Keeps, KeepsPlan, KeepsMessages}
use Rattle.vz_rules.specs.Step.{Outcome}
use Rattle.vz_rules.specs.declared.entry.Effects.{Effects}
use Rattle.vz_rules.specs.declared.entry.Reply.{Reply}
use Rattle.vz_rules.specs.declared.entry.Returned.{Returned}
use Rattle.vz_rules.specs.declared.entry.Fed.{Fed}
use Rattle.vz_slow.specs.declared.slow.Stage.{Stage}
use Rattle.vz_slow.specs.declared.slow.Stage.TheVariants as stage
use Rattle.vz_state.specs.Outs.{all_outs, unfed}

-- the world of a stage: the opening one, in which begin-frames have ended or not, or another one
abbrev pub world_at : Plan → Stage → World
world_at p (stage.Opening over) = record (opening p) { over = over }
world_at p (stage.Running w) = w

-- the world is one that a plan can lead to: everything that is kept between steps holds
pub record IsReached (p : Plan) (w : World) : Type 0 where
  pub plan : IsPlan p
  pub keeps : Keeps w
  pub keeps_plan : KeepsPlan p w
  pub keeps_messages : KeepsMessages w

-- there is room for all outstanding references and all outstanding feedback, and a place for the
-- effects
pub record IsRoom (w : World) (r : Roomy Returned) (f : Roomy Fed) (e : Bool) : Type 0 where
  pub returned : all_outs w.clients ≤ r.spare
  pub fed : unfed w.subs ≤ f.spare
  pub effects : e ≡ true

-- the same while a frame is in flight; and the lists are empty
pub record HasRoom (w : World) (r : Roomy Returned) (f : Roomy Fed) (e : Bool) : Type 0 where
  pub room : is_some w.in_flight ≡ true → IsRoom w r f e
  pub no_returned : r.list ≡ []
  pub no_fed : f.list ≡ []

-- what always holds of the plain machine
pub record IsSlow (p : Plan) (w : World) (r : Roomy Returned) (f : Roomy Fed) (e : Bool) : Type 0 where
  pub reached : IsReached p w
  pub has_room : HasRoom w r f e

-- the reply, the effects and the world are those of the outcome
abbrev pub IsOutcome : Outcome → Reply × Effects → World → Type 0
IsOutcome o answer w = record { reply = answer.0; effects = answer.1; world = w } ≡ o

-- What is hit at a point after the events of a schedule, and what C is told of it.
use Rattle.std.specs.Prelude.{◌≡◌, ◌/◌, ◌%◌, ℕ, Some, None, Result, Ok, Err, List}
use Rattle.vz_geom.specs.declared.Point.{Point}
use Rattle.vz_geom.specs.declared.Size.{Size}
use Rattle.vz_ids.specs.declared.SurfaceId.{SurfaceId}
use Rattle.vz_rules.specs.declared.entry.Entry.{Entry}
use Rattle.vz_rules.specs.declared.entry.Event.{Event}
use Rattle.vz_rules.specs.Hit.{Target as Hit}
use Rattle.vz_rules.specs.Plan.{Plan}
use Rattle.vz_rules.specs.Whole.{hit_last}
use Rattle.viz_run.specs.Refusals.{plan_read}
use Rattle.viz_run.specs.Schedule.{events_of}
use Rattle.viz_run.specs.declared.refused.InputError.{InputError}
use Rattle.viz_c.specs.Calls.{schedule_refused_of}
use Rattle.viz_c.specs.Numbers.{IsErrorTold}
use Rattle.viz_c.specs.Stepping.{IsHistory}
use Rattle.viz_c.specs.declared.answer.Cause.{Cause}
use Rattle.viz_c.specs.Answers.{DONE, NOTHING}
use Rattle.viz_c.specs.declared.hit.Target.{Target}

-- this is hit at a point of the last drawing of a history of these events
abbrev pub IsHitIn : Plan → List Event → Point → Hit → Type 0
IsHitIn p events point hit = (h : List Entry) × IsHistory p events h × (hit ≡ hit_last p h point)

-- none of the files and of the schedule is refused, and this is hit at a point after the schedule's
-- events with the plan of the files
abbrev pub Hits : Size → List (List ℕ) → List ℕ → Point → Hit → Type 0
Hits size files schedule point hit =
    (schedule_refused_of size files schedule ≡ None) × IsHitIn (plan_read size files) (events_of schedule) point hit

-- a surface and a point in it, as C sees them
abbrev pub target_of : SurfaceId → Point → Target
target_of id local = record {
  client_id = id.sink.client_id;
  sink_id = id.sink.sink_id;
  parent = id.local.parent;
  child = id.local.child;
  token_low = id.local.token.0 % 18446744073709551616;
  token_high = id.local.token.0 / 18446744073709551616;
  x = local.x;
  y = local.y;
}

-- the same, of a surface and a point in it that C sees so
pub record HitsSome (size : Size) (files : List (List ℕ)) (schedule : List ℕ) (point : Point) (target : Target) : Type 0 where
  pub surface : SurfaceId
  pub local : Point
  pub hits : Hits size files schedule point (Some (surface, local))
  pub is : target ≡ target_of surface local

-- the answer for a surface that is hit or for nothing, and the target that is told
abbrev pub IsFoundTold : Hit → ℕ → Target → Type 0
IsFoundTold (Some (id, local)) code target = (code ≡ DONE) × (target ≡ target_of id local)
IsFoundTold None code target = code ≡ NOTHING

-- the answer for what is hit, or for inputs that are not accepted
abbrev pub IsHitTold : Result Hit InputError → ℕ → Target → Cause → Type 0
IsHitTold (Ok hit) code target cause = IsFoundTold hit code target
IsHitTold (Err error) code target cause = IsErrorTold error code cause

-- A machine that is given one event at a time, and what it left to tell.
use Rattle.std.specs.Prelude.{◌≡◌, ℕ, Bool, true, false, Option, Some, None, length}
use Rattle.std.specs.Prelude.{IfSome}
use Rattle.vz_geom.specs.declared.Size.{Size}
use Rattle.vz_geom.specs.Display.{IsDisplaySize}
use Rattle.vz_frame.specs.Fits.{within}
use Rattle.vz_machine.specs.Pictured.{colours_in}
use Rattle.vz_machine.specs.Stepping.{Goes, IsPictureOf}
use Rattle.vz_occlude.specs.Pictures.{Flattened, flat_picture}
use Rattle.vz_rules.specs.declared.entry.Entry.{Entry}
use Rattle.vz_rules.specs.declared.entry.Event.{Event}
use Rattle.vz_rules.specs.declared.entry.Event.TheVariants as event
use Rattle.vz_rules.specs.declared.entry.Reply.{Reply}
use Rattle.vz_rules.specs.declared.entry.Reply.TheVariants.{Drawn}
use Rattle.vz_rules.specs.Plan.{Plan}
use Rattle.vz_rules.specs.Scene.{scene_of}
use Rattle.vz_rules.specs.Step.{entry_in}
use Rattle.vz_rules.specs.World.{Machine, Scene, opening}
use Rattle.viz_c.specs.declared.shot.Shot.{Shot}
use Rattle.viz_c.specs.declared.solo.SoloPicture.{SoloPicture}

-- a machine, the entry of its last event, and what its last drawing drew
pub record Staged : Type 0 where
  pub machine : Machine
  pub last : Option Entry
  pub picture : Option Flattened

-- what a picture draws
abbrev pub flat_of : SoloPicture → Flattened
flat_of p = p.flat

-- so many clients, and this size, are those of the plan, and what was drawn has that size
pub record IsStaged (clients : ℕ) (size : Size) (s : Staged) : Type 0 where
  pub count : clients ≡ length s.machine.plan.files
  pub same : size ≡ s.machine.plan.size
  pub sides : IsDisplaySize size
  pub drawn : IfSome s.picture (λ p. p.size ≡ size)

-- before the first event
abbrev pub first_stage : Plan → Staged
first_stage p = record { machine = record { plan = p; world = opening p }; last = None; picture = None }

-- an event is a drawing
abbrev pub draws : Event → Bool
draws event.Draw = true
draws _ = false

-- an event is the display's, or that of one of so many clients
abbrev pub is_event_of : ℕ → Event → Bool
is_event_of clients (event.Client c) = within 1 clients c
is_event_of clients _ = true

-- the newer of two pictures
abbrev pub newer : Option SoloPicture → Option SoloPicture → Option SoloPicture
newer (Some p) before = Some p
newer None before = before

-- if the answer to a drawing is Drawn, the new picture shows the scene, and its changed rectangle is
-- the damage of the answer. Otherwise the picture stays.
abbrev pub IsShown : Machine → Event → Reply → Option Flattened → Option Flattened → Type 0
IsShown m event.Draw (Drawn r) before (Some p) =
    (scene : Scene) × (scene_of m.world ≡ Some scene) × IsPictureOf m scene (flat_picture p) × (p.damage ≡ r)
IsShown m event.Draw (Drawn r) before None = ⊥
IsShown m _ _ before after = after ≡ before

-- the machine takes an event: its world is the next one, the last entry is the one that the machine
-- makes, and the picture is that of the last drawing
pub record IsNext (s : Staged) (e : Event) (t : Staged) : Type 0 where
  pub goes : Goes s.machine e t.machine
  pub entry : t.last ≡ Some (entry_in s.machine.plan s.machine.world e)
  pub shown : IsShown s.machine e (entry_in s.machine.plan s.machine.world e).reply s.picture t.picture

-- the pixels of a picture, and its changed rectangle
pub record IsShot (p : Flattened) (s : Shot) : Type 0 where
  pub pixels : s.buffer.pixels ≡ colours_in (flat_picture p)
  pub changed : s.damage ≡ p.damage

-- the same, if there is a picture
abbrev pub IsShotOf : Option Flattened → Option Shot → Type 0
IsShotOf (Some p) (Some s) = IsShot p s
IsShotOf None None = Unit {0}
IsShotOf _ _ = ⊥

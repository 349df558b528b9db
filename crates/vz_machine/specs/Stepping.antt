-- What a step of a machine returns and how it changes its world.
use Rattle.std.specs.Prelude.{◌≡◌, ℕ, Bool, false, Option, Some, None, length, IsTrue}
use Rattle.vz_geom.specs.declared.Point.{Point}
use Rattle.vz_geom.specs.Rectangle.{has, sized}
use Rattle.vz_frame.specs.declared.message.Message.{Message}
use Rattle.vz_frame.specs.declared.message.Message.TheVariants.{Submit}
use Rattle.vz_rules.specs.declared.entry.Event.{Event}
use Rattle.vz_rules.specs.declared.entry.Event.TheVariants as event
use Rattle.vz_rules.specs.declared.entry.Reply.{Reply}
use Rattle.vz_rules.specs.declared.entry.Reply.TheVariants.{Drawn}
use Rattle.vz_rules.specs.World.{Machine, Client, Scene, client_at, next_message}
use Rattle.vz_rules.specs.Scene.{scene_of}
use Rattle.vz_rules.specs.Paint.{picture}
use Rattle.vz_rules.specs.Step.{step_in, is_attached, NamesClient}
use Rattle.vz_rules.specs.Course.{waits, is_idle, has_answered}
use Rattle.vz_machine.specs.Pictured.{Pictured, colours_in}
use Rattle.vz_machine.specs.declared.machine.Step.{Step}

-- the plan has a client with this number
abbrev pub HasClient : Machine → ℕ → Type 0
HasClient m c = NamesClient m.plan (event.Client c)

-- a point is on the display of the plan
abbrev pub IsOnDisplay : Machine → Point → Type 0
IsOnDisplay m p = IsTrue (has (sized m.plan.size) p)

-- a step returns what the definitions answer
pub record Answers (m : Machine) (e : Event) (s : Step) : Type 0 where
  pub reply : s.reply ≡ (step_in m.plan m.world e).reply
  pub effects : s.effects ≡ (step_in m.plan m.world e).effects

-- a step leads to the world of the definitions, and keeps the plan
abbrev pub Goes : Machine → Event → Machine → Type 0
Goes old e new = new ≡ record { plan = old.plan; world = (step_in old.plan old.world e).world }

-- the picture shows what the scene has at each point of the display
pub record IsPictureOf (m : Machine) (scene : Scene) (p : Pictured) : Type 0 where
  pub size : p.size ≡ m.plan.size
  pub colours : colours_in p ≡ picture m.plan.size scene

-- there is a picture exactly if something is drawn; it shows the scene, and its changed rectangle
-- is the damage
abbrev pub ShowsDrawn : Machine → Reply → Option Pictured → Type 0
ShowsDrawn m (Drawn r) (Some p) = (scene : Scene) × (scene_of m.world ≡ Some scene) × IsPictureOf m scene p × (p.changed ≡ r)
ShowsDrawn m (Drawn r) None = ⊥
ShowsDrawn m _ (Some p) = ⊥
ShowsDrawn m _ None = Unit {0}

-- a test of a client; false if there is no client with this number
abbrev pub asked : Option Client → (Client → Bool) → Bool
asked None test = false
asked (Some x) test = test x

-- the next reply to a client would be NotYet
abbrev pub waits_at : Machine → ℕ → Bool
waits_at m c = asked (client_at m.world c) (waits m.plan m.world)

-- a client is closed, has no message left, or waits
abbrev pub idle_at : Machine → ℕ → Bool
idle_at m c = asked (client_at m.world c) (is_idle m.plan m.world)

-- a client has answered the tick
abbrev pub answered_at : Machine → ℕ → Bool
answered_at m c = asked (client_at m.world c) (has_answered m.world)

-- a client is attached
abbrev pub attached_at : Machine → ℕ → Bool
attached_at m c = asked (client_at m.world c) (is_attached m.plan m.world)

-- how many resources a message's frame lists; 0 if it has no frame
abbrev pub listed_in : Option Message → ℕ
listed_in (Some (Submit frame local)) = length frame.resources
listed_in _ = 0

-- how many resources the next message of a client lists
abbrev pub listed_at : Machine → ℕ → ℕ
listed_at m c = elim (client_at m.world c) [ Some x ↦ listed_in (next_message m.plan x) | None ↦ 0 ]

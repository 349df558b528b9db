-- Messages that change their client alone.
use Rattle.std.specs.Prelude.{◌≡◌, ℕ, Option, Some, None, List}
use Rattle.vz_rules.specs.World.{World, Machine, Client}
use Rattle.vz_rules.specs.Kept.{Keeps, no_effects}
use Rattle.vz_rules.specs.Messages.{Answer, says}
use Rattle.vz_rules.specs.Step.{step_in}
use Rattle.vz_rules.specs.declared.entry.Event.TheVariants as event
use Rattle.vz_rules.specs.declared.entry.Reply.{Reply}
use Rattle.vz_state.specs.Outs.{all_outs}
use Rattle.vz_state.specs.Small.{AreSmallClients, AreNumbered, IsSmall}
use Rattle.vz_slow.specs.Drawn.{drawn_picture}
use Rattle.vz_slow.specs.Reaching.{IsOutcome}

-- a world after a change of a client alone: what is kept between steps is kept, and as much is
-- outstanding as before
pub record IsAfterQuiet (w v : World) : Type 0 where
  pub keeps : Keeps w → Keeps v
  pub outs : all_outs v.clients ≡ all_outs w.clients
  pub subs : v.subs ≡ w.subs
  pub in_flight : v.in_flight ≡ w.in_flight

-- the reply and the world are those of the answer, which changes a client alone; or nothing was done
abbrev pub IsAlone : World → Answer → Option Reply → World → Type 0
IsAlone w a None v = v ≡ w
IsAlone w a (Some r) v = (says r v ≡ a) × IsAfterQuiet w v

-- a client's step without effects; or nothing was done
abbrev pub IsQuietStep : Machine → ℕ → Option Reply → Machine → Type 0
IsQuietStep m c None n = n ≡ m
IsQuietStep m c (Some r) n = IsOutcome (step_in m.plan m.world (event.Client c)) (r, no_effects) n.world

-- a reply to a drawing that draws nothing and changes nothing
pub record IsUndrawn (m : Machine) (r : Reply) : Type 0 where
  pub outcome : IsOutcome (step_in m.plan m.world event.Draw) (r, no_effects) m.world
  pub picture : drawn_picture m.plan m.world r ≡ None

-- clients whose numbers are small, and that are numbered from 1
pub record AreOwn (clients : List Client) : Type 0 where
  pub small : AreSmallClients clients
  pub numbered : AreNumbered 1 clients

-- a world whose numbers are small, and whose clients are numbered from 1
pub record IsOwn (w : World) : Type 0 where
  pub small : IsSmall w
  pub clients : AreOwn w.clients

-- What a refused message does not change.
use Rattle.std.specs.Prelude.{◌≡◌, ℕ, if◌then◌else◌}
use Rattle.vz_rules.specs.declared.entry.Refusal.{Refusal}
use Rattle.vz_rules.specs.declared.entry.Reply.TheVariants as reply
use Rattle.vz_rules.specs.World.{World, change_client}
use Rattle.vz_rules.specs.Messages.{took}
use Rattle.vz_rules.specs.Step.{Outcome}
use Rattle.vz_rules.specs.Whole.{is_in_time}
use Rattle.vz_rules.specs.Kept.{no_effects}

-- the world after a client took a message, with nothing else changed
abbrev pub after_taking : ℕ → World → World
after_taking c w = record w { clients = change_client took c w.clients }

-- a refusal of a client's message has no effects; the world does not change, except that the
-- message is taken; after NotYet and NoMessage not even that
pub record ChangesNothing (w : World) (c : ℕ) (r : Refusal) (o : Outcome) : Type 0 where
  pub effects : o.effects ≡ no_effects
  pub world : o.world ≡ (if is_in_time (reply.Refused r) then after_taking c w else w)

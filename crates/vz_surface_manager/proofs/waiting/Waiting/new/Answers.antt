use Rattle.vz_rules.specs.World.{opening}
use Rattle.vz_deps.specs.Blocking.{blocked_by}
use Rattle.vz_surface_manager.proofs.waiting.Waiting.new.Goals as goal

pub returns : goal.returns
unfolding opening blocked_by
returns c p = record { blocked = c.new.ensures; due = c.new-2.ensures }

use Rattle.std.proofs.Common.{subst}
use Rattle.vz_player.specs.Played.{IsPlayed}
use Rattle.vz_player.proofs.Frames.{last_whole}
use Rattle.vz_player.proofs.Playing.{display_size, current_shown}
use Rattle.vz_player.proofs.player.Player.display.Goals as goal

pub returns-clause-size : goal.returns-clause-size
returns-clause-size g c =
    display_size _ c.self.inside.display.shown c.args.self.now (subst (IsPlayed (g.M.Machine.state c.self.inside.machine) c.self.inside.display.shown) c.self.view_is c.self.invariant.0) c.requires

pub returns-clause-current : goal.returns-clause-current
returns-clause-current g c earlier frame last =
    current_shown _ c.self.inside.display.shown c.args.self.now earlier frame (subst (IsPlayed (g.M.Machine.state c.self.inside.machine) c.self.inside.display.shown) c.self.view_is c.self.invariant.0) c.requires last

pub returns-clause-whole : goal.returns-clause-whole
returns-clause-whole g c earlier frame last = last_whole c.args.self.now.plan c.args.self.now.history c.args.self.now.buffers earlier frame last

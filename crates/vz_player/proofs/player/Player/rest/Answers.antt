use Rattle.std.proofs.Common.{subst}
use Rattle.vz_player.specs.Played.{IsPlayed}
use Rattle.vz_player.proofs.Playing.{rest_is}
use Rattle.vz_player.proofs.player.Player.rest.Goals as goal

pub returns : goal.returns
returns g c =
    rest_is _ c.self.inside.display.shown c.args.self.now c.in_ok-rest.field-0 (subst (IsPlayed (g.M.Machine.state c.self.inside.machine) c.self.inside.display.shown) c.self.view_is c.self.invariant.0) c.in_ok-rest.ensures

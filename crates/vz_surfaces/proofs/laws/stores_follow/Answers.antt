use Rattle.vz_surfaces.proofs.Following.{started, follows_accepted, follows_activated, follows_closed, follows_destroyed}
use Rattle.vz_surfaces.proofs.laws.stores_follow.Goals as goal

pub returns : goal.returns
returns c = record { opening = started; accepted = follows_accepted; activated = follows_activated; closed = follows_closed; destroyed = follows_destroyed }

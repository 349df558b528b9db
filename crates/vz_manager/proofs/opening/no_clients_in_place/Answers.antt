use Rattle.std.proofs.Common.{sym, subst}
use Rattle.vz_manager.specs.Unfilled.{IsUnfilled}
use Rattle.vz_manager.proofs.opening.no_clients_in_place.Goals as goal

pub returns : goal.returns
returns c = subst (IsUnfilled c.args.size c.args.clients) (sym c.in_ok-place.ensures.ok) c.in_ok-parts.ensures

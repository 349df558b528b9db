use Rattle.std.proofs.Common.{sym, subst}
use Rattle.vz_frame.specs.Pairs.{IsStrictlySorted}
use Rattle.vz_frame.proofs.Gaps.{get_at, get_in_gap}
use Rattle.vz_frame.proofs.id_map.IdMap.get.Goals as goal

-- the id is at its place, and the pair there is the one that was read
pub returns-in-Ok : goal.returns-in-Ok
returns-in-Ok c =
    let place = get_at c.args.self.now (subst IsStrictlySorted c.self.view_is c.self.invariant) c.args.id c.in-Ok.at c.in-Ok.ensures.found in
    rw (c.deref.ensures.0, c.self.view_is) (sym place)

-- the id is not there
pub returns-in-Err : goal.returns-in-Err
returns-in-Err c = sym (get_in_gap _ _ _ c.in-Err.ensures.absent)

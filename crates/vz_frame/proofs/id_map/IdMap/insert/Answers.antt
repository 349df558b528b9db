use Rattle.std.proofs.Common.{sym, ap, subst, is_none}
use Rattle.vz_frame.specs.Pairs.{IsStrictlySorted}
use Rattle.vz_frame.proofs.Gaps.{get_at, get_in_gap, gets_new}
use Rattle.vz_frame.proofs.id_map.IdMap.insert.Goals as goal

-- the id was there
pub returns-in-Ok-clause-answer : goal.returns-in-Ok-clause-answer
returns-in-Ok-clause-answer c =
    let sorted = subst IsStrictlySorted c.self.view_is c.self.invariant in
    sym (ap is_none (get_at c.args.self.now sorted c.args.id c.in-Ok.field-0 c.in-Ok.ensures.found))

-- the id was not there
pub returns-in-Err-clause-answer : goal.returns-in-Err-clause-answer
returns-in-Err-clause-answer c = sym (ap is_none (get_in_gap c.args.self.now c.args.id c.in-Err.at c.in-Err.ensures.absent))

-- the pair is added in the gap
pub returns-in-Err-clause-new : goal.returns-in-Err-clause-new
returns-in-Err-clause-new c _ = rw (c.insert.ensures.items, c.self.view_is) (gets_new c.args.self.now c.args.id c.in-Err.at c.in-Err.ensures.absent c.args.place)

use Rattle.std.proofs.Common.{rules, arith, ap, ◌∙◌}
use Rattle.vz_loans.proofs.{Ends.cuts, Begun.leaves_ready, Begun.gives_ready, Begun.holds_single, Begun.enough}
use Rattle.vz_loans.proofs.lock.Lock.give.Goals as goal

pub split_seat-requires : goal.split_seat-requires
split_seat-requires g c = let few = c.self.invariant.4 in let same = ap (λ l. l.callers) c.self.view_is in let keyed = c.self.invariant.2 in let less = c.requires.below in (
  search rules,
  search rules,
  cuts _ _ _ _ _ _ (ap (λ m. m.0.stage) c.requires.ready) (enough c.args.seat.now.me _ c.args.number c.self.inside.table.shared.key.callers c.requires.ready (omega arith) (omega arith)),
)

pub returns-clause-ready : goal.returns-clause-ready
returns-clause-ready g c = let few = c.self.invariant.4 in let same = ap (λ l. l.callers) c.self.view_is in let less = c.requires.below in
    c.split_seat.ensures.2 ∙ leaves_ready c.args.seat.now.me _ c.args.number c.requires.ready (omega arith)

pub invariant_of-result : goal.invariant_of-result
invariant_of-result g c = let few = c.self.invariant.4 in let same = ap (λ l. l.callers) c.self.view_is in let less = c.requires.below in
    holds_single _ _ c.requires.planned.0 c.args.number _ c.requires.planned.1 (c.split_seat.ensures.4 ∙ gives_ready c.args.seat.now.me _ c.args.number c.requires.ready (omega arith))

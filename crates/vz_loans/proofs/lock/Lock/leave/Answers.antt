use Rattle.std.proofs.Common.{rules, arith, ap, sym, subst, ◌∙◌}
use Rattle.vz_loans.proofs.{Held.Adds, Held.leaves, Held.left_held, Held.Left, Logs.places_none, Logs.places_one, lock.Lock.leave.Goals.After-wake_next}
use Rattle.vz_loans.proofs.lock.Lock.leave.Goals as goal
use Rattle.vz_loans.proofs.lock.Lock.leave.Given.{Over}

pub store-requires : goal.store-requires
store-requires g c = let v = c.token.view_is in let slots = c.self.invariant.1 in (
  search rules,
  search rules,
  leaves _ _ _ _ _ _ c.token.inside.number c.token.inside.ticket _ c.token.inside.seat.me _ c.args.state (omega arith) c.token.invariant (ap (λ x. x.inside) v ∙ c.requires.inside) (ap (λ x. x.plan) v ∙ c.requires.plan)
      (subst (λ x. Adds g.K.Kept.plan g.K.Kept.entries x.number x.seen c.args.state) (sym v) c.requires.entries) c.exchange.ensures.3 (search rules),
)

left : (g : Over) (c : After-wake_next g) → Left g.K.Kept.plan g.K.Kept.entries c.token.inside.number c.token.inside.ticket c.token.inside.seat.me c.store.new.seat.me c.args.state
left g c = let v = c.token.view_is in
    left_held _ _ _ _ c.token.inside.seat.me _ _ _ c.token.invariant (ap (λ x. x.inside) v ∙ c.requires.inside) (ap (λ x. x.plan) v ∙ c.requires.plan) c.exchange.ensures.3 c.store.ensures.2

pub invariant_of-token : goal.invariant_of-token
invariant_of-token g c = (left g c).held

pub returns : goal.returns
returns g c = let h = left g c in let v = c.token.view_is in record {
  same = (search rules, search rules, h.same ∙ ap (λ x. x.plan) v);
  outside = h.outside;
  seen = h.seen;
  none = λ e. places_none _ _ _ _ (ap (λ x. x.number) v) (h.seen ∙ e);
  one = λ e is. places_one _ _ _ _ e (ap (λ x. x.number) v) (h.seen ∙ is);
}

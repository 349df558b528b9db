use Rattle.std.proofs.Common.{rules, ap, subst, ◌∙◌, inl, inr, ⊎_elim}
use mathlib.Core.List.{IsPrefix}
use Rattle.vz_loans.specs.Tokens.{mine}
use Rattle.vz_loans.proofs.{Closing.caller_of, Ends.joins, lock.Lock.meet.Goals.After-load, lock.Lock.meet.Given.Over}
use Rattle.vz_loans.proofs.Meets.{notes, compares, short_olds, tells_base, meets, Met, joins_both}
use Rattle.vz_loans.proofs.lock.Lock.meet.Goals as goal

pub split_seat-note-requires : goal.split_seat-note-requires
split_seat-note-requires g c = (search rules, search rules, notes _ _ _ _ _ _)

pub join_seat-requires : goal.join_seat-requires
join_seat-requires g c = let out = ap (λ v. v.inside) c.to.view_is ∙ c.requires.to.1 in
    (search rules, search rules, search rules, search rules, joins _ _ _ _ _ _ _ _ (c.to.invariant.outside out).0 (ap (λ m. m.0.stage) c.split_seat-note.ensures.4))

pub load-requires : goal.load-requires
load-requires g c = let h = c.to.invariant in let me = c.to.inside.seat.me in let w = c.from.inside.seat.me in let m = c.join_seat.new.seat.me in
    let is = joins_both me w c.split_seat-note.result.me m c.split_seat-note.ensures.4 c.join_seat.ensures.2 in let out = ap (λ v. v.inside) c.to.view_is ∙ c.requires.to.1 in (
      search rules,
      search rules,
      compares _ _ _ _ _ _ m h.planned.0 me.0.plan me.0.seen _ (ap (λ x. x.0.stage) is ∙ (h.outside out).0) (ap (λ x. x.0.plan) is ∙ h.planned.1) (ap (λ x. x.0.olds) is) (short_olds c.to.inside.number c.to.inside.ticket me w m h is)
          (tells_base c.to.inside.number c.to.inside.ticket me w m h is),
    )

met : (g : Over) (c : After-load g) → Met c.to.inside.number c.to.inside.ticket c.to.inside.seat.me c.from.inside.seat.me c.load.new.seat.me
met g c = let out = ap (λ v. v.inside) c.to.view_is ∙ c.requires.to.1 in let me = c.to.inside.seat.me in let w = c.from.inside.seat.me in
    meets _ _ me w c.join_seat.new.seat.me _ c.to.invariant out (joins_both me w c.split_seat-note.result.me c.join_seat.new.seat.me c.split_seat-note.ensures.4 c.join_seat.ensures.2) c.load.ensures.2

pub invariant_of-to : goal.invariant_of-to
invariant_of-to g c = (met g c).held

pub returns : goal.returns
returns g c = let h = met g c in let v = c.to.view_is in let u = c.from.view_is in record {
  rests = (search rules, h.outside);
  same = (search rules, search rules, h.plan ∙ ap (λ x. x.plan) v);
  from = (λ i. caller_of (c.split_seat-note.ensures.0 i) c.from.inside.number (c.split_seat-note.ensures.2 i)) ∙ u;
  one = ⊎_elim (λ e. inl (e ∙ ap (λ x. x.seen) v)) (λ e. inr (e ∙ ap (λ x. x.seen) u)) h.one;
  first = subst (λ x. IsPrefix x.seen c.load.new.seat.me.0.seen) v h.first;
  second = subst (λ x. IsPrefix x.seen c.load.new.seat.me.0.seen) u h.second;
  mine = h.mine ∙ ap mine v;
}

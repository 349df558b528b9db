use Rattle.std.proofs.Common.{◌≡◌, None, rules, ap, sym, subst, ◌∙◌, inr}
use mathlib.Core.List.{IsPrefix}
use Rattle.vz_loans.specs.Rule.{places}
use Rattle.vz_rules.specs.declared.entry.Event.TheVariants as event
use Rattle.vz_desk.specs.{Books.numbered, Owners.owner_of, Owners.IsSameOwner, Answers.Told}
use Rattle.vz_desk.proofs.Owning.{turned_end}
use Rattle.vz_desk.proofs.Calling.{plan_kept, runs_on, client_leaves, entered, client_end, client_told, few_there, waits_out, last_made, same_owner, later_still}
use Rattle.vz_desk.proofs.desk.Desk.take.Goals as goal

pub invariant_of-end : goal.invariant_of-end
invariant_of-end g c = let seen = c.enter-book.ensures.seen in
    turned_end c.end.inside.token c.enter-book.new.token c.leave.new.token c.enter-book.result.plan c.enter-book.result.history _ c.end.invariant record {
      first = c.enter-book.ensures.same;
      second = c.leave.ensures.same;
      planned = c.enter-book.ensures.plan;
      seen = c.leave.ensures.seen;
      later = subst (IsPrefix _) seen c.enter-book.ensures.later;
      mine = ap (places _) (sym seen) ∙ c.enter-book.ensures.mine;
      rests = c.leave.ensures.outside;
      legal = c.reason.ensures.legal;
    }

pub invariant_of-end-then-patient-waits : goal.invariant_of-end-then-patient-waits
invariant_of-end-then-patient-waits g c = let seen = c.enter-book.ensures.seen in
    turned_end c.end.inside.token c.enter-book.new.token c.leave-then-patient-waits.new.token c.enter-book.result.plan c.enter-book.result.history _ c.end.invariant record {
      first = c.enter-book.ensures.same;
      second = c.leave-then-patient-waits.ensures.same;
      planned = c.enter-book.ensures.plan;
      seen = c.leave-then-patient-waits.ensures.seen;
      later = subst (IsPrefix _) seen c.enter-book.ensures.later;
      mine = ap (places _) (sym seen) ∙ c.enter-book.ensures.mine;
      rests = c.leave-then-patient-waits.ensures.outside;
      legal = c.reason.ensures.legal;
    }

pub leave-requires-in-Ok-clause-plan : goal.leave-requires-in-Ok-clause-plan
leave-requires-in-Ok-clause-plan g c κs within = plan_kept c.enter-book.result c.client.new.self (event.Client c.number-client.result) _ c.in-Ok.ensures.ok c.enter-book.ensures.plan

pub leave-requires-in-Ok-clause-entries : goal.leave-requires-in-Ok-clause-entries
leave-requires-in-Ok-clause-entries g c κs within = inr (_, client_leaves c.enter-book.new.token c.enter-book.result c.client.new.self c.number-client.result c.enter-book.ensures.seen c.number-client.ensures c.in-Ok.ensures.ok)

pub ends_pause-calm-requires-clause-running : goal.ends_pause-calm-requires-clause-running
ends_pause-calm-requires-clause-running g c κs within = let none : c.enter-book.result.reason ≡ None = search rules in runs_on c.enter-book.result c.client.new.self (event.Client c.number-client.result) c.in-Ok.ensures.ok none

pub with-end-inside-requires : goal.with-end-inside-requires
with-end-inside-requires g c = record {
  few = few_there c.end.inside.token c.enter-book.new.token c.enter-book.result c.number-client.result c.end.inside.totals c.in-Ok.note c.in-Ok.in_time c.end.invariant c.enter-book.ensures.same c.enter-book.ensures.plan c.enter-book.ensures.seen c.enter-book.ensures.later c.enter-book.ensures.mine
      c.in-Ok.ensures.told;
}

pub invariant_of-end-in-Ok : goal.invariant_of-end-in-Ok
invariant_of-end-in-Ok g c = client_end c.end.inside.token c.enter-book.new.token c.leave-in-Ok.new.token c.enter-book.result c.number-client.result c.end.inside.totals c.with-end-inside.result c.in-Ok.note c.in-Ok.in_time c.end.invariant c.number-client.ensures c.in-Ok.ensures.told c.with-end-inside.ensures
    (entered c.end.inside.token c.enter-book.new.token c.leave-in-Ok.new.token c.enter-book.result c.client.new.self c.number-client.result c.enter-book.ensures.same c.enter-book.ensures.plan c.enter-book.ensures.seen c.enter-book.ensures.later c.enter-book.ensures.mine c.number-client.ensures
    c.reason.ensures.legal c.in-Ok.ensures.ok c.leave-in-Ok.ensures.same c.leave-in-Ok.ensures.seen c.leave-in-Ok.ensures.one c.leave-in-Ok.ensures.outside)

pub invariant_of-end-in-Err : goal.invariant_of-end-in-Err
invariant_of-end-in-Err g c = let same = c.in-Err.ensures.err in let seen = c.enter-book.ensures.seen in
    turned_end c.end.inside.token c.enter-book.new.token c.leave-in-Err.new.token c.enter-book.result.plan c.enter-book.result.history _ c.end.invariant record {
      first = c.enter-book.ensures.same;
      second = c.leave-in-Err.ensures.same;
      planned = c.enter-book.ensures.plan;
      seen = c.leave-in-Err.ensures.seen ∙ ap (λ b. numbered b.history) same;
      later = subst (IsPrefix _) seen c.enter-book.ensures.later;
      mine = ap (places _) (sym seen) ∙ c.enter-book.ensures.mine;
      rests = c.leave-in-Err.ensures.outside;
      legal = c.reason.ensures.legal;
    }

pub returns-in-Ok-clause-same : goal.returns-in-Ok-clause-same
returns-in-Ok-clause-same g c = subst (λ o. IsSameOwner o (owner_of c.leave-in-Ok.new.token c.with-end-inside.result)) c.end.view_is (same_owner c.end.inside.token c.enter-book.new.token c.leave-in-Ok.new.token c.end.inside.totals c.with-end-inside.result c.enter-book.ensures.same c.leave-in-Ok.ensures.same
    (later_still _ _ _ _ c.enter-book.ensures.later (c.leave-in-Ok.ensures.seen ∙ client_leaves c.enter-book.new.token c.enter-book.result c.client.new.self c.number-client.result c.enter-book.ensures.seen c.number-client.ensures c.in-Ok.ensures.ok)))

pub returns-in-Ok-clause-tried : goal.returns-in-Ok-clause-tried
returns-in-Ok-clause-tried g c = subst (λ o. Told o (owner_of c.leave-in-Ok.new.token c.with-end-inside.result) c.in-Ok.note) c.end.view_is
    (client_told c.end.inside.token c.enter-book.new.token c.leave-in-Ok.new.token c.enter-book.result c.number-client.result c.end.inside.totals c.with-end-inside.result c.in-Ok.note c.in-Ok.in_time c.number-client.ensures c.in-Ok.ensures.told c.with-end-inside.ensures
    (entered c.end.inside.token c.enter-book.new.token c.leave-in-Ok.new.token c.enter-book.result c.client.new.self c.number-client.result c.enter-book.ensures.same c.enter-book.ensures.plan c.enter-book.ensures.seen c.enter-book.ensures.later c.enter-book.ensures.mine c.number-client.ensures
    c.reason.ensures.legal c.in-Ok.ensures.ok c.leave-in-Ok.ensures.same c.leave-in-Ok.ensures.seen c.leave-in-Ok.ensures.one c.leave-in-Ok.ensures.outside))

pub returns-in-Ok-clause-waited : goal.returns-in-Ok-clause-waited
returns-in-Ok-clause-waited g c = λ patiently h e is. waits_out c.enter-book.result c.number-client.result c.args.patient c.waits-waits.result e c.waits-waits.ensures c.if-patient-waits.false
    (last_made c.enter-book.result c.client.new.self (event.Client c.number-client.result) c.leave-in-Ok.new.token.seen h e c.in-Ok.ensures.ok c.leave-in-Ok.ensures.seen is) patiently

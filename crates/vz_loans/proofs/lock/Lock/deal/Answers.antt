use Rattle.std.proofs.Common.{◌≡◌, ℕ, ◌+◌, ◌-◌, ◌++◌, ◌∷◌, [], rules, arith, ap, sym, ◌∙◌}
use Rattle.vz_loans.specs.{Rule.ready, Tokens.unused, Tokens.unused_from}
use Rattle.vz_loans.proofs.Begun.{unused_more}
use Rattle.vz_loans.proofs.lock.Lock.deal.Goals as goal

pub loop-number-preserved : goal.loop-number-preserved
loop-number-preserved g c = let i = c.loop-number.invariant in let n : ℕ = c.loop-number.number in let plan = ap (λ m. m.0.plan) i.me in let from = c.loop-number.auto.number in
    let id = c.args.self.now.id in let planned = c.args.seat.now.me.0.plan in
    let same : 1 + (n - 1) ≡ n = omega arith in let next : (n - 1) + 1 ≡ n + 1 - 1 = omega arith in record {
      table = search rules;
      me = c.give.ensures.ready ∙ ap (λ o. ready o (n + 1)) plan;
      items = c.push_reserved.ensures.items ∙ (λ k. i.items k ++ (c.give.ensures.token ∙ (λ j. unused id (plan j) (sym same j))) k ∷ []) ∙ sym (unused_more id planned 1 (n - 1)) ∙ ap (unused_from id planned 1) next;
      room = let agrees = ap (λ l. l.callers) c.self.view_is in let less = c.loop-number-test.true in let a = c.push_reserved.ensures.len in let b = c.push_reserved.ensures.capacity in let r = i.room in omega arith;
    }

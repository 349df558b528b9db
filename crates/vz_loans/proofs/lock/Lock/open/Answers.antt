use Rattle.std.proofs.Common.{◌≡◌, rules, ap, sym, subst, ◌∷◌, [], Some}
use Rattle.atomic_table.specs.Table.{opening}
use Rattle.vz_loans.specs.Rule.{Turns, newcomer}
use Rattle.vz_loans.proofs.Ends.{opens}
use Rattle.vz_loans.proofs.lock.Lock.open.Goals as goal

pub new-requires : goal.new-requires
new-requires g c = let p = g.K.Kept.plan c.of.result.value in let items : c.push_reserved.new.self.items ≡ Some c.args.state ∷ [] = search rules in
    subst (λ xs. Turns g.K.Kept.plan g.K.Kept.entries p c.args.callers (opening (0 ∷ 0 ∷ []) xs (newcomer p))) (sym items)
    (opens _ _ p c.args.callers c.args.state (ap g.K.Kept.plan c.of.ensures) c.requires.empty c.requires.some c.requires.few)

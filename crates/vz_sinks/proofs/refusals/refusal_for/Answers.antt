use Rattle.std.proofs.Common.{◌≡◌, true, false, arith}
use Rattle.vz_sinks.proofs.Seated.{says_loop, says_unknown, says_other, says_nothing}
use Rattle.vz_sinks.proofs.refusals.refusal_for.Goals as goal

pub returns-then-is_loop : goal.returns-then-is_loop
returns-then-is_loop c = says_loop _ _ _ c.if-is_loop.true

pub returns-then-not-are_known : goal.returns-then-not-are_known
returns-then-not-are_known c =
    let unknown : c.args.are_known ≡ false = grind (arith, c.if-not-are_known.true) in
    says_unknown _ _ _ c.if-is_loop.false unknown

pub returns-then-not-is_own : goal.returns-then-not-is_own
returns-then-not-is_own c =
    let known : c.args.are_known ≡ true = grind (arith, c.if-not-are_known.false) in
    let other : c.args.is_own ≡ false = grind (arith, c.if-not-is_own.true) in
    says_other _ _ _ c.if-is_loop.false known other

pub returns-else-not-is_own : goal.returns-else-not-is_own
returns-else-not-is_own c =
    let known : c.args.are_known ≡ true = grind (arith, c.if-not-are_known.false) in
    let own : c.args.is_own ≡ true = grind (arith, c.if-not-is_own.false) in
    says_nothing _ _ _ c.if-is_loop.false known own

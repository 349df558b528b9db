use Rattle.std.proofs.Common.{◌≤◌, ◌<◌, ◌+◌, ◌*◌, ◌/◌, ◌^◌, subst, arith}
use Rattle.std.proofs.lemmas.Nat.{leading_length}
use Rattle.vz_deadlines.proofs.slots.levels_of.Goals as goal

pub returns-clause-enough : goal.returns-clause-enough
returns-clause-enough c =
    let m = leading_length 64 (c.args.len / 16) (omega (arith, c.ranges.len)) in
    subst (λ n. c.args.len / 16 < 2 ^ n) (omega (arith, m.1)) m.2

pub returns-clause-few : goal.returns-clause-few
returns-clause-few c =
    let m = leading_length 64 (c.args.len / 16) (omega (arith, c.ranges.len)) in
    subst (λ n. 2 ^ n ≤ 2 * (c.args.len / 16) + 1) (omega (arith, m.1)) m.3

use Rattle.std.proofs.Common.{◌+◌, ◌-◌, ◌<◌, length, subst, ap, sym, ◌∙◌}
use Rattle.vz_deps.specs.Lacking.{noted, unready}
use Rattle.vz_deps.proofs.Keeping.{unready_lower}
use Rattle.vz_deps.proofs.Same.{some_same}
use Rattle.vz_deps.specs.declared.lacks.Count.{Count}
use Rattle.vz_deps.proofs.lacks.lower.Goals as goal

pub returns-in-Some-clause-unready : goal.returns-in-Some-clause-unready
returns-in-Some-clause-unready c =
    let written = c.get_mut.follows.holds (record c.in-Some.count.now { unmet = c.in-Some.count.now.unmet - 1 }) in
    let there = sym c.in-Some.ensures.value in
    let some : 0 < c.in-Some.count.now.unmet = subst (λ (x : Count). 0 < x.unmet) (some_same _ _ (sym c.requires.some.1 ∙ there)) c.requires.some.2 in
    ap (λ l. length (noted c.args.order (c.in-Some.count.now.unmet - 1)) + length (unready l)) written.0
    ∙ unready_lower c.args.order c.in-Some.count.now c.args.counts.now.entries there some

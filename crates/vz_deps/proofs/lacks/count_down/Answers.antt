use Rattle.std.proofs.Common.{◌++◌, length, ap, sym, ◌∙◌, arith}
use Rattle.std.proofs.lemmas.List.{append-nil}
use Rattle.vz_deps.proofs.Keeping.{noted_last, noted_none, more_length}
use Rattle.vz_deps.proofs.lacks.count_down.Goals as goal

pub returns-then-lower-eq0-clause-freed : goal.returns-then-lower-eq0-clause-freed
returns-then-lower-eq0-clause-freed c x h =
    c.push_reserved.ensures.items ∙ ap (λ l. c.args.freed.now.items ++ l) (sym (noted_last c.args.order _ (sym (c.lower.ensures.value x h) ∙ c.if-lower-eq0.true)))

pub returns-then-lower-eq0-clause-few : goal.returns-then-lower-eq0-clause-few
returns-then-lower-eq0-clause-few c =
    let one = ap length (noted_last c.args.order c.lower.result c.if-lower-eq0.true) in
    let more = ap length c.push_reserved.ensures.items ∙ more_length c.args.freed.now.items c.args.order in
    omega (arith, one, more, c.lower.ensures.unready)

pub returns-else-lower-eq0-clause-freed : goal.returns-else-lower-eq0-clause-freed
returns-else-lower-eq0-clause-freed c x h =
    sym (ap (λ l. c.args.freed.now.items ++ l) (noted_none c.args.order _ (λ e. c.if-lower-eq0.false (c.lower.ensures.value x h ∙ e))) ∙ append-nil c.args.freed.now.items)

pub returns-else-lower-eq0-clause-few : goal.returns-else-lower-eq0-clause-few
returns-else-lower-eq0-clause-few c =
    let none = ap length (noted_none c.args.order c.lower.result c.if-lower-eq0.false) in
    omega (arith, none, c.lower.ensures.unready)

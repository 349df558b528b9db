use Rattle.std.proofs.Common.{not, filter, get_or, ap, ◌∙◌, arith}
use Rattle.vz_rules.specs.Reach.{names}
use Rattle.vz_refs.proofs.Unnaming.{unnamed_none, unnamed_more, unnamed_all}
use Rattle.vz_refs.proofs.temporaries.Temporaries.end_named.Goals as goal

pub loop-range-init : goal.loop-range-init
loop-range-init c = (unnamed_none _, omega arith)

pub loop-range-preserved : goal.loop-range-preserved
loop-range-preserved c =
    let l = c.loop-range in (
      c.end_one.ensures.list ∙ ap (filter (λ t. not (names t.id (get_or c.args.ranges.now l.range-index _)))) l.invariant.0
          ∙ unnamed_more c.args.ranges.now l.range-index _ c.args.self.now.list c.loop-range-test.true,
      omega (arith, l.invariant.1, c.end_one.ensures.spare),
    )

pub returns-clause-list : goal.returns-clause-list
returns-clause-list c = c.loop-range.invariant.0 ∙ unnamed_all c.args.ranges.now c.loop-range.range-index c.args.self.now.list c.loop-range-test.false

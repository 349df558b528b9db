use Rattle.std.proofs.Common.{◌+◌, ◌++◌, take, sym, ap, ◌∙◌, arith}
use Rattle.vz_refs.specs.Referring.{is_set}
use Rattle.vz_refs.specs.Indexing.{changing, one_more}
use Rattle.vz_refs.proofs.Changing.{changed_set, changing_same, changing_twice, changing_alike, next_longer, nothing_longer}
use Rattle.vz_refs.proofs.sets.Sets.extend.Goals as goal

pub loop-range-init : goal.loop-range-init
loop-range-init c = (sym (changing_same _ c.args.id c.args.self.now.list nothing_longer), omega arith)

pub append-requires-clause-set : goal.append-requires-clause-set
append-requires-clause-set c =
    ap (λ l. is_set l c.args.id) c.loop-range.invariant.0 ∙ changed_set _ c.args.id c.args.id c.args.self.now.list ∙ c.requires.set

pub loop-range-preserved : goal.loop-range-preserved
loop-range-preserved c =
    let list = c.args.self.now.list in (
      c.append.ensures.list ∙ ap (changing (one_more _) c.args.id) c.loop-range.invariant.0 ∙ changing_twice (one_more _) _ c.args.id list
          ∙ changing_alike _ (λ old. old ++ take (c.loop-range.range-index + 1) c.args.ranges.now) c.args.id list (λ xs. next_longer c.args.ranges.now c.loop-range.range-index _ xs c.loop-range-test.true),
      omega (arith, c.append.ensures.spare, c.loop-range.invariant.1),
    )

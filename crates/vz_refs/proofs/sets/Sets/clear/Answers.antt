use Rattle.std.proofs.Common.{◌≡◌, ◌+◌, ◌-◌, true, length, map, sym, ap, ◌∙◌, arith}
use Rattle.vz_frame.specs.Frame.{has_repeat}
use Rattle.vz_ids.specs.Ids.{same_surface}
use Rattle.vz_refs.specs.Referring.{is_set, ranges_of}
use Rattle.vz_refs.specs.Indexing.{changing, but_last}
use Rattle.vz_refs.proofs.Changing.{but_lasts, changed_own, changing_same, changing_twice, changing_alike, next_shorter, all_taken, none_taken, cleared, set_with_some, take_long}
use Rattle.vz_refs.proofs.sets.Sets.clear.Goals as goal

pub loop-taken-init : goal.loop-taken-init
loop-taken-init c = (sym (changing_same (but_lasts 0) c.args.id c.args.self.now.list all_taken), omega arith)

pub pop-requires : goal.pop-requires
pop-requires c =
    let ranges = ranges_of c.args.self.now.list c.args.id in
    let there : is_set c.args.self.now.list c.args.id ≡ true = set_with_some c.args.self.now.list c.args.id (omega (arith, c.loop-taken-test.true, c.count-taken-end.ensures)) in
    let left = ap (λ l. length (ranges_of l c.args.id)) c.loop-taken.invariant.0 ∙ ap length (changed_own (but_lasts c.loop-taken.taken) c.args.id c.args.self.now.list there) in
    let long = take_long ranges (length ranges - c.loop-taken.taken) (omega arith) in
    omega (arith, left, long, c.loop-taken-test.true, c.count-taken-end.ensures)

pub loop-taken-preserved : goal.loop-taken-preserved
loop-taken-preserved c =
    let list = c.args.self.now.list in (
      c.pop.ensures.list ∙ ap (changing but_last c.args.id) c.loop-taken.invariant.0 ∙ changing_twice but_last (but_lasts c.loop-taken.taken) c.args.id list ∙ changing_alike _ (but_lasts (c.loop-taken.taken + 1)) c.args.id list (next_shorter c.loop-taken.taken),
      omega (arith, c.pop.ensures.spare, c.loop-taken.invariant.1),
    )

pub returns-clause-list : goal.returns-clause-list
returns-clause-list c =
    let once = ap (λ v. has_repeat same_surface (map (λ s. s.id) v.list)) (sym c.self.view_is) ∙ c.self.invariant.once in
    c.loop-taken.invariant.0
    ∙ cleared (but_lasts c.loop-taken.taken) c.args.id c.args.self.now.list once (none_taken (ranges_of c.args.self.now.list c.args.id) c.loop-taken.taken (omega (arith, c.loop-taken-test.false, c.count-taken-end.ensures)))

use Rattle.std.proofs.Common.{◌+◌, map, drop, sym, ap, ◌∙◌, arith}
use Rattle.std.proofs.lemmas.List.{drop_all}
use Rattle.vz_ids.specs.Ids.{same_surface}
use Rattle.vz_rules.specs.Closure.{adding}
use Rattle.vz_refs.specs.Lasting.{all_in}
use Rattle.vz_refs.proofs.Gathering.{room_for, grows, kept_step, all_long}
use Rattle.vz_refs.proofs.marking.add_kept.Goals as goal

-- there is room for those that are left
pub add-requires-clause-room : goal.add-requires-clause-room
add-requires-clause-room c none =
    let l = c.loop-at in
    room_for l.out.list (map (λ t. t.id) (drop (l.at + 1) (all_in c.args.kept.now.entries))) _ c.id_at.result _ l.out.spare
    (kept_step (all_in c.args.kept.now.entries) l.at c.id_at.result l.out.list _ c.id_at.ensures l.invariant.0) c.requires.room l.invariant.1 none

pub loop-at-preserved : goal.loop-at-preserved
loop-at-preserved c =
    let l = c.loop-at in (
      grows l.out.list c.add.new.out.list (map (λ t. t.id) (drop (l.at + 1) (all_in c.args.kept.now.entries))) _ c.id_at.result
          (kept_step (all_in c.args.kept.now.entries) l.at c.id_at.result l.out.list _ c.id_at.ensures l.invariant.0) c.add.ensures.list,
      omega (arith, l.invariant.1, c.add.ensures.room),
      c.add.ensures.noted,
    )

pub returns-clause-list : goal.returns-clause-list
returns-clause-list c =
    let l = c.loop-at in
    let over = drop_all l.at (all_in c.args.kept.now.entries) (let long = all_long c.args.kept.now.entries in omega (arith, long, c.loop-at-test.false, c.len-at-end.ensures.len)) in
    sym (ap (λ ts. adding same_surface l.out.list (map (λ t. t.id) ts)) over) ∙ l.invariant.0

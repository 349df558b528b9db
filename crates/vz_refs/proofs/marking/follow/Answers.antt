use Rattle.std.proofs.Common.{◌+◌, Some, None, drop, sym, ap, ◌∙◌, arith, subst}
use Rattle.std.specs.List.{filter_map}
use Rattle.std.proofs.lemmas.List.{drop_all}
use Rattle.vz_ids.specs.Ids.{same_surface}
use Rattle.vz_rules.specs.Closure.{adding}
use Rattle.vz_refs.specs.Referring.{ranges_of, next_in}
use Rattle.vz_ids.specs.declared.SurfaceId.{SurfaceId}
use Rattle.vz_frame.specs.Roomy.{Roomy}
use Rattle.vz_refs.proofs.Gathering.{room_for, grows, range_step}
use Rattle.vz_refs.proofs.Noting.{AreFollowed}
use Rattle.vz_refs.proofs.marking.follow.Goals as goal
use Rattle.vz_refs.proofs.marking.follow.Goals.{in-Some, in-None}

-- there is room for what the ranges that are left show
pub add-requires-clause-room : goal.add-requires-clause-room
unfolding next_in
add-requires-clause-room g c none =
    let l = c.loop-nth in
    let ranges = ranges_of c.args.sets.now.list c.args.from in
    let step = range_step (g.S.Shows.shows c.args.s.now) ranges l.nth l.out.list _ l.invariant.0 c.nth-range.result (Some c.in-Some.id) c.nth-range.ensures (sym c.shown.ensures ∙ c.in-Some.is) in
    room_for l.out.list (filter_map (g.S.Shows.shows c.args.s.now) (drop (l.nth + 1) ranges)) _ c.in-Some.id _ l.out.spare step (c.requires.room) l.invariant.1 none

pub loop-nth-preserved : goal.loop-nth-preserved
loop-nth-preserved g c =
    let l = c.loop-nth in
    let shows = g.S.Shows.shows c.args.s.now in
    let ranges = ranges_of c.args.sets.now.list c.args.from in
    elim c.match-shown.branch [
      | in-Some w ↦
          let step = range_step shows ranges l.nth l.out.list _ l.invariant.0 c.nth-range.result (Some w.in-Some.id) c.nth-range.ensures (sym c.shown.ensures ∙ w.in-Some.is) in
          subst (λ (o : Roomy SurfaceId). AreFollowed shows ranges (l.nth + 1) c.args.out.now c.args.sets.now.keys c.match-shown.notes o) (sym w.out-is)
          (subst (λ ns. AreFollowed shows ranges (l.nth + 1) c.args.out.now c.args.sets.now.keys ns w.add.new.out) (sym w.notes-is)
          (grows l.out.list w.add.new.out.list (filter_map shows (drop (l.nth + 1) ranges)) _ w.in-Some.id step w.add.ensures.list, omega (arith, l.invariant.1, w.add.ensures.room), w.add.ensures.noted))
      | in-None w ↦
          let step = range_step shows ranges l.nth l.out.list _ l.invariant.0 c.nth-range.result None c.nth-range.ensures (sym c.shown.ensures ∙ w.in-None.is) in
          subst (λ (o : Roomy SurfaceId). AreFollowed shows ranges (l.nth + 1) c.args.out.now c.args.sets.now.keys c.match-shown.notes o) (sym w.out-is)
          (subst (λ ns. AreFollowed shows ranges (l.nth + 1) c.args.out.now c.args.sets.now.keys ns l.out) (sym w.notes-is) (step, l.invariant.1, l.invariant.2))
    ]

pub returns-clause-list : goal.returns-clause-list
unfolding next_in
returns-clause-list g c =
    let ranges = ranges_of c.args.sets.now.list c.args.from in
    ap (λ l. adding same_surface c.loop-nth.out.list (filter_map (g.S.Shows.shows c.args.s.now) l)) (sym (drop_all c.loop-nth.nth ranges (omega (arith, c.loop-nth-test.false, c.count-nth-end.ensures)))) ∙ c.loop-nth.invariant.0

use Rattle.std.proofs.Common.{length, ap, ◌∙◌, arith}
use Rattle.vz_ids.specs.Ids.{same_surface}
use Rattle.vz_rules.specs.Closure.{adding}
use Rattle.vz_refs.specs.Referring.{starts}
use Rattle.vz_refs.specs.Lasting.{all_in}
use Rattle.vz_refs.proofs.Gathering.{all_room, first_fits, first_marked, next_fits, next_marked, fewer_left}
use Rattle.vz_refs.proofs.references.reach.Goals as goal

pub start-requires-clause-room : goal.start-requires-clause-room
start-requires-clause-room g c =
    let fits = first_fits (g.S.Shows.shows c.args.s.now) c.args.sets.now.list c.args.root (all_in c.args.kept.now.entries) c.requires.shown c.args.out.now.spare (all_room c.args.kept.now.entries _ _ c.requires.room) in
    let lists = ap (λ l. length (adding same_surface l (starts c.args.root (all_in c.args.kept.now.entries)))) c.requires.empty in
    omega (arith, fits, lists)

pub loop-at-init : goal.loop-at-init
loop-at-init g c = (
  first_marked (g.S.Shows.shows c.args.s.now) c.args.sets.now.list c.args.root (all_in c.args.kept.now.entries) c.requires.shown c.start.new.out.list c.args.out.now.spare _ (all_room c.args.kept.now.entries _ _ c.requires.room) (omega (arith, c.start.ensures.room))
      (c.start.ensures.list ∙ ap (λ l. adding same_surface l (starts c.args.root (all_in c.args.kept.now.entries))) c.requires.empty),
  c.start.ensures.noted,
)

pub follow-requires-clause-room : goal.follow-requires-clause-room
follow-requires-clause-room g c =
    next_fits (g.S.Shows.shows c.args.s.now) c.args.sets.now.list c.args.root (all_in c.args.kept.now.entries) c.requires.shown c.loop-at.out.list c.loop-at.at _ _ c.loop-at.invariant.0

pub loop-at-smaller : goal.loop-at-smaller
loop-at-smaller g c =
    fewer_left (g.S.Shows.shows c.args.s.now) c.args.sets.now.list c.args.root (all_in c.args.kept.now.entries) c.requires.shown c.loop-at.out.list c.as_slice.result.now c.loop-at.at _ c.loop-at.invariant.0 c.as_slice.ensures c.loop-at-test.true

pub loop-at-preserved : goal.loop-at-preserved
loop-at-preserved g c = (
  next_marked (g.S.Shows.shows c.args.s.now) c.args.sets.now.list c.args.root (all_in c.args.kept.now.entries) c.requires.shown c.loop-at.out.list c.follow.new.out.list c.as_slice-in-loop-at.result.now c.loop-at.at _ _ _ c.loop-at.invariant.0
      c.as_slice-in-loop-at.ensures (omega (arith, c.loop-at-test.true, ap length c.as_slice.ensures, ap length c.as_slice-in-loop-at.ensures)) c.follow.ensures.list c.follow.ensures.room,
  c.follow.ensures.noted,
)

use Rattle.std.proofs.Common.{◌≤◌, ◌+◌, sym, subst, arith}
use Rattle.indexmap.specs.IndexMap.{get, spare as spare_of}
use Rattle.vz_ids.specs.Ids.{same_sub}
use Rattle.vz_deadlines.proofs.Found_at.{AreNumbered, numbered_none, numbered_next, numbered_free, numbered_all}
use Rattle.vz_deadlines.proofs.numbers.number_all.Goals as goal
use Rattle.vz_deadlines.proofs.numbers.number_all.Goals.{in-Some, in-None}

pub loop-place-init : goal.loop-place-init
loop-place-init c = (numbered_none (get same_sub c.args.places.now) c.args.slots.now c.requires.told, omega arith)

pub number-requires : goal.number-requires
number-requires c = c.loop-place.invariant.0.told c.loop-place.place c.in-Some.due c.in-Some.ensures

pub loop-place-preserved : goal.loop-place-preserved
loop-place-preserved c =
    elim c.match-at.branch [
      | in-Some w ↦ (
        subst (λ m. AreNumbered (get same_sub m) c.args.slots.now (c.loop-place.place + 1)) (sym w.places-is)
            (numbered_next (get same_sub c.loop-place.places) (get same_sub w.number.new.places) c.args.slots.now c.loop-place.place w.in-Some.due c.requires.distinct c.loop-place.invariant.0 w.in-Some.ensures w.number.ensures.own w.number.ensures.others),
        subst (λ m. spare_of c.args.places.now ≤ spare_of m) (sym w.places-is) (omega (arith, c.loop-place.invariant.1, w.number.ensures.spare)),
      )
      | in-None w ↦
          subst (λ m. AreNumbered (get same_sub m) c.args.slots.now (c.loop-place.place + 1) × (spare_of c.args.places.now ≤ spare_of m)) (sym w.places-is)
          (numbered_free (get same_sub c.loop-place.places) c.args.slots.now c.loop-place.place c.loop-place.invariant.0 w.in-None.ensures, c.loop-place.invariant.1)
    ]

pub returns-clause-found : goal.returns-clause-found
returns-clause-found c place d at =
    numbered_all (get same_sub c.loop-place.places) c.args.slots.now c.loop-place.place (omega (arith, c.len-place-end.ensures, c.loop-place-test.false)) c.loop-place.invariant.0 place d at

use Rattle.std.proofs.Common.{arith}
use Rattle.std.proofs.lemmas.Map.Entries.{length-keys_of}
use Rattle.vz_refs.specs.Lasting.{over_at}
use Rattle.vz_refs.proofs.Named.{ends_none, ends_both}
use Rattle.vz_refs.proofs.Lasts.{some_was}
use Rattle.vz_refs.proofs.Ticking.{all_ahead, next_ahead, none_ahead}
use Rattle.vz_refs.proofs.temporaries.end_all.Goals as goal

pub loop-at-init : goal.loop-at-init
loop-at-init c = (ends_none (over_at c.args.tick) c.args.seats.now c.requires.stands, c.requires.within, all_ahead c.args.tick c.args.seats.now c.args.numbers.now.entries c.requires.within)

pub loop-at-preserved : goal.loop-at-preserved
loop-at-preserved c =
    let l = c.loop-at in (
      ends_both (over_at c.args.tick) c.args.seats.now l.seats c.end_at.new.seats l.invariant.0 c.end_at.ensures.ends,
      λ n h. l.invariant.1 n (some_was (over_at c.args.tick) l.seats c.end_at.new.seats c.end_at.ensures.ends n h),
      next_ahead c.args.tick l.seats c.end_at.new.seats c.args.numbers.now.entries l.at (let long = length-keys_of c.args.numbers.now.entries in omega (arith, long, c.loop-at-test.true, c.len-at-end.ensures.len)) l.invariant.1 l.invariant.2
          c.end_at.ensures.ends c.end_at.ensures.rid,
    )

pub returns-clause-rid : goal.returns-clause-rid
returns-clause-rid c =
    let l = c.loop-at in
    none_ahead c.args.tick l.seats _ l.at (let long = length-keys_of c.args.numbers.now.entries in omega (arith, long, c.loop-at-test.false, c.len-at-end.ensures.len)) l.invariant.2

use Rattle.std.proofs.Common.{arith}
use Rattle.vz_paint.proofs.{Redrawn.rows_begin, Redrawn.rows_end, Patches.level_next}
use Rattle.vz_paint.proofs.rows.level_rows.Goals as goal

pub loop-k-init : goal.loop-k-init
loop-k-init c =
    let n = c.args.lines in rows_begin n.width n.left n.wide n.count 0 (λ r i d. c.args.ground) c.args.pixels.now (λ r i low. absurd (omega (arith, low)))

pub loop-k-preserved : goal.loop-k-preserved
loop-k-preserved c =
    let a = c.args in
    let n = a.lines in
    let l = c.loop-k in
    level_next n.width n.left n.wide n.count l.k c.place-at.result a.ground a.pixels.now l.pixels c.level.new.row l.invariant c.loop-k-test.true c.requires.inside c.requires.long c.place-at.ensures.value c.level.ensures

pub returns : goal.returns
returns c =
    let n = c.args.lines in
    let l = c.loop-k in
    let done = c.loop-k-test.false in
    rows_end n.width n.left n.wide n.count 0 l.k (λ r i d. c.args.ground) c.args.pixels.now l.pixels l.invariant (λ r i low more. absurd (omega (arith, done, low, more)))

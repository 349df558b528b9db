use Rattle.std.proofs.Common.{rules, ◌≡◌, ◌+◌, ◌-◌, ◌≤◌, true, false, length, arith}
use Rattle.vz_outside.proofs.Calls.{ran_one}
use Rattle.vz_check.proofs.Framing.{next_read, next_lacked}
use Rattle.vz_check.proofs.frame.reads_pixels.Goals as goal

pub returns-then-not-branch-clause-found : goal.returns-then-not-branch-clause-found
returns-then-not-branch-clause-found g c =
    let many : (c.loop-at.at + c.min-count.result) - c.loop-at.at ≡ c.min-count.result = omega arith in
    let other : c.in_ok-reads_piece.field-0 ≡ false = search rules in
    next_lacked c.args.slot (g.F.Shelf.shelved c.args.shelf.now) (g.F.Shelf.shelved c.loop-at.shelf) (g.F.Shelf.shelved c.reads_piece.new.shelf) c.args.pixels.now c.loop-at.at c.min-count.result _ c.in_ok-reads_piece.field-0 many other
    c.loop-at.invariant.1 c.in_ok-reads_piece.ensures.found

pub loop-at-preserved : goal.loop-at-preserved
loop-at-preserved g c =
    let many : (c.loop-at.at + c.min-count.result) - c.loop-at.at ≡ c.min-count.result = omega arith in
    let within : c.loop-at.at + c.min-count.result ≤ length c.args.pixels.now = search rules in
    let same : c.in_ok-reads_piece.field-0 ≡ true = search rules in (
      within,
      next_read c.args.slot (g.F.Shelf.shelved c.args.shelf.now) (g.F.Shelf.shelved c.loop-at.shelf) (g.F.Shelf.shelved c.reads_piece.new.shelf) c.args.pixels.now c.loop-at.at c.min-count.result _ c.in_ok-reads_piece.field-0 many same
          c.loop-at.invariant.1 c.in_ok-reads_piece.ensures.found c.in_ok-reads_piece.ensures.kept
          (ran_one c.in_ok-reads_piece.field-0 (g.F.Shelf.shelved c.loop-at.shelf) (g.F.Shelf.shelved c.reads_piece.new.shelf) c.in_ok-reads_piece.ensures.behaves),
    )

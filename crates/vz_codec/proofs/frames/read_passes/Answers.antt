use Rattle.std.proofs.Common.{length, ap}
use Rattle.std.proofs.lemmas.Result.{err_from_is_err_and}
use Rattle.vz_codec.specs.Reading.{left_of, pass_at}
use Rattle.vz_codec.proofs.Loop.{goes_on, ends, is_done}
use Rattle.vz_codec.proofs.frames.read_passes.Goals as goal

pub returns-in_err-pass : goal.returns-in_err-pass
returns-in_err-pass c =
    let l = c.loop in
    let e = err_from_is_err_and c.from_residual-in_err-pass.result c.from_residual-in_err-pass.ensures.1 in
    let fails =
    ends (pass_at c.args.format) left_of l.passes.items c.args.count l.counter l.room l.input _
    c.in_err-pass.field-0.0 c.loop-test.true c.in_err-pass.ensures l.invariant in
    rw (e.1, e.2) fails

pub loop-preserved : goal.loop-preserved
loop-preserved c =
    let l = c.loop in
    let same = ap length c.as_slice.ensures in
    let next =
    goes_on (pass_at c.args.format) left_of l.passes.items c.args.count l.counter l.room l.input _
    c.in_ok-pass.pass c.read.new.input c.loop-test.true c.in_ok-pass.ensures l.invariant in
    rw (c.in_ok-push.ensures.items, c.saturating_sub-room.ensures, same) next

pub returns : goal.returns
returns c =
    let l = c.loop in
    let whole =
    is_done (pass_at c.args.format) left_of l.passes.items c.args.count l.counter l.room l.input _
    c.loop-test.false l.invariant in
    rw c.from_vec.ensures whole

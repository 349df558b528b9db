use Rattle.std.proofs.lemmas.Result.{err_from_is_err_and}
use Rattle.vz_codec.specs.Reading.{message_at}
use Rattle.vz_codec.proofs.Loop.{goes_on, ends, is_done}
use Rattle.vz_codec.proofs.messages.read_messages.Goals as goal

pub returns-in_err-put_next : goal.returns-in_err-put_next
returns-in_err-put_next c =
    let l = c.loop in
    let read = message_at c.args.format in
    let e = err_from_is_err_and c.from_residual-in_err-put_next.result c.from_residual-in_err-put_next.ensures.1 in
    let fails =
    ends (λ _. read) (λ s _. s) l.messages.items c.args.count l.counter tt l.ahead _ c.in_err-put_next.field-0.0
    c.loop-test.true c.in_err-put_next.ensures.err l.invariant in
    rw (e.1, e.2) fails

pub loop-preserved : goal.loop-preserved
loop-preserved c =
    let l = c.loop in
    let read = message_at c.args.format in
    let put = c.in_ok-put_next.ensures.read in
    let next =
    goes_on (λ _. read) (λ s _. s) l.messages.items c.args.count l.counter tt l.ahead _ put.0 c.put_next.new.input
    c.loop-test.true put.1 l.invariant in
    rw put.2 next

pub returns : goal.returns
returns c =
    let l = c.loop in
    is_done (λ _. message_at c.args.format) (λ s _. s) l.messages.items c.args.count l.counter tt l.ahead _
    c.loop-test.false l.invariant

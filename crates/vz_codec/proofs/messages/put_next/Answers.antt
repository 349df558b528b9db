use Rattle.std.proofs.lemmas.Result.{err_from_is_err_and}
use Rattle.vz_frame.specs.declared.message.Message.TheVariants as message
use Rattle.vz_codec.proofs.Tags.{reclaim_there, await_there, no_tag}
use Rattle.vz_codec.proofs.messages.put_next.Goals as goal

pub returns-in_err-u8_within-clause-err : goal.returns-in_err-u8_within-clause-err
returns-in_err-u8_within-clause-err c =
    let e = err_from_is_err_and c.from_residual.result c.from_residual.ensures.1 in
    let fails =
    no_tag c.args.format _ c.args.input.now c.in_err-u8_within.field-0.0 c.ahead-ahead.ensures c.in_err-u8_within.ensures in
    rw (e.1, e.2) fails

pub returns-in_ok-push-in-4-clause-read : goal.returns-in_ok-push-in-4-clause-read
returns-in_ok-push-in-4-clause-read c =
    let there =
    reclaim_there c.args.format _ _ c.args.input.now c.u8_within.new.self c.ahead-ahead.ensures c.in_ok-u8_within.ensures
    c.in-4.is in
    (message.Reclaim, there, c.in_ok-push-in-4.ensures.items)

pub returns-in_ok-push-in-7-clause-read : goal.returns-in_ok-push-in-7-clause-read
returns-in_ok-push-in-7-clause-read c =
    let there =
    await_there c.args.format _ _ c.args.input.now c.u8_within.new.self c.ahead-ahead.ensures c.in_ok-u8_within.ensures
    c.in-7.is in
    (message.Await, there, c.in_ok-push-in-7.ensures.items)

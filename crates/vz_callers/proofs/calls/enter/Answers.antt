use Rattle.std.proofs.Common.{rules}
use Rattle.vz_callers.proofs.Called.{one_more, none_more}
use Rattle.vz_callers.proofs.calls.enter.Goals as goal

pub returns-in-Ok : goal.returns-in-Ok
returns-in-Ok g c = record {
  stays = search rules;
  ok = one_more c.args.pass.now c.call.new.pass c.args.event c.in-Ok.field-0 c.in-Ok.ensures.same c.in-Ok.ensures.ok;
  err = tt;
}

pub returns-in-Err : goal.returns-in-Err
returns-in-Err g c = record {
  stays = search rules;
  ok = tt;
  err = none_more c.args.pass.now c.call.new.pass c.in-Err.ensures.same c.in-Err.ensures.err;
}

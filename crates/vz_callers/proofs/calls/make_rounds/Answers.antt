use Rattle.std.proofs.Common.{rules}
use Rattle.vz_callers.specs.Callers.{events_of}
use Rattle.vz_callers.proofs.{Called.stays_then, Rounds.more_rounds, Tells.display_rounds, Tells.display_told}
use Rattle.vz_callers.proofs.calls.make_rounds.Goals as goal

pub loop-before-init : goal.loop-before-init
loop-before-init g c = record {
  stays = search rules;
  made = search rules;
  told = λ d. display_told (g.G.Gate.told c.args.gate.now) c.args.pass.now d;
}

pub loop-before-preserved : goal.loop-before-preserved
loop-before-preserved g c =
    let i = c.loop-before.invariant in
    record {
      stays = stays_then c.args.pass.now c.loop-before.pass c.make_round.new.pass i.stays c.make_round.ensures.stays;
      made = more_rounds (events_of c.args.pass.now) (events_of c.loop-before.pass) (events_of c.make_round.new.pass) c.loop-before.before i.made (c.in_ok-make_round.ensures).ok;
      told = λ d. c.make_round.ensures.told (display_rounds c.args.pass.now c.loop-before.pass c.loop-before.before d i.stays i.made) (i.told d);
    }

pub returns-in_err-make_round-clause-told : goal.returns-in_err-make_round-clause-told
returns-in_err-make_round-clause-told g c = λ d.
    let i = c.loop-before.invariant in
    c.make_round.ensures.told (display_rounds c.args.pass.now c.loop-before.pass c.loop-before.before d i.stays i.made) (i.told d)

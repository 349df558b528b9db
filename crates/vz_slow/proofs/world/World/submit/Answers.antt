use Rattle.std.proofs.Common.{◌∙◌}
use Rattle.vz_slow.proofs.Accepting.{submit_refused, submit_accepted}
use Rattle.vz_slow.proofs.world.World.submit.Goals as goal

pub returns-in_ok-refuse-in-Some : goal.returns-in_ok-refuse-in-Some
returns-in_ok-refuse-in-Some c = λ x local h e own same.
    c.in_ok-refuse-in-Some.ensures.value x h ∙ submit_refused c.args.self.now x local c.args.frame.now c.args.refusal c.in-Some.reason e c.in-Some.is

pub returns-in_ok-accept-in-None : goal.returns-in_ok-accept-in-None
returns-in_ok-accept-in-None c = λ x local h e own same.
    c.in_ok-accept-in-None.ensures x local h own same ∙ submit_accepted c.args.self.now x local c.args.frame.now c.args.refusal e c.in-None.is

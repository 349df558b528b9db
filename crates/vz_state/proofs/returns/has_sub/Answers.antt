use Rattle.std.proofs.Common.{◌∙◌}
use Rattle.vz_state.proofs.Among.{among_subs}
use Rattle.vz_state.proofs.returns.has_sub.Goals as goal

pub returns : goal.returns
returns c = c.contains.ensures.value ∙ among_subs c.args.subs.now c.args.sub

use Rattle.std.proofs.Common.{◌∙◌}
use Rattle.vz_state.proofs.Among.{among_sinks}
use Rattle.vz_state.proofs.sinks.has_sink.Goals as goal

pub returns : goal.returns
returns c = c.contains.ensures.value ∙ among_sinks c.args.sinks.now c.args.a

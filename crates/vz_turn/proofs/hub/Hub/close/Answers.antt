use Rattle.vz_turn.proofs.Turning.{closed_behind}
use Rattle.vz_turn.proofs.hub.Hub.close.Goals as goal

pub returns-clause-passes : goal.returns-clause-passes
returns-clause-passes g c = closed_behind (g.M.Machine.state c.into_parts.result.0) c.close.result _ c.into_parts.ensures.machine c.into_parts.ensures.history _ c.close.ensures.tokens c.close.ensures.others

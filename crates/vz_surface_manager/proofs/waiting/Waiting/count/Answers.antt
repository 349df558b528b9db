use Rattle.std.proofs.Common.{ap, ◌∙◌, length}
use Rattle.vz_surface_manager.proofs.Ticked_waits.{some_wait}
use Rattle.vz_surface_manager.proofs.waiting.Waiting.count.Goals as goal

pub returns-clause-some : goal.returns-clause-some
returns-clause-some c w none r = some_wait w c.args.self.now c.waiting.result none r (c.waiting.ensures ∙ ap (λ v. length v.due) c.self.view_is)

use Rattle.std.proofs.Common.{ap, ◌∙◌}
use Rattle.vz_sinks.specs.Relating.{attached_in}
use Rattle.vz_support.specs.Supporting.{Supported}
use Rattle.vz_support.proofs.Asking.{attached_here}
use Rattle.vz_support.proofs.support.Support.attached.Goals as goal

pub returns : goal.returns
returns c m keeps is =
    attached_here m c.args.self.now c.args.c keeps.clients is c.requires.some c.requires.known c.attached.result
    (c.attached.ensures ∙ ap (λ (v : Supported). attached_in v.sinks c.args.c) c.self.view_is)

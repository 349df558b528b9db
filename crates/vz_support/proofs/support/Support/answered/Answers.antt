use Rattle.std.proofs.Common.{ap, ◌∙◌}
use Rattle.vz_support.specs.{Sent.sender_at, Supporting.Supported}
use Rattle.vz_support.proofs.Asking.{answered_here}
use Rattle.vz_support.proofs.support.Support.answered.Goals as goal

pub returns : goal.returns
returns c m keeps is =
    answered_here m c.args.self.now c.args.c keeps.clients is c.requires.some c.requires.known c.self.inside.tick
    c.answered-answered.result (ap (λ (v : Supported). v.tick) c.self.view_is)
    (c.answered-answered.ensures ∙ ap (λ (v : Supported). (sender_at v.clients c.args.c).answered) c.self.view_is)

use Rattle.std.proofs.Common.{ap, ◌∙◌}
use Rattle.vz_frame.specs.Frame.{first_of}
use Rattle.vz_machine.specs.Stepping.{listed_in}
use Rattle.vz_support.specs.{Sent.sender_at, Supporting.Supported}
use Rattle.vz_support.proofs.Asking.{listed_here}
use Rattle.vz_support.proofs.support.Support.listed.Goals as goal

pub returns : goal.returns
returns c m keeps is =
    listed_here m c.args.self.now c.args.c keeps.clients is c.requires.some c.requires.known c.listed_in.result
    (c.listed_in.ensures
    ∙ ap listed_in (c.next.ensures ∙ ap (λ (v : Supported). first_of (sender_at v.clients c.args.c).left) c.self.view_is))

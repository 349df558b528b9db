use Rattle.std.proofs.Common.{is_some, ap, ◌∙◌}
use Rattle.vz_frame.specs.Frame.{first_of}
use Rattle.vz_support.specs.{Sent.sender_at, Supporting.Supported, Supporting.is_await}
use Rattle.vz_sinks.specs.Relating.{standing}
use Rattle.vz_support.proofs.Asking.{waits_here}
use Rattle.vz_support.proofs.support.Support.waits.Goals as goal

pub returns : goal.returns
returns c m keeps is =
    waits_here m c.args.self.now c.args.c keeps.clients is c.requires.some c.requires.known _ _ _ _
    (c.is_await-awaits.ensures
    ∙ ap is_await (c.next.ensures ∙ ap (λ (v : Supported). first_of (sender_at v.clients c.args.c).left) c.self.view_is))
    (c.stands-stands.ensures ∙ ap (λ (v : Supported). is_some (standing v.sinks.seats c.args.c)) c.self.view_is)
    (ap (λ (v : Supported). v.over) c.self.view_is)
    (c.is_closed-is_closed.ensures ∙ ap (λ (v : Supported). (sender_at v.clients c.args.c).closed) c.self.view_is)

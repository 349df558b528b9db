use Rattle.std.proofs.Common.{is_none, ap, ◌∙◌}
use Rattle.vz_frame.specs.Frame.{first_of}
use Rattle.vz_support.specs.{Sent.sender_at, Supporting.Supported}
use Rattle.vz_support.proofs.Asking.{copied_none, idle_here}
use Rattle.vz_support.proofs.support.Support.idle.Goals as goal

pub returns : goal.returns
returns c m keeps is =
    idle_here m c.args.self.now c.args.c keeps.clients is c.requires.some c.requires.known _ _ _
    (c.is_closed-is_closed.ensures ∙ ap (λ (v : Supported). (sender_at v.clients c.args.c).closed) c.self.view_is)
    (copied_none c.next.result c.is_none-is_done.result c.is_none-is_done.ensures
    ∙ ap is_none (c.next.ensures ∙ ap (λ (v : Supported). first_of (sender_at v.clients c.args.c).left) c.self.view_is))
    (c.waits.ensures m keeps is)

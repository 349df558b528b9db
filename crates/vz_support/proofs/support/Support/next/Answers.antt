use Rattle.std.proofs.Common.{ap, ◌∙◌}
use Rattle.vz_frame.specs.Frame.{first_of}
use Rattle.vz_support.specs.{Sent.sender_at, Supporting.Supported}
use Rattle.vz_support.proofs.Asking.{next_same}
use Rattle.vz_support.proofs.support.Support.next.Goals as goal

pub returns-clause-next : goal.returns-clause-next
returns-clause-next c p w x is here =
    c.next.ensures ∙ (ap (λ (v : Supported). first_of (sender_at v.clients c.args.c).left) c.self.view_is
    ∙ next_same p w c.args.self.now c.args.c x is here)

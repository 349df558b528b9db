use Rattle.std.proofs.Common.{ap, ◌∙◌}
use Rattle.vz_support.specs.{Sent.sender_at, Supporting.Supported}
use Rattle.vz_support.proofs.Asking.{kept_of}
use Rattle.vz_support.proofs.support.Support.sink.Goals as goal

pub returns : goal.returns
returns c p w x is here =
    c.sink.ensures ∙ (ap (λ (v : Supported). (sender_at v.clients c.args.c).sink) c.self.view_is
    ∙ (kept_of p w c.args.self.now c.args.c x is here).sink)

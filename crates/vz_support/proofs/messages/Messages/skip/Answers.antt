use Rattle.std.proofs.Common.{◌+◌, drop, sym, ap, ◌∙◌}
use Rattle.std.proofs.lemmas.List.{drop-drop}
use Rattle.vz_support.specs.Sent.{Left}
use Rattle.vz_support.proofs.messages.Messages.skip.Goals as goal

pub returns : goal.returns
returns c =
    let more = sym (drop-drop 1 c.self.inside.taken c.self.inside.items.items) in
    (λ i. record { left = more i; taken = c.self.inside.taken + 1 })
    ∙ ap (λ (l : Left). record { left = drop 1 l.left; taken = l.taken + 1 }) c.self.view_is

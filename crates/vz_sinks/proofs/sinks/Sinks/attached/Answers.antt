use Rattle.std.proofs.Common.{ap, ◌∙◌}
use Rattle.vz_rules.specs.Plan.{has_sink}
use Rattle.vz_sinks.specs.Relating.{holds_of, attached_in}
use Rattle.vz_sinks.proofs.Seated.{attached_is}
use Rattle.vz_sinks.proofs.sinks.Sinks.attached.Goals as goal

pub returns : goal.returns
returns c =
    c.is_attached.ensures ∙ (λ i. holds_of (λ s. has_sink (c.as_slice.ensures i) s.sink) (c.deref.ensures.value i) c.args.c)
    ∙ attached_is c.self.inside.seats.items c.self.inside.reached c.self.inside.first c.self.inside.relations.items c.self.invariant c.args.c ∙ ap (λ v. attached_in v c.args.c) c.self.view_is

use Rattle.std.proofs.Common.{◌≡◌, map, length, rules, ap, ◌∙◌}
use Rattle.vz_rules.specs.Plan.{has_sink}
use Rattle.vz_sinks.specs.Relating.{deliver_to, delivered_to}
use Rattle.vz_sinks.proofs.Seated.{whole_written, delivered_is}
use Rattle.vz_sinks.proofs.sinks.Sinks.begin.Goals as goal

pub returns-clause-seats : goal.returns-clause-seats
returns-clause-seats c =
    let inside = c.self.inside in
    let long : inside.seats.len ≡ length inside.seats.items = search rules in
    let made : c.deliver_to_all.new.seats ≡ map (λ s. deliver_to (has_sink inside.reached s.sink) c.args.n s) inside.seats.items =
    c.deliver_to_all.ensures ∙ (λ i. map (λ s. deliver_to (has_sink (c.as_slice.ensures i) s.sink) c.args.n s) (c.as_mut_slice.ensures.value i)) in
    whole_written (λ s. deliver_to (has_sink inside.reached s.sink) c.args.n s) inside.seats.items c.deliver_to_all.new.seats inside.seats.len long made
    ∙ delivered_is inside.seats.items inside.reached inside.first inside.relations.items c.self.invariant c.args.n ∙ ap (λ v. delivered_to v c.args.n) c.self.view_is

use Rattle.std.proofs.Common.{ℕ, ◌+◌, ◌≤◌, ap, arith}
use Rattle.vz_desk.specs.{declared.totals.Totals.Totals, Owners.Owner}
use Rattle.vz_threads.specs.{Crews.WorksOn, Told.anything}
use Rattle.vz_threads.proofs.{Ends.at_both, Working.works_gated}
use Rattle.vz_threads.proofs.messages.take_next.Goals as goal

pub returns-clause-works : goal.returns-clause-works
returns-clause-works g c =
    let r = c.gated.ensures.answer in
    let on = at_both (WorksOn anything) r.shown.now r.left.now c.args.end.now c.gated.new.state r.shows r.leaves r.met.0 in
    let most = at_both (λ (a b : Owner Totals). b.totals.taken ≤ a.totals.taken + 1) r.shown.now r.left.now c.args.end.now c.gated.new.state r.shows r.leaves r.met.1.1 in
    works_gated (g.G.Gate.told c.args.gate.now) c.args.desk.now.id c.args.count c.args.end.now c.gated.new.state c.client.result _ c.requires.may c.requires.left (omega (arith, c.ranges.count)) on most
    c.client.ensures.number (ap (λ (n : ℕ). n + 1) c.calls.ensures) c.gated.ensures.told

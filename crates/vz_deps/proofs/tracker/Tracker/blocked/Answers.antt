use Rattle.std.proofs.Common.{length, arith, ap}
use Rattle.vz_deps.specs.Lacking.{unmet_in}
use Rattle.vz_deps.specs.Ordered.{in_order}
use Rattle.vz_deps.proofs.Orders.{order_length}
use Rattle.vz_deps.proofs.Views.{listed_length}
use Rattle.vz_deps.proofs.tracker.Tracker.blocked.Goals as goal

pub returns : goal.returns
returns c =
    let entries = c.self.inside.subs.entries in
    let long = listed_length (unmet_in c.self.inside.lacks) (in_order entries) in
    let all = order_length entries c.len.ensures.unique in
    let same = ap (λ v. length v.list) c.self.view_is in
    omega (arith, c.len.ensures.len, long, all, same)

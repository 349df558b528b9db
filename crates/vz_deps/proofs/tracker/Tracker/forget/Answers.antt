use Rattle.std.proofs.Common.{ap, sym, ◌∙◌}
use Rattle.vz_deps.specs.Tracking.{listed, without, is_blocked}
use Rattle.vz_deps.specs.Lacking.{unmet_in}
use Rattle.vz_deps.specs.Ordered.{in_order}
use Rattle.vz_deps.proofs.Orders.{at_order, rising_order}
use Rattle.vz_deps.proofs.Views.{listed_same, listed_without, gone_sub}
use Rattle.vz_deps.proofs.tracker.Tracker.forget.Goals as goal

pub returns-clause-list : goal.returns-clause-list
returns-clause-list c =
    let less = c.forget_sub.new.subs.entries in
    let unmet = unmet_in c.self.inside.lacks in
    listed_same (unmet_in c.forget_sub.new.lacks) unmet (in_order less) (rising_order less) (λ o t h. c.forget_sub.ensures.unmet o t (sym (at_order o less) ∙ h))
    ∙ ap (listed unmet) c.forget_sub.ensures.subs ∙ listed_without unmet c.args.s (in_order c.self.inside.subs.entries) ∙ ap (λ v. without c.args.s v.list) c.self.view_is

pub returns-clause-gone : goal.returns-clause-gone
returns-clause-gone c = ap (λ l. is_blocked l c.args.s) (returns-clause-list c) ∙ gone_sub c.args.s c.args.self.now.list

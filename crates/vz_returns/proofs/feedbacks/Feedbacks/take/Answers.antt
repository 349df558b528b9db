use Rattle.std.proofs.Common.{is_some, ap, sym, ◌∙◌}
use Rattle.vz_returns.specs.Unfed.{is_open, fed}
use Rattle.vz_returns.proofs.Sorted_subs.{sorted_has, fed_is}
use Rattle.vz_returns.proofs.feedbacks.Feedbacks.take.Goals as goal

pub returns-clause-there : goal.returns-clause-there
returns-clause-there c =
    ap is_some c.swap_remove.ensures.value ∙ sym (sorted_has c.self.inside.places.entries c.args.s) ∙ ap (λ v. is_open v.list c.args.s) c.self.view_is

pub returns-clause-list : goal.returns-clause-list
returns-clause-list c =
    fed_is c.args.s c.self.inside.places.entries c.swap_remove.new.self.entries c.swap_remove.ensures.updates.0
    ∙ ap (λ v. fed c.args.s v.list) c.self.view_is

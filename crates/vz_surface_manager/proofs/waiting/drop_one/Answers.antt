use Rattle.std.proofs.Common.{ap, sym, ◌∙◌, option_to_list}
use Rattle.vz_surface_manager.specs.Left_out.{blocked_without, due_without}
use Rattle.vz_surface_manager.proofs.Without.{blocked_none, blocked_one, due_none, due_one}
use Rattle.vz_surface_manager.proofs.waiting.drop_one.Goals as goal

pub returns-in-Some-clause-blocked : goal.returns-in-Some-clause-blocked
returns-in-Some-clause-blocked c = c.forget.ensures.list ∙ blocked_one c.args.sub c.in-Some.s c.args.tracker.now.list c.in-Some.is

pub returns-in-Some-clause-due : goal.returns-in-Some-clause-due
returns-in-Some-clause-due c = c.clear.ensures.list ∙ due_one c.args.sub c.in-Some.s c.args.deadlines.now.list c.in-Some.is

pub returns-in_default-clause-blocked : goal.returns-in_default-clause-blocked
returns-in_default-clause-blocked c = blocked_none c.args.tracker.now.list ∙ ap (λ o. blocked_without (option_to_list o) c.args.tracker.now.list) (sym c.in_default.is)

pub returns-in_default-clause-due : goal.returns-in_default-clause-due
returns-in_default-clause-due c = due_none c.args.deadlines.now.list ∙ ap (λ o. due_without (option_to_list o) c.args.deadlines.now.list) (sym c.in_default.is)

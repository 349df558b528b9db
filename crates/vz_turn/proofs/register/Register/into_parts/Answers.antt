use Rattle.std.proofs.Common.{◌∙◌}
use Rattle.vz_turn.proofs.Keeping.{behind_is, history_is, legal_is}
use Rattle.vz_turn.proofs.register.Register.into_parts.Goals as goal

pub returns-clause-machine : goal.returns-clause-machine
returns-clause-machine g c = behind_is (g.M.Machine.state c.self.inside.machine) _ _ c.self.invariant c.args.self c.self.view_is

pub returns-clause-history : goal.returns-clause-history
returns-clause-history g c = c.into_list.ensures ∙ history_is (g.M.Machine.state c.self.inside.machine) _ _ c.self.invariant c.args.self c.self.view_is

pub returns-clause-legal : goal.returns-clause-legal
returns-clause-legal g c = legal_is (g.M.Machine.state c.self.inside.machine) _ _ c.self.invariant c.args.self c.self.view_is

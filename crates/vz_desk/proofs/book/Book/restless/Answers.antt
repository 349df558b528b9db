use Rattle.std.proofs.Common.{sym, ◌∙◌}
use Rattle.vz_rules.specs.Step.{world}
use Rattle.vz_desk.proofs.Calming.{not_calm}
use Rattle.vz_desk.proofs.book.Book.restless.Goals as goal

pub returns-then-is_restless-clause-calm : goal.returns-then-is_restless-clause-calm
returns-then-is_restless-clause-calm g c = sym (not_calm c.args.self.now.plan (world c.args.self.now.plan c.args.self.now.history) c.args.last (sym c.is_restless.ensures ∙ c.if-is_restless.true))

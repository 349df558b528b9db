use Rattle.std.proofs.Common.{◌+◌, arith, sym, ◌∙◌}
use Rattle.vz_rules.specs.Step.{world}
use Rattle.vz_desk.specs.Books.{machine_of}
use Rattle.vz_desk.proofs.Calming.{not_calm, rests_more, book_calm}
use Rattle.vz_desk.proofs.book.Book.first_restless.Goals as goal

pub returns-then-is_restless-clause-calm : goal.returns-then-is_restless-clause-calm
returns-then-is_restless-clause-calm g c = sym (not_calm c.args.self.now.plan (world c.args.self.now.plan c.args.self.now.history) (c.loop-before.before + 1) (sym c.is_restless.ensures ∙ c.if-is_restless.true))

pub loop-before-preserved : goal.loop-before-preserved
loop-before-preserved g c = rests_more (machine_of c.args.self.now) c.loop-before.before c.loop-before.invariant (sym c.is_restless.ensures ∙ c.if-is_restless.false)

pub returns-clause-calm : goal.returns-clause-calm
returns-clause-calm g c = sym (book_calm (g.M.Machine.state c.self.inside.machine) c.self.inside.clients _ _ c.args.self.now c.self.invariant c.self.view_is (λ k l. let last = c.loop-before-test.false in c.loop-before.invariant k (omega arith)))

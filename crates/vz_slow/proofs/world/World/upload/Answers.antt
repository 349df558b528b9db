use Rattle.std.proofs.Common.{sym, ◌∙◌}
use Rattle.vz_slow.proofs.Answering.{upload_in_use, upload_stored}
use Rattle.vz_slow.proofs.world.World.upload.Goals as goal

pub returns-then-used-clause-value : goal.returns-then-used-clause-value
returns-then-used-clause-value c = λ x h u. c.in_ok-refuse.ensures.value x h ∙ upload_in_use c.args.self.now x c.args.id c.args.block.now (sym u ∙ c.if-used.true)

pub returns-clause-value : goal.returns-clause-value
returns-clause-value c = λ x h u. upload_stored c.args.self.now _ x c.args.id c.args.block.now (sym u ∙ c.if-used.false) (c.in_ok-change_alone.ensures.value x h)

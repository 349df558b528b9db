use Rattle.std.proofs.Common.{true, false, refl, sym, ◌∙◌}
use Rattle.vz_manager.proofs.Judged.{shape_by}
use Rattle.vz_manager.proofs.judging.shape_refusal.Goals as goal

pub returns-then-violates : goal.returns-then-violates
returns-then-violates c = shape_by c.args.last c.args.local.now c.args.size true _ (sym c.violates.ensures ∙ c.if-violates.true) refl

pub returns-then-has_other_size : goal.returns-then-has_other_size
returns-then-has_other_size c =
    shape_by c.args.last c.args.local.now c.args.size false true (sym c.violates.ensures ∙ c.if-violates.false)
    (sym c.has_other_size.ensures ∙ c.if-has_other_size.true)

pub returns : goal.returns
returns c =
    shape_by c.args.last c.args.local.now c.args.size false false (sym c.violates.ensures ∙ c.if-violates.false)
    (sym c.has_other_size.ensures ∙ c.if-has_other_size.false)

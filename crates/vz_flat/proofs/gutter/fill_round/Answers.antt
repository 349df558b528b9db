use Rattle.std.proofs.Common.{sym, ◌∙◌}
use Rattle.vz_flat.proofs.Rounded.{lies_in}
use Rattle.vz_flat.proofs.gutter.fill_round.Goals as goal

pub above-requires : goal.above-requires
above-requires c =
    lies_in c.args.outer.now c.args.inner.now c.requires
    (sym c.is_empty-2.ensures.value ∙ c.if-is_empty.false) c.is_empty.ensures.proper c.is_empty-2.ensures.proper

pub beneath-requires : goal.beneath-requires
beneath-requires c =
    lies_in c.args.outer.now c.args.inner.now c.requires
    (sym c.is_empty-2.ensures.value ∙ c.if-is_empty.false) c.is_empty.ensures.proper c.is_empty-2.ensures.proper

pub left_of-requires : goal.left_of-requires
left_of-requires c =
    lies_in c.args.outer.now c.args.inner.now c.requires
    (sym c.is_empty-2.ensures.value ∙ c.if-is_empty.false) c.is_empty.ensures.proper c.is_empty-2.ensures.proper

pub right_of-requires : goal.right_of-requires
right_of-requires c =
    lies_in c.args.outer.now c.args.inner.now c.requires
    (sym c.is_empty-2.ensures.value ∙ c.if-is_empty.false) c.is_empty.ensures.proper c.is_empty-2.ensures.proper

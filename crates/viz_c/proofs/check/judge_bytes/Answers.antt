use Rattle.std.proofs.Common.{◌∙◌, refl, sym}
use Rattle.viz_c.proofs.One_file.{judged_whole}
use Rattle.viz_c.proofs.check.judge_bytes.Goals as goal

pub returns : goal.returns
returns c =
    let judged = c.in-Ok-check.ensures.verdict in
    judged_whole c.args.plan.now c.args.log.now c.args.frames.now _ judged.0 c.in-Ok-check.verdict
    (sym c.in_ok-shelf.ensures ∙ c.in-Ok.ensures.whole refl) (judged.1 refl) judged.2

use Rattle.std.proofs.Common.{refl, ◌∙◌}
use Rattle.vz_occlude.proofs.Walked.{at_none}
use Rattle.vz_occlude.proofs.culler.OcclusionCuller.new.Goals as goal

pub returns-clause-nothing : goal.returns-clause-nothing
returns-clause-nothing c = at_none _ (c.len-kept.ensures ∙ c.args.ops.ok.0) c.new.ensures.items refl refl c.new-2.ensures.items

pub returns-clause-kept : goal.returns-clause-kept
returns-clause-kept c = c.len-kept.ensures ∙ c.args.ops.ok.0

use Rattle.std.proofs.Common.{◌∙◌}
use Rattle.vz_refs.specs.Noted.{noted}
use Rattle.vz_refs.proofs.Noting.{stands}
use Rattle.vz_refs.proofs.marking.is_out.Goals as goal

pub returns-in-Some : goal.returns-in-Some
returns-in-Some c = c.stands_at.ensures ∙ stands (noted c.args.sets.now.keys c.args.notes.now) c.args.out.now c.args.id.now c.in-Some.place c.requires c.in-Some.ensures

use Rattle.std.proofs.Common.{is_some, ap, ◌∙◌}
use Rattle.vz_ids.specs.Ids.{same_surface}
use Rattle.vz_rules.specs.World.{Surface}
use Rattle.vz_rules.proofs.Members.{found}
use Rattle.vz_state.proofs.Among.{copied_some, on_one}
use Rattle.vz_state.proofs.lost.is_on_one.Goals as goal

pub returns : goal.returns
returns c =
    let surfaces = c.args.surfaces.now in
    let s = c.args.submission.now in
    c.is_some.ensures ∙ (copied_some c.surface_of.result ∙ (ap is_some c.surface_of.ensures ∙ (found (λ (x : Surface). same_surface x.id s.submitted.id) surfaces ∙ on_one surfaces s)))

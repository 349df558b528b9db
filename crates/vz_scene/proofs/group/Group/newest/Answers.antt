use Rattle.std.proofs.Common.{Bor, map, sym, ap, ◌∙◌}
use Rattle.vz_rules.specs.World.{FrameData}
use Rattle.vz_scene.proofs.Chains.{last_newest, last_of_references}
use Rattle.vz_scene.proofs.group.Group.newest.Goals as goal

pub returns-in-Some : goal.returns-in-Some
returns-in-Some c =
    last_newest c.args.self.now c.in-Some.submitted.now.now c.requires
    (last_of_references c.deref.result.now c.args.self.now c.in-Some.submitted.now (ap (map (λ (r : Bor FrameData). r.now)) c.deref.ensures.value ∙ c.self.view_is) (sym c.in-Some.ensures.value))

use Rattle.std.proofs.Common.{Bor, map, subst, sym, ap, ◌∙◌}
use Rattle.vz_rules.specs.World.{FrameData}
use Rattle.vz_scene.specs.Groups.{IsChain}
use Rattle.vz_scene.proofs.Chains.{chain_more, last_of_references}
use Rattle.vz_scene.proofs.group.Group.goes_on.Goals as goal

pub returns-in-Some : goal.returns-in-Some
returns-in-Some c =
    λ t. chain_more c.args.self.now c.args.submitted.now c.in-Some.last.now.now (subst IsChain c.self.view_is (c.self.invariant c.if-self.true))
    (last_of_references c.deref.result.now c.args.self.now c.in-Some.last.now (ap (map (λ (r : Bor FrameData). r.now)) c.deref.ensures.value ∙ c.self.view_is) (sym c.in-Some.ensures.value))
    (sym c.is_newer.ensures ∙ t)

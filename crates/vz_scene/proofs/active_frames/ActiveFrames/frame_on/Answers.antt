use Rattle.std.proofs.Common.{None, [], ap, ◌∙◌}
use Rattle.std.specs.Option.{option_copied}
use Rattle.vz_rules.specs.World.{frame_on}
use Rattle.vz_rules.proofs.Members.{contains_none}
use Rattle.vz_scene.proofs.{Chains.group_is, Chains.group_none, Showing.found_on}
use Rattle.vz_scene.proofs.active_frames.ActiveFrames.frame_on.Goals as goal

pub returns-in-None : goal.returns-in-None
returns-in-None c =
    let id = c.args.id.now in
    let all = c.self.inside.all.now in
    found_on id all [] None (group_none c.self.inside.groups all id c.group.result c.self.invariant c.group.ensures c.in-None.ensures.value) (λ y h. absurd (contains_none y h))
    ∙ ap (frame_on id) c.self.view_is

pub returns-else-not-is_chain : goal.returns-else-not-is_chain
returns-else-not-is_chain c =
    let id = c.args.id.now in
    let all = c.self.inside.all.now in
    c.only_on.ensures
    ∙ (found_on id all c.in-Some.group.now (option_copied c.newest_up_to-found.result)
    (group_is c.self.inside.groups all id c.group.result c.in-Some.group.now c.self.invariant c.group.ensures c.in-Some.ensures.value) c.newest_up_to-found.ensures
    ∙ ap (frame_on id) c.self.view_is)

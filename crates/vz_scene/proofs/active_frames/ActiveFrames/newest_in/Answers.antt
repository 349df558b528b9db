use Rattle.std.proofs.Common.{None, [], filter, ap, ◌∙◌}
use Rattle.std.specs.Option.{option_copied}
use Rattle.vz_rules.specs.Scene.{in_range, newest}
use Rattle.vz_rules.proofs.Members.{contains_none}
use Rattle.vz_scene.proofs.{Chains.group_is, Chains.group_none, Showing.found_in}
use Rattle.vz_scene.proofs.active_frames.ActiveFrames.newest_in.Goals as goal

pub returns-in-None : goal.returns-in-None
returns-in-None c =
    let range = c.args.range.now in
    let all = c.self.inside.all.now in
    found_in range all [] None (group_none c.self.inside.groups all range.end c.group.result c.self.invariant c.group.ensures c.in-None.ensures.value) (λ y h. absurd (contains_none y h))
    ∙ ap (λ l. newest (filter (in_range range) l)) c.self.view_is

pub returns-else-not-is_chain : goal.returns-else-not-is_chain
returns-else-not-is_chain c =
    let range = c.args.range.now in
    let all = c.self.inside.all.now in
    c.only_in.ensures
    ∙ (found_in range all c.in-Some.group.now (option_copied c.newest_up_to-found.result)
    (group_is c.self.inside.groups all range.end c.group.result c.in-Some.group.now c.self.invariant c.group.ensures c.in-Some.ensures.value) c.newest_up_to-found.ensures
    ∙ ap (λ l. newest (filter (in_range range) l)) c.self.view_is)

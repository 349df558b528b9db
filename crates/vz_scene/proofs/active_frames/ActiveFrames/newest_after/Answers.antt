use Rattle.std.proofs.Common.{None, [], filter, ap, ◌∙◌}
use Rattle.std.specs.Option.{option_copied}
use Rattle.vz_rules.specs.Scene.{after_start, newest}
use Rattle.vz_rules.proofs.Members.{contains_none}
use Rattle.vz_scene.proofs.{Chains.group_is, Chains.group_none, Showing.found_after, Showing.no_start}
use Rattle.vz_scene.proofs.active_frames.ActiveFrames.newest_after.Goals as goal

pub returns-in-None : goal.returns-in-None
returns-in-None c = no_start c.args.range.now c.args.self.now c.in-None.is

pub returns-in-None-get : goal.returns-in-None-get
returns-in-None-get c =
    let range = c.args.range.now in
    let start = c.in-Some.start in
    let all = c.self.inside.all.now in
    found_after range start all [] None c.in-Some.is (group_none c.self.inside.groups all start c.group.result c.self.invariant c.group.ensures c.in-None-get.ensures.value) (λ y h. absurd (contains_none y h))
    ∙ ap (λ l. newest (filter (after_start range.start range.end) l)) c.self.view_is

pub returns-else-not-is_chain : goal.returns-else-not-is_chain
returns-else-not-is_chain c =
    let range = c.args.range.now in
    let start = c.in-Some.start in
    let all = c.self.inside.all.now in
    c.only_after.ensures
    ∙ (found_after range start all c.in-Some-get.group.now (option_copied c.newest-found.result) c.in-Some.is
    (group_is c.self.inside.groups all start c.group.result c.in-Some-get.group.now c.self.invariant c.group.ensures c.in-Some-get.ensures.value) c.newest-found.ensures
    ∙ ap (λ l. newest (filter (after_start range.start range.end) l)) c.self.view_is)

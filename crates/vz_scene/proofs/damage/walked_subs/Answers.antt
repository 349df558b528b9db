use Rattle.std.proofs.Common.{map, ap, ◌∙◌}
use Rattle.std.specs.{List.list_any, BTreeSet.contains}
use Rattle.vz_rules.specs.{World.FrameData, Walk.goes_into}
use Rattle.vz_scene.specs.Order.{by_sub}
use Rattle.vz_scene.proofs.Ties.{filter_same}
use Rattle.vz_scene.proofs.damage.walked_subs.Goals as goal

pub returns : goal.returns
returns c =
    c.in_ok-subs_in.ensures
    ∙ ap (map (λ (i : FrameData). i.sub)) (filter_same (λ (i : FrameData). contains by_sub c.in_ok-entered.entered i.sub) (λ (i : FrameData). list_any (goes_into i) c.args.visits.now) c.args.active.now c.in_ok-entered.ensures)

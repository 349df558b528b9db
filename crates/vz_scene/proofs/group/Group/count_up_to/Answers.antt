use Rattle.std.proofs.Common.{rules, Bor, map, ap, ◌∙◌}
use Rattle.std.proofs.lemmas.List.Sorted.{IsPartitionPoint-from_clause}
use Rattle.vz_ids.specs.Ids.{at_least}
use Rattle.vz_rules.specs.World.{FrameData}
use Rattle.vz_scene.proofs.Chains.{chain_point}
use Rattle.vz_scene.proofs.group.Group.count_up_to.Goals as goal

pub returns-clause-point : goal.returns-clause-point
returns-clause-point c =
    chain_point c.deref.result.now c.args.self.now c.args.end.now c.partition_point.result (ap (map (λ (r : Bor FrameData). r.now)) c.deref.ensures.value ∙ c.self.view_is) c.requires c.partition_point.ensures.bound
    (λ parts. IsPartitionPoint-from_clause (λ (r : Bor FrameData). at_least c.args.end.now r.now.id) c.deref.result.now c.partition_point.result c.partition_point.ensures.partitioned parts (λ a r f' k. search rules))

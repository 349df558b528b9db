use Rattle.std.proofs.Common.{rules}
use Rattle.std.proofs.lemmas.List.Sorted.{IsPartitionPoint-from_clause}
use Rattle.vz_surfaces.specs.declared.groups.Link.{Link}
use Rattle.vz_ids.specs.Ids.{at_least}
use Rattle.vz_surfaces.proofs.Pointing.{point_filter, linked_parts}
use Rattle.vz_surfaces.proofs.groups.up_to.Goals as goal

pub returns : goal.returns
returns c =
    let chain = c.args.chain.now in
    let count = c.partition_point-count.result in
    point_filter (λ (l : Link). at_least c.args.end.now l.id) chain count c.partition_point-count.ensures.bound
    (IsPartitionPoint-from_clause (λ (l : Link). at_least c.args.end.now l.id) chain count c.partition_point-count.ensures.partitioned (linked_parts chain c.args.end.now c.requires) (λ a x f' k. search rules))

use Rattle.std.proofs.Common.{rules, nat_le}
use Rattle.std.proofs.lemmas.List.Sorted.{IsPartitionPoint-from_clause}
use Rattle.vz_surfaces.specs.declared.standing.Numbered.{Numbered}
use Rattle.vz_surfaces.proofs.Numbering.{front_filter, rises_parts}
use Rattle.vz_surfaces.proofs.standing.up_to.Goals as goal

pub returns : goal.returns
returns c =
    let list = c.args.list.now in
    let count = c.partition_point-count.result in
    front_filter (λ (x : Numbered). nat_le x.number c.args.to) list count c.partition_point-count.ensures.bound
    (IsPartitionPoint-from_clause (λ (x : Numbered). nat_le x.number c.args.to) list count c.partition_point-count.ensures.partitioned (rises_parts list c.args.to c.requires) (λ a x f' k. search rules))

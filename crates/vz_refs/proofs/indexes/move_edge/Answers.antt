use Rattle.std.proofs.Common.{Some, ap, sym, ◌∙◌, is_some}
use Rattle.indexmap.specs.IndexMap.{get}
use Rattle.vz_refs.specs.declared.sets.Edge.{Edge}
use Rattle.vz_refs.specs.Indexing.{same_nth}
use Rattle.vz_refs.proofs.Keyed.{nths, at_key, updated}
use Rattle.vz_refs.proofs.Indexed.{moved_edge}
use Rattle.vz_refs.proofs.indexes.move_edge.Goals as goal

pub returns-in-Some-clause-values : goal.returns-in-Some-clause-values
returns-in-Some-clause-values c q =
    let moved : Edge = record { range = c.in-Some.edge.now.range; at = c.args.at } in
    let lent = c.get_mut.follows.holds moved in
    let was = at_key _ same_nth nths c.args.edges.now c.args.slot (Some c.in-Some.edge.now) c.in-Some.ensures.value in
    updated _ same_nth nths c.args.edges.now (c.get_mut.follows.lender moved) c.args.slot (Some moved) (lent.3 (sym (ap is_some c.in-Some.ensures.value))) q
    ∙ moved_edge (get same_nth c.args.edges.now) c.args.slot q c.in-Some.edge.now c.args.at was

use Rattle.std.proofs.Common.{◌-◌, None, is_some, length, sym, ap, subst, ◌∙◌, arith}
use Rattle.indexmap.specs.IndexMap.{get}
use Rattle.vz_ids.specs.Ids.{same_surface}
use Rattle.vz_refs.specs.Referring.{ranges_of}
use Rattle.vz_refs.specs.Indexing.{same_nth, same_place, same_key, or_zero, IsIndexed}
use Rattle.vz_refs.proofs.Keyed.{surfaces, nths, places, groups, at_key, found, updated, written}
use Rattle.vz_refs.proofs.Shrinking.{popped_in}
use Rattle.vz_refs.proofs.Indexed.{edge_there}
use Rattle.vz_refs.proofs.sets.Sets.pop.Goals as goal

pub unwrap-edge-requires : goal.unwrap-edge-requires
unwrap-edge-requires c =
    let many = ap (λ v. length (ranges_of v.list c.args.id)) c.self.view_is in
    ap is_some (sym (at_key _ same_nth nths c.self.inside.edges _ _ c.swap_remove.ensures.value))
    ∙ edge_there _ _ _ _ _ c.self.invariant c.args.id (c.count.result - 1) (omega (arith, c.requires, c.count.ensures, many))

pub overflow_sub-last : goal.overflow_sub-last
overflow_sub-last c =
    let was = found _ same_nth nths c.self.inside.edges _ _ _ c.swap_remove.ensures.value c.unwrap-edge.ensures in
    let low = (c.self.invariant.seated.placed _ c.unwrap-edge.result was).1 in
    let size = c.size_of-last.ensures ∙ ap (λ h. or_zero (get same_key c.self.inside.sizes h)) c.group-group.ensures in
    omega (arith, low, size)

pub unwrap-moved-requires : goal.unwrap-moved-requires
unwrap-moved-requires c =
    let was = found _ same_nth nths c.self.inside.edges _ _ _ c.swap_remove.ensures.value c.unwrap-edge.ensures in
    let low = (c.self.invariant.seated.placed _ c.unwrap-edge.result was).1 in
    let size = c.size_of-last.ensures ∙ ap (λ h. or_zero (get same_key c.self.inside.sizes h)) c.group-group.ensures in
    ap is_some (sym (at_key _ same_place places c.self.inside.ends _ _ c.swap_remove-2.ensures.value))
    ∙ c.self.invariant.seated.filled _ (omega (arith, low, size, c.size_of-last.ensures))

pub invariant_of-self : goal.invariant_of-self
invariant_of-self c =
    let many = ap (λ v. length (ranges_of v.list c.args.id)) c.self.view_is in
    let was = found _ same_nth nths c.self.inside.edges _ _ _ c.swap_remove.ensures.value c.unwrap-edge.ensures in
    let low = (c.self.invariant.seated.placed _ c.unwrap-edge.result was).1 in
    let size = c.size_of-last.ensures ∙ ap (λ h. or_zero (get same_key c.self.inside.sizes h)) c.group-group.ensures in
    let last = found _ same_place places c.self.inside.ends _ _ _ c.swap_remove-2.ensures.value c.unwrap-moved.ensures in
    subst (λ l. IsIndexed l (get same_surface c.write-3.new.map) (get same_nth c.move_edge.new.edges) (get same_place c.write.new.map) (get same_key c.write-2.new.map)) (sym c.shorten.ensures)
    (popped_in _ _ _ _ _ c.self.invariant c.args.id (c.count.result - 1) (c.size_of-last.result - 1) c.unwrap-edge.result c.unwrap-moved.result c.group-group.result
    (omega (arith, c.requires, c.count.ensures, many)) was c.group-group.ensures (omega (arith, low, size, c.size_of-last.ensures)) last
    _ (written _ same_surface surfaces c.self.inside.counts c.write-3.new.map c.args.id (c.count.result - 1) c.write-3.ensures.values)
    _ _ (updated _ same_nth nths c.self.inside.edges c.swap_remove.new.self _ None c.swap_remove.ensures.updates) c.move_edge.ensures.values
    _ _ (updated _ same_place places c.self.inside.ends c.swap_remove-2.new.self _ None c.swap_remove-2.ensures.updates)
    (written _ same_place places c.swap_remove-2.new.self c.write.new.map _ c.unwrap-moved.result c.write.ensures.values)
    _ (written _ same_key groups c.self.inside.sizes c.write-2.new.map c.group-group.result (c.size_of-last.result - 1) c.write-2.ensures.values))

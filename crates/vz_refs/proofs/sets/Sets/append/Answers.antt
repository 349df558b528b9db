use Rattle.std.proofs.Common.{◌+◌, length, sym, ap, subst, ◌∙◌, arith}
use Rattle.indexmap.specs.IndexMap.{get}
use Rattle.vz_ids.specs.Ids.{same_surface}
use Rattle.vz_refs.specs.Referring.{is_set, ranges_of}
use Rattle.vz_refs.specs.Indexing.{same_nth, same_place, same_key, IsIndexed}
use Rattle.vz_refs.proofs.Same.{from_nth, self_nth, from_place, self_place}
use Rattle.vz_refs.proofs.Keyed.{surfaces, nths, places, groups, updated, written, of_ok}
use Rattle.vz_refs.proofs.Growing.{appended_in}
use Rattle.vz_refs.proofs.Indexed.{edge_there, no_more}
use Rattle.vz_refs.proofs.sets.Sets.append.Goals as goal

pub overflow_add-at : goal.overflow_add-at
overflow_add-at c =
    let few = no_more same_place from_place self_place (λ k. record { group = c.group-group.result; at = k }) (λ j k e. ap (λ p. p.at) e) c.self.inside.ends.entries c.size_of-at.result
    (λ k low. c.self.invariant.seated.filled (record { group = c.group-group.result; at = k }) (omega (arith, low, c.size_of-at.ensures))) in
    omega (arith, few, c.len-2.ensures.small, c.len-2.ensures.len)

pub overflow_add-slot : goal.overflow_add-slot
overflow_add-slot c =
    let many = ap (λ v. length (ranges_of v.list c.args.id)) c.self.view_is in
    let few = no_more same_nth from_nth self_nth (λ k. record { of = c.args.id; nth = k }) (λ j k e. ap (λ p. p.nth) e) c.self.inside.edges.entries c.count.result
    (λ k low. edge_there _ _ _ _ _ c.self.invariant c.args.id k (omega (arith, low, c.count.ensures, many))) in
    omega (arith, few, c.len.ensures.small, c.len.ensures.len)

pub invariant_of-self : goal.invariant_of-self
invariant_of-self c =
    let put = updated _ same_nth nths c.self.inside.edges c.insert.new.self _ _ (of_ok _ _ c.unwrap.result c.unwrap.ensures c.insert.ensures.updates) in
    let end = updated _ same_place places c.self.inside.ends c.insert-2.new.self _ _ (of_ok _ _ c.unwrap-2.result c.unwrap-2.ensures c.insert-2.ensures.updates) in
    let grown = updated _ same_key groups c.self.inside.sizes c.insert-3.new.self _ _ (of_ok _ _ c.unwrap-3.result c.unwrap-3.ensures c.insert-3.ensures.updates) in
    subst (λ l. IsIndexed l (get same_surface c.write.new.map) (get same_nth c.insert.new.self) (get same_place c.insert-2.new.self) (get same_key c.insert-3.new.self)) (sym c.lengthen.ensures)
    (appended_in _ _ _ _ _ c.self.invariant c.args.id c.args.range c.count.result c.size_of-at.result c.group-group.result (ap (λ v. is_set v.list c.args.id) c.self.view_is ∙ c.requires.set)
    (c.count.ensures ∙ sym (ap (λ v. length (ranges_of v.list c.args.id)) c.self.view_is)) c.group-group.ensures c.size_of-at.ensures
    _ (written _ same_surface surfaces c.self.inside.counts c.write.new.map c.args.id (c.count.result + 1) c.write.ensures.values) _ put _ end _ grown)

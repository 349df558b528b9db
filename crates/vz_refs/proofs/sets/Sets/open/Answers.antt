use Rattle.std.proofs.Common.{◌≡◌, true, false, Some, [], ◌∷◌, ◌++◌, is_some, refl, sym, ap, subst, ◌∙◌, cond, arith}
use Rattle.indexmap.specs.IndexMap.{get}
use Rattle.vz_ids.specs.Ids.{same_surface}
use Rattle.vz_refs.specs.Referring.{is_set}
use Rattle.vz_refs.specs.Indexing.{opening, same_nth, same_place, same_key, IsIndexed}
use Rattle.vz_refs.proofs.Keyed.{surfaces, at_key, updated, of_ok}
use Rattle.vz_refs.proofs.Indexed.{opened, counts_set}
use Rattle.vz_refs.proofs.sets.Sets.open.Goals as goal

pub invariant_of-self : goal.invariant_of-self
invariant_of-self c =
    let no : c.contains_key.result ≡ false = grind (arith, c.if-not-contains_key.true) in
    let unset : is_set c.self.inside.listing c.args.id ≡ false =
    sym (counts_set _ _ _ _ _ c.self.invariant c.args.id) ∙ ap is_some (at_key _ same_surface surfaces c.self.inside.counts c.args.id _ refl) ∙ sym c.contains_key.ensures ∙ no in
    subst (λ l. IsIndexed l (get same_surface c.insert.new.self) (get same_nth c.self.inside.edges) (get same_place c.self.inside.ends) (get same_key c.self.inside.sizes)) (sym c.open.ensures)
    (opened _ _ _ _ _ c.self.invariant c.args.id unset _ (updated _ same_surface surfaces c.self.inside.counts c.insert.new.self c.args.id (Some 0) (of_ok _ _ c.unwrap.result c.unwrap.ensures c.insert.ensures.updates)))

pub returns-else-not-contains_key-clause-list : goal.returns-else-not-contains_key-clause-list
unfolding opening
returns-else-not-contains_key-clause-list c =
    let there : is_set c.self.inside.listing c.args.id ≡ true =
    sym (counts_set _ _ _ _ _ c.self.invariant c.args.id) ∙ ap is_some (at_key _ same_surface surfaces c.self.inside.counts c.args.id _ refl) ∙ sym c.contains_key.ensures ∙ c.if-not-contains_key.false in
    let now = ap (λ v. is_set v.list c.args.id) (sym c.self.view_is) ∙ there in
    sym (ap (λ t. cond t c.args.self.now.list (c.args.self.now.list ++ record { id = c.args.id; ranges = [] } ∷ [])) now)

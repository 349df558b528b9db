use Rattle.std.proofs.Common.{◌≡◌, ℕ, ◌<◌, false, sym, ap, subst, ◌∙◌, arith}
use Rattle.indexmap.specs.IndexMap.{get}
use Rattle.vz_ids.specs.declared.GroupKey.{GroupKey}
use Rattle.vz_refs.specs.Referring.{is_named_in}
use Rattle.vz_refs.specs.Indexing.{same_nth, same_place, same_key, or_zero}
use Rattle.vz_refs.proofs.Indexed.{named_at, names_found, names_nowhere, one_more_below}
use Rattle.vz_refs.proofs.sets.Sets.is_named.Goals as goal

pub returns-then-names_at : goal.returns-then-names_at
returns-then-names_at c =
    sym (names_found _ _ _ _ _ c.self.invariant c.args.id.now (record { group = c.group-group.result; at = c.loop-at.at }) (sym c.names_at.ensures ∙ c.if-names_at.true))
    ∙ ap (λ v. is_named_in v.list c.args.id.now) c.self.view_is

pub loop-at-preserved : goal.loop-at-preserved
loop-at-preserved c =
    one_more_below (λ k. named_at (get same_nth c.self.inside.edges) (get same_place c.self.inside.ends) c.args.id.now (record { group = c.group-group.result; at = k })) c.loop-at.at c.loop-at.invariant
    (sym c.names_at.ensures ∙ c.if-names_at.false)

pub returns : goal.returns
returns c =
    let none : (k : ℕ) → k < or_zero (get same_key c.self.inside.sizes c.group-group.result)
    → named_at (get same_nth c.self.inside.edges) (get same_place c.self.inside.ends) c.args.id.now (record { group = c.group-group.result; at = k }) ≡ false = λ k low. c.loop-at.invariant k (omega (arith, low, c.size_of-at-end.ensures, c.loop-at-test.false)) in
    sym (names_nowhere _ _ _ _ _ c.self.invariant c.args.id.now (subst (λ (g : GroupKey). (k : ℕ) → k < or_zero (get same_key c.self.inside.sizes g)
    → named_at (get same_nth c.self.inside.edges) (get same_place c.self.inside.ends) c.args.id.now (record { group = g; at = k }) ≡ false) c.group-group.ensures none))
    ∙ ap (λ v. is_named_in v.list c.args.id.now) c.self.view_is

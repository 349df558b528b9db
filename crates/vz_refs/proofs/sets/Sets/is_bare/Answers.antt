use Rattle.std.proofs.Common.{◌≡◌, [], true, is_some, sym, ap, ◌∙◌, arith}
use Rattle.std.proofs.lemmas.Bool.Decides.{nat_tests}
use Rattle.indexmap.specs.IndexMap.{get}
use Rattle.vz_ids.specs.declared.SurfaceId.{SurfaceId}
use Rattle.vz_refs.specs.Referring.{is_set, ranges_of, setting}
use Rattle.vz_refs.proofs.Keyed.{surfaces}
use Rattle.vz_refs.proofs.Changing.{bare_stays, no_items}
use Rattle.vz_refs.proofs.Indexed.{count_some, counts_set}
use Rattle.vz_refs.proofs.sets.Sets.is_bare.Goals as goal

pub returns-in-Some-clause-none : goal.returns-in-Some-clause-none
returns-in-Some-clause-none c bare = no_items c.args.ranges.now (grind (arith, nat_tests, c.is_empty.ensures, c.if-not-is_empty.false))

pub returns-in-Some-clause-same : goal.returns-in-Some-clause-same
returns-in-Some-clause-same c bare =
    let id = c.args.id.now in
    let list = c.self.inside.listing in
    let found = sym (c.in-Some.ensures.value ∙ ap (λ (eq : SurfaceId → SurfaceId → _). get eq c.self.inside.counts id) surfaces) in
    let count = count_some _ _ _ _ _ c.self.invariant id c.in-Some.count.now (sym (c.self.invariant.counted id) ∙ found) in
    let there : is_set list id ≡ true = sym (counts_set _ _ _ _ _ c.self.invariant id) ∙ ap is_some found in
    let none : ranges_of list id ≡ [] = no_items (ranges_of list id) (grind (arith, nat_tests, count, bare)) in
    let gets : c.args.ranges.now ≡ [] = no_items c.args.ranges.now (grind (arith, nat_tests, c.is_empty.ensures, c.if-not-is_empty.false)) in
    ap (λ l. setting id l c.args.self.now.list) gets
    ∙ ap (λ v. setting id [] v.list) (sym c.self.view_is) ∙ bare_stays id list c.self.invariant.once there none ∙ ap (λ v. v.list) c.self.view_is

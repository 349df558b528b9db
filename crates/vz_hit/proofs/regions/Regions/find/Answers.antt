use Rattle.std.proofs.Common.{Some, None, refl, ap, sym, ◌∙◌, arith}
use Rattle.vz_hit.specs.Regions.{hit_of}
use Rattle.vz_hit.proofs.Owning.{owned_same, found_whole, found_here, found_over, found_end, none_exactly}
use Rattle.vz_hit.proofs.regions.Regions.find.Goals as goal

pub returns-then-contains-clause-first : goal.returns-then-contains-clause-first
returns-then-contains-clause-first c =
    let inside = c.self.inside in
    let areas = c.as_slice-areas.result.now in
    let owners = c.as_slice-owners.result.now in
    let same = owned_same inside.areas.items areas inside.owners.items owners c.self.invariant c.as_slice-areas.ensures.value c.as_slice-owners.ensures.value in
    let whole = found_whole inside.areas.items areas inside.owners.items owners c.args.self.now c.args.p c.self.view_is c.as_slice-areas.ensures.value c.as_slice-owners.ensures.value in
    let here = found_here areas owners c.args.p same c.loop-at.at c.index-areas-at.result _ c.loop-at-test.true c.index-areas-at.is (sym c.contains.ensures.value ∙ c.if-contains.true) in
    ap Some c.hit_at.ensures ∙ sym (ap hit_of (whole ∙ (sym c.loop-at.invariant ∙ here)))

pub returns-then-contains-clause-none : goal.returns-then-contains-clause-none
returns-then-contains-clause-none c = none_exactly c.args.self.now c.args.p (Some c.hit_at.result) (returns-then-contains-clause-first c)

pub loop-at-init : goal.loop-at-init
loop-at-init c = refl

pub loop-at-preserved : goal.loop-at-preserved
loop-at-preserved c =
    let inside = c.self.inside in
    let areas = c.as_slice-areas.result.now in
    let owners = c.as_slice-owners.result.now in
    let same = owned_same inside.areas.items areas inside.owners.items owners c.self.invariant c.as_slice-areas.ensures.value c.as_slice-owners.ensures.value in
    sym
    (found_over areas owners c.args.p same c.loop-at.at c.index-areas-at.result c.loop-at-test.true c.index-areas-at.is (sym c.contains.ensures.value ∙ c.if-contains.false))
    ∙ c.loop-at.invariant

pub returns-clause-first : goal.returns-clause-first
returns-clause-first c =
    let inside = c.self.inside in
    let areas = c.as_slice-areas.result.now in
    let owners = c.as_slice-owners.result.now in
    let same = owned_same inside.areas.items areas inside.owners.items owners c.self.invariant c.as_slice-areas.ensures.value c.as_slice-owners.ensures.value in
    let whole = found_whole inside.areas.items areas inside.owners.items owners c.args.self.now c.args.p c.self.view_is c.as_slice-areas.ensures.value c.as_slice-owners.ensures.value in
    let none = found_end areas owners c.args.p same c.loop-at.at (omega (arith, c.loop-at-test.false)) in
    sym (ap hit_of (whole ∙ (sym c.loop-at.invariant ∙ none)))

pub returns-clause-none : goal.returns-clause-none
returns-clause-none c = none_exactly c.args.self.now c.args.p None (returns-clause-first c)

use Rattle.std.proofs.Common.{refl, ap, sym, ◌∙◌, ◌≡◌, ◌++◌, ◌≤◌, true, take, length, subst, arith}
use Rattle.vz_flat.specs.Ops.{is_inside}
use Rattle.vz_occlude.specs.declared.bound.TheConstants.{MOST_OCCLUDERS}
use Rattle.vz_occlude.specs.Occluders.{listed_if}
use Rattle.vz_occlude.specs.Roles.{role_of, occludes}
use Rattle.vz_occlude.proofs.Taken.{innermost_start, one_more_fits, same_op, read_op, any_from, single_occluded, single_kept}
use Rattle.vz_occlude.proofs.culler.OcclusionCuller.take_single.Goals as goal

pub is_occluded-occluded-requires : goal.is_occluded-occluded-requires
is_occluded-occluded-requires c =
    let q = c.requires.place in
    subst (λ occluders. c.args.self.now.start ≤ length occluders) (sym c.deref.ensures) (innermost_start q.0 q.1 q.2 c.args.place c.args.self.now q.3)

pub put_occluder-requires-clause-start : goal.put_occluder-requires-clause-start
put_occluder-requires-clause-start c =
    let q = c.requires.place in
    innermost_start q.0 q.1 q.2 c.args.place c.args.self.now q.3

pub put_occluder-requires-clause-inside : goal.put_occluder-requires-clause-inside
put_occluder-requires-clause-inside c =
    let q = c.requires.place in
    subst (λ op. is_inside op ≡ true) (read_op q.0 q.1 q.2 c.args.place c.args.self.now c.index.result.now q.3 c.index.ensures) q.3.inside

pub overflow_add-self : goal.overflow_add-self
overflow_add-self c =
    let q = c.requires.place in
    let a = one_more_fits q.0 q.1 q.2 c.args.place c.args.self.now q.3 in omega (arith, a)

pub returns-then-occluded : goal.returns-then-occluded
returns-then-occluded c n op later p =
    let q = c.requires.place in
    let same = same_op c.args.self.now.ops.items c.args.place op q.1 p.is q.3.is in
    let read = read_op n op later c.args.place c.args.self.now c.index.result.now p c.index.ensures in
    single_occluded n op later c.args.place c.args.area.now c.args.self.now _ p (ap role_of same ∙ q.4)
    (λ outer own e is. c.in_ok-put_occluder.ensures outer own e is ∙ ap (λ o. outer ++ take MOST_OCCLUDERS (own ++ listed_if (occludes o) c.args.area.now)) (sym read))
    refl refl c.is_occluded-occluded.result (c.is_occluded-occluded.ensures ∙ ap (any_from c.args.area.now c.args.self.now.start) c.deref.ensures)
    c.if-occluded.true refl refl refl

pub returns : goal.returns
returns c n op later p =
    let q = c.requires.place in
    let same = same_op c.args.self.now.ops.items c.args.place op q.1 p.is q.3.is in
    let read = read_op n op later c.args.place c.args.self.now c.index.result.now p c.index.ensures in
    let k = c.keep.ensures.kept op in
    single_kept n op later c.args.place c.args.area.now c.args.self.now c.keep.new.self p (ap role_of same ∙ q.4)
    (λ outer own e is. c.keep.ensures.occluders
    ∙ (c.in_ok-put_occluder.ensures outer own e is ∙ ap (λ o. outer ++ take MOST_OCCLUDERS (own ++ listed_if (occludes o) c.args.area.now)) (sym read)))
    c.keep.ensures.start c.keep.ensures.behind c.is_occluded-occluded.result
    (c.is_occluded-occluded.ensures ∙ ap (any_from c.args.area.now c.args.self.now.start) c.deref.ensures) c.if-occluded.false
    (record { low = k.low; before = k.before; kept = k.kept; ahead = k.ahead; long = k.long }) c.keep.ensures.removed

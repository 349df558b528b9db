use Rattle.std.proofs.Common.{refl, ap, sym, ◌∙◌, arith}
use Rattle.vz_occlude.specs.Roles.{role_of}
use Rattle.vz_occlude.proofs.Taken.{same_op, begin_some, begin_fits, begin_start, begin_occluded, begin_kept}
use Rattle.vz_occlude.proofs.culler.OcclusionCuller.take_begin.Goals as goal

pub unreachable-requires : goal.unreachable-requires
unreachable-requires c =
    let q = c.requires.place in
    let a = begin_some q.0 q.1 q.2 c.args.place c.args.area.now c.args.self.now q.3 q.4 in
    let no = c.in_default.ensures.variant.1 a in absurd (cc)

pub is_occluded-requires : goal.is_occluded-requires
is_occluded-requires c =
    let q = c.requires.place in
    begin_start q.0 q.1 q.2 c.args.place c.args.area.now c.args.self.now q.3 q.4 c.pop.new.self.items c.in-Some.level (c.in-Some.ensures).items
    c.deref.result.now (c.deref.ensures ∙ c.truncate.ensures.items)

pub overflow_add-self : goal.overflow_add-self
overflow_add-self c =
    let q = c.requires.place in
    let a = begin_fits q.0 q.1 q.2 c.args.place c.args.area.now c.args.self.now q.3 q.4 c.pop.new.self.items c.in-Some.level (c.in-Some.ensures).items in
    omega (arith, a)

pub returns-then-is_occluded : goal.returns-then-is_occluded
returns-then-is_occluded c n op later p =
    let q = c.requires.place in
    let same = same_op c.args.self.now.ops.items c.args.place op q.1 p.is q.3.is in
    begin_occluded n op later c.args.place c.args.area.now c.args.self.now p (ap role_of same ∙ q.4) c.pop.new.self.items c.in-Some.level (c.in-Some.ensures).items
    c.deref.result.now (c.deref.ensures ∙ c.truncate.ensures.items) c.is_occluded.result c.is_occluded.ensures _ (sym c.deref.ensures) refl refl
    c.if-is_occluded.true refl refl refl

pub returns : goal.returns
returns c n op later p =
    let q = c.requires.place in
    let same = same_op c.args.self.now.ops.items c.args.place op q.1 p.is q.3.is in
    let k = c.keep.ensures.kept op in
    begin_kept n op later c.args.place c.args.area.now c.args.self.now p (ap role_of same ∙ q.4) c.pop.new.self.items c.in-Some.level (c.in-Some.ensures).items
    c.deref.result.now (c.deref.ensures ∙ c.truncate.ensures.items) c.is_occluded.result c.is_occluded.ensures c.keep.new.self
    (c.keep.ensures.occluders ∙ sym c.deref.ensures) c.keep.ensures.start c.keep.ensures.behind
    c.if-is_occluded.false (record { low = k.low; before = k.before; kept = k.kept; ahead = k.ahead; long = k.long }) c.keep.ensures.removed

use Rattle.std.proofs.{Common.◌≤◌, Common.length, Common.rules, Common.subst, Common.sym, Common.arith, lemmas.List.Elements.All-push}
use Rattle.vz_paint.specs.{Stack.HavePixels, declared.group.OpenGroup.OpenGroup}
use Rattle.vz_paint.proofs.Bytes_of_groups.{no_groups, groups_more}
use Rattle.vz_paint.proofs.brush.open_groups.Goals as goal

pub loop-init : goal.loop-init
loop-init c = (
  search rules,
  search rules,
  search rules,
  search rules,
  no_groups c.in_ok-groups.groups.items c.args.pixels c.in_ok-groups.ensures.items,
)

pub loop-preserved : goal.loop-preserved
loop-preserved c = (
  search rules,
  search rules,
  search rules,
  subst (HavePixels c.args.pixels) (sym c.push_reserved.ensures.items)
      (All-push (λ (g : OpenGroup). c.args.pixels ≤ length g.pixels.items) c.loop.groups.items c.in_ok-new.field-0 c.loop.invariant.3 (omega (arith, c.in_ok-new.ensures))),
  groups_more c.loop.groups.items _ c.in_ok-new.field-0 c.loop.counter c.args.pixels c.push_reserved.ensures.items c.in_ok-new.ensures c.loop.invariant.4,
)

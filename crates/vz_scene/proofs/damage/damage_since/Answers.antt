use Rattle.std.proofs.Common.{◌-◌, subst, sym, ap, ◌∙◌, arith}
use Rattle.vz_frame.specs.Frame.{root_damage}
use Rattle.vz_rules.specs.{World.FrameData, Damage.is_between}
use Rattle.vz_placement.proofs.{Sides.nothing_in_reach, Fitting.damage_in_reach}
use Rattle.vz_placement.specs.Limits.{IsInReach}
use Rattle.vz_scene.proofs.Bounding.{join_in_reach, damages_none, damages_step}
use Rattle.vz_scene.proofs.damage.damage_since.Goals as goal

pub loop-k-init : goal.loop-k-init
loop-k-init c =
    record {
      within = omega arith;
      best = c.empty-best.ensures ∙ damages_none c.index_in-from.result c.args.submitted.now c.args.accepted.now _ (omega arith);
      reach = subst IsInReach (sym c.empty-best.ensures) nothing_in_reach;
    }

pub loop-k-preserved-then-is_between : goal.loop-k-preserved-then-is_between
loop-k-preserved-then-is_between c =
    let k = c.loop-k.k in
    let from = c.index_in-from.result in
    let i = c.args.submitted.now in
    let d = c.index-accepted-k.result in
    let here = c.index-accepted-k.is in
    record {
      within = omega arith;
      best = damages_step from i c.args.accepted.now k (k - 1) d c.loop-k.best c.bound-best.result c.root_damage.result (omega arith) (omega arith)
          (ap (is_between from i) (sym here) ∙ (sym c.is_between.ensures ∙ c.if-is_between.true)) c.loop-k.invariant.best
          ((c.root_damage.ensures ∙ ap root_damage c.frame.ensures.value) ∙ ap (λ (j : FrameData). root_damage j.frame) here) c.bound-best.ensures.value;
      reach = subst IsInReach (sym c.bound-best.ensures.value) (join_in_reach c.root_damage.result c.loop-k.best (subst IsInReach (sym c.root_damage.ensures) (damage_in_reach c.frame.result.now c.frame.ensures.fits)) c.loop-k.invariant.reach);
    }

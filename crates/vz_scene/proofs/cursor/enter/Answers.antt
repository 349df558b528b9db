use Rattle.std.proofs.Common.{◌≡◌, ◌<◌, ◌-◌, ◌∷◌, List, length, subst, sym, ap, ◌∙◌, arith}
use Rattle.vz_ids.specs.declared.SurfaceId.{SurfaceId}
use Rattle.vz_frame.specs.{declared.frame.CompositorFrame.CompositorFrame, declared.frame.RenderPass.RenderPass}
use Rattle.vz_rules.specs.World.{FrameData}
use Rattle.vz_scene.specs.Walking.{Cursor, cursor_walked}
use Rattle.vz_placement.specs.Limits.{FitsFile}
use Rattle.vz_scene.proofs.{Stacking.enter_zero, Stacking.enter_none, Stacking.enter_is, Cursors.enter_bounded}
use Rattle.vz_scene.proofs.cursor.enter.Goals as goal

pub returns-then-levels-eq0 : goal.returns-then-levels-eq0
returns-then-levels-eq0 c = λ active. enter_zero c.args.levels active c.args.path.now c.args.submitted.now c.args.place c.if-levels-eq0.true

pub returns-then-count-eq0 : goal.returns-then-count-eq0
returns-then-count-eq0 c = λ active.
    enter_none c.args.levels active c.args.path.now c.args.submitted.now c.args.place
    (sym (ap length (c.as_slice-count.ensures ∙ ap (λ (f : CompositorFrame). f.passes) c.frame.ensures.value)) ∙ c.if-count-eq0.true)

pub returns : goal.returns
returns c = λ active.
    let i = c.args.submitted.now in
    let passes : c.as_slice-count.result.now ≡ i.frame.passes = c.as_slice-count.ensures ∙ ap (λ (f : CompositorFrame). f.passes) c.frame.ensures.value in
    let some : 0 < length i.frame.passes = let n = ap length passes in omega arith in
    let path = c.in_ok-path.ensures ∙ ap (λ (x : FrameData). x.id ∷ c.args.path.now) c.submitted.view_is in
    let item : List SurfaceId → List RenderPass → Cursor = λ l ps. record { levels = c.args.levels - 1; path = l; submitted = i; pass = length ps - 1; quad = 0; place = c.args.place } in
    ap (λ l. cursor_walked active (item l c.as_slice-count.result.now)) path
    ∙ (ap (λ ps. cursor_walked active (item (i.id ∷ c.args.path.now) ps)) passes ∙ enter_is c.args.levels active c.args.path.now i c.args.place (omega arith) some)

pub invariant_of-result : goal.invariant_of-result
invariant_of-result c =
    enter_bounded c.args.levels c.args.submitted.now c.as_slice-count.result.now c.args.place (c.as_slice-count.ensures ∙ ap (λ (f : CompositorFrame). f.passes) c.frame.ensures.value)
    (subst FitsFile c.frame.ensures.value c.frame.ensures.fits) (omega arith) (omega arith) c.requires

use Rattle.std.proofs.Common.{length, ap, ◌∙◌, arith}
use Rattle.vz_frame.specs.declared.frame.CompositorFrame.{CompositorFrame}
use Rattle.vz_scene.specs.Walking.{Cursor}
use Rattle.vz_placement.proofs.Fitting.{pass_at_in_reach, quad_at_in_reach}
use Rattle.vz_scene.proofs.Stacking.{cursor_done, cursor_next}
use Rattle.vz_scene.proofs.cursor.Cursor.quad_of.Goals as goal

pub returns-else-self-quads-clause-walked : goal.returns-else-self-quads-clause-walked
returns-else-self-quads-clause-walked c = λ active.
    let own = c.as_slice.ensures ∙ ap (λ (f : CompositorFrame). f.passes) c.frame.ensures.value in
    let lengths = ap length own in
    let there = c.self.invariant.there in
    cursor_done active c.args.self.now c.as_slice.result.now c.self.inside.pass c.self.inside.quad c.index-as_slice-self.result c.as_slice-quads.result.now
    (own ∙ ap (λ (i : Cursor). i.submitted.frame.passes) c.self.view_is) (ap (λ (i : Cursor). i.pass) c.self.view_is) (omega arith) c.index-as_slice-self.is
    c.as_slice-quads.ensures (ap (λ (i : Cursor). i.quad) c.self.view_is) c.if-self-quads.false

pub returns-then-self-quads-clause-walked : goal.returns-then-self-quads-clause-walked
returns-then-self-quads-clause-walked c = λ active.
    let own = c.as_slice.ensures ∙ ap (λ (f : CompositorFrame). f.passes) c.frame.ensures.value in
    let lengths = ap length own in
    let there = c.self.invariant.there in
    cursor_next active c.args.self.now c.as_slice.result.now c.self.inside.pass c.self.inside.quad c.index-as_slice-self.result c.as_slice-quads.result.now c.index-quads-self.result
    (own ∙ ap (λ (i : Cursor). i.submitted.frame.passes) c.self.view_is) (ap (λ (i : Cursor). i.pass) c.self.view_is) (omega arith) c.index-as_slice-self.is
    c.as_slice-quads.ensures (ap (λ (i : Cursor). i.quad) c.self.view_is) c.if-self-quads.true c.index-quads-self.is

pub returns-then-self-quads-clause-reach : goal.returns-then-self-quads-clause-reach
returns-then-self-quads-clause-reach c =
    let f = c.frame.result.now in
    let passes = c.as_slice.result.now in
    let k = c.self.inside.pass in
    let p = c.index-as_slice-self.result in
    let lengths = ap length (c.as_slice.ensures ∙ ap (λ (f : CompositorFrame). f.passes) c.frame.ensures.value) in
    let there = c.self.invariant.there in (
      pass_at_in_reach f passes k p c.frame.ensures.fits c.as_slice.ensures (omega arith) c.index-as_slice-self.is,
      quad_at_in_reach f passes k c.self.inside.quad p c.as_slice-quads.result.now c.index-quads-self.result c.frame.ensures.fits c.as_slice.ensures (omega arith) c.index-as_slice-self.is c.as_slice-quads.ensures
          c.if-self-quads.true c.index-quads-self.is,
    )

pub returns-then-self-quads-clause-more : goal.returns-then-self-quads-clause-more
returns-then-self-quads-clause-more c = λ _.
    let same = ap (λ (i : Cursor). i.quad) c.self.view_is in
    omega arith

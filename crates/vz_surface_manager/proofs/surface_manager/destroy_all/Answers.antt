use Rattle.std.proofs.Common.{◌+◌, arith, refl, sym, ◌∙◌, subst}
use Rattle.vz_frame.specs.Roomy.{Roomy}
use Rattle.vz_rules.specs.declared.entry.Lost.{Lost}
use Rattle.vz_surface_manager.specs.declared.surface_manager.SurfaceManager.{SurfaceManager}
use Rattle.vz_surface_manager.proofs.Collection.{AreGoing, begins, next, is_marked, goes, stays, goes_on, ends, ends_named, ends_told}
use Rattle.vz_surface_manager.proofs.surface_manager.destroy_all.Goals.{then-not-has, else-not-has}
use Rattle.vz_surface_manager.proofs.surface_manager.destroy_all.Goals as goal

pub loop-id-init : goal.loop-id-init
loop-id-init c = (
  λ w h. begins w c.args.marked.now c.args.reached.now.list c.args.settling.now c.args.destroyed.now.list h,
  omega arith,
  refl,
  refl,
  refl,
)

pub destroy-requires-clause-goes : goal.destroy-requires-clause-goes
destroy-requires-clause-goes c =
    let x = c.requires.destroys in
    let on = c.loop-id.invariant.0 x.0 x.1 in
    let its_next = next x.0 c.args.marked.now c.args.reached.now.list c.args.settling.now c.loop-id.settling c.loop-id.id-index _
    c.args.destroyed.now.list c.loop-id.destroyed.list x.1 c.loop-id-test.true on in (
      on.now,
      its_next.one,
      goes x.0 c.args.marked.now c.args.reached.now.list c.args.settling.now c.loop-id.settling c.loop-id.id-index _
          c.args.destroyed.now.list c.loop-id.destroyed.list x.1 c.loop-id-test.true on
          (sym c.has.ensures ∙ c.if-not-has.true) c.loop-id.invariant.2,
    )

pub loop-id-preserved : goal.loop-id-preserved
loop-id-preserved c =
    let before = c.loop-id.invariant in
    elim c.if-not-has.branch [
      | then-not-has y ↦
          let out = sym c.has.ensures ∙ y.if-not-has.true in
          let after : AreGoing c.args.marked.now c.args.reached.now.list c.args.settling.now c.args.destroyed.now
          (c.loop-id.id-index + 1) y.destroy.new.settling y.destroy.new.destroyed = (
            λ w h.
                let on = before.0 w h in
                let its_next = next w c.args.marked.now c.args.reached.now.list c.args.settling.now c.loop-id.settling c.loop-id.id-index _
                c.args.destroyed.now.list c.loop-id.destroyed.list h c.loop-id-test.true on in
                let is = goes w c.args.marked.now c.args.reached.now.list c.args.settling.now c.loop-id.settling c.loop-id.id-index _
                c.args.destroyed.now.list c.loop-id.destroyed.list h c.loop-id-test.true on out before.2 in
                let marks = is_marked w c.args.marked.now c.args.reached.now.list c.args.settling.now c.loop-id.settling c.loop-id.id-index
                _ c.args.destroyed.now.list c.loop-id.destroyed.list h c.loop-id-test.true on in
                goes_on w c.args.marked.now c.args.reached.now.list c.args.settling.now c.loop-id.settling c.loop-id.id-index _
                c.args.destroyed.now.list c.loop-id.destroyed.list h c.loop-id-test.true on out
                y.destroy.new.settling y.destroy.new.destroyed.list (y.destroy.ensures.stands on.now its_next.one on.stands is marks)
                (y.destroy.ensures.named on.now its_next.one is) (y.destroy.ensures.destroyed on.now its_next.one is),
            omega (arith, before.1, y.destroy.ensures.room),
            y.destroy.ensures.temporary ∙ before.2,
            y.destroy.ensures.out ∙ before.3,
            y.destroy.ensures.count ∙ before.4,
          ) in
          subst (λ (v : SurfaceManager). AreGoing c.args.marked.now c.args.reached.now.list c.args.settling.now c.args.destroyed.now
          (c.loop-id.id-index + 1) v c.if-not-has.destroyed) (sym y.settling-is)
          (subst (λ (d : Roomy Lost). AreGoing c.args.marked.now c.args.reached.now.list c.args.settling.now c.args.destroyed.now
          (c.loop-id.id-index + 1) y.destroy.new.settling d) (sym y.destroyed-is) after)
      | else-not-has y ↦
          let there = sym c.has.ensures ∙ y.if-not-has.false in
          let after : AreGoing c.args.marked.now c.args.reached.now.list c.args.settling.now c.args.destroyed.now
          (c.loop-id.id-index + 1) c.loop-id.settling c.loop-id.destroyed = (
            λ w h. stays w c.args.marked.now c.args.reached.now.list c.args.settling.now c.loop-id.settling c.loop-id.id-index _
                c.args.destroyed.now.list c.loop-id.destroyed.list h c.loop-id-test.true (before.0 w h) there,
            omega (arith, before.1),
            before.2,
            before.3,
            before.4,
          ) in
          subst (λ (v : SurfaceManager). AreGoing c.args.marked.now c.args.reached.now.list c.args.settling.now c.args.destroyed.now
          (c.loop-id.id-index + 1) v c.if-not-has.destroyed) (sym y.settling-is)
          (subst (λ (d : Roomy Lost). AreGoing c.args.marked.now c.args.reached.now.list c.args.settling.now c.args.destroyed.now
          (c.loop-id.id-index + 1) c.loop-id.settling d) (sym y.destroyed-is) after)
    ]

pub returns-clause-cleared : goal.returns-clause-cleared
returns-clause-cleared c w h =
    ends w c.args.marked.now c.args.reached.now.list c.args.settling.now c.loop-id.settling c.loop-id.id-index c.args.destroyed.now.list
    c.loop-id.destroyed.list h (omega (arith, c.loop-id-test.false)) (c.loop-id.invariant.0 w h)

pub returns-clause-named : goal.returns-clause-named
returns-clause-named c w h =
    ends_named w c.args.marked.now c.args.reached.now.list c.args.settling.now c.loop-id.settling c.loop-id.id-index
    c.args.destroyed.now.list c.loop-id.destroyed.list h (omega (arith, c.loop-id-test.false)) (c.loop-id.invariant.0 w h)

pub returns-clause-destroyed : goal.returns-clause-destroyed
returns-clause-destroyed c w h =
    ends_told w c.args.marked.now c.args.reached.now.list c.args.settling.now c.loop-id.settling c.loop-id.id-index
    c.args.destroyed.now.list c.loop-id.destroyed.list h (omega (arith, c.loop-id-test.false)) (c.loop-id.invariant.0 w h)

use Rattle.std.proofs.Common.{List, refl, sym, ap, ◌∙◌, subst, arith}
use Rattle.std.proofs.lemmas.List.{nil_from_length}
use Rattle.vz_plain.specs.Levels.{Level, StackFits, StackEnds}
use Rattle.vz_plain.specs.Work.{stack_work}
use Rattle.vz_plain.proofs.layers.unwind.Goals as goal

pub advance-requires : goal.advance-requires
advance-requires c = subst (λ (s : List Level). StackFits c.levels.base s) c.in-Some.ensures.items (c.levels.invariant c.requires).0

pub levels-preserved : goal.levels-preserved
levels-preserved c = λ fits.
    let now = c.in_ok-advance.ensures in (
      now.fits,
      λ last ends. (c.levels.invariant fits).1 last
          (subst (λ (s : List Level). StackEnds c.args.active.now c.levels.base s last) (sym c.in-Some.ensures.items) (now.ends last ends)),
    )

pub levels-smaller : goal.levels-smaller
levels-smaller c =
    let now = c.in_ok-advance.ensures.less in
    let same = ap stack_work c.in-Some.ensures.items in
    omega (arith, now, same)

pub returns : goal.returns
returns c =
    let none = nil_from_length c.levels.stack.items (sym c.levels.stack.ok.0 ∙ c.in_default.ensures.cases.0) in
    (c.levels.invariant c.requires).1 c.levels.base (subst (λ (s : List Level). StackEnds c.args.active.now c.levels.base s c.levels.base) (sym none) refl)

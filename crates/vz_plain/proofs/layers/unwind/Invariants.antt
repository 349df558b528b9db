use Rattle.std.proofs.Common.{List}
use Rattle.vz_pixels.specs.Colour.{Colour}
use Rattle.vz_plain.specs.Levels.{StackFits, StackEnds}
use Rattle.vz_plain.specs.Work.{stack_work}
use Rattle.vz_plain.proofs.layers.unwind.Given as goal

-- what the levels that are left end as is what all of them end as
abbrev pub invariant-levels : goal.invariant-levels
invariant-levels l =
    StackFits l.fn.base l.initial.stack.items
    → StackFits l.base l.stack.items × ((last : List Colour) → StackEnds l.active l.base l.stack.items last → StackEnds l.active l.fn.base l.initial.stack.items last)

abbrev pub decreases-levels : goal.decreases-levels
decreases-levels l = stack_work l.stack.items

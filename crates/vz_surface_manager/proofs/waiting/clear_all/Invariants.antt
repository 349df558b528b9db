use Rattle.std.proofs.Common.{◌≡◌, ◌≤◌, take}
use Rattle.vz_surface_manager.specs.Left_out.{due_without}
use Rattle.vz_surface_manager.proofs.waiting.clear_all.Given as goal

-- those so far have no deadline any more
abbrev pub invariant-loop-s : goal.invariant-loop-s
invariant-loop-s l = (l.deadlines.list ≡ due_without (take l.s-index l.subs) l.fn.deadlines.list) × (l.fn.deadlines.spare ≤ l.deadlines.spare)

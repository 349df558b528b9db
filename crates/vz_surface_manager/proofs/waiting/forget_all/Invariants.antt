use Rattle.std.proofs.Common.{◌≡◌, ◌≤◌, take}
use Rattle.vz_surface_manager.specs.Left_out.{blocked_without}
use Rattle.vz_surface_manager.proofs.waiting.forget_all.Given as goal

-- those so far are blocked no longer
abbrev pub invariant-loop-s : goal.invariant-loop-s
invariant-loop-s l = (l.tracker.list ≡ blocked_without (take l.s-index l.subs) l.fn.tracker.list) × (l.fn.tracker.spare ≤ l.tracker.spare)

use Rattle.std.proofs.Common.{◌∙◌, ap, Ok}
use Rattle.vz_outside.proofs.{OuterCalls.outer_behaves, OuterCalls.pushed_modes, Rises.cause_of_ok, Rises.ok_not_failed}
use Rattle.vz_outside.specs.Outer.{Outer}
use Rattle.vz_outside.proofs.real.RealShelfShelf.open.Goals as goal

pub returns-clause-behaves : goal.returns-clause-behaves
returns-clause-behaves g c =
    outer_behaves c.args.self.now _ _ (Ok c.in_ok-slot.slot)
    (pushed_modes c.self.inside.slots.items c.room_for_slot.new.slots.items c.push_reserved.new.self.items _ c.args.self.now.modes
    c.push_reserved.ensures.items c.in_ok-slot.ensures.items (ap (λ (outer : Outer). outer.modes) c.self.view_is))
    (cause_of_ok _ _ c.in_ok-slot.slot
    (c.in_ok-file.ensures.cause.quiet (λ same. ok_not_failed c.in_ok-file.file same) ∙ ap (λ (outer : Outer). outer.faults) c.self.view_is))

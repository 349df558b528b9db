use Rattle.std.proofs.Common.{refl, rules}
use Rattle.vz_outside.proofs.Passing.{told_as}
use Rattle.vz_callers.specs.Callers.{Enters}
use Rattle.vz_callers.proofs.{Tells.call_told, calls.make_call.Goals.After-gated, calls.make_call.Given.Over}
use Rattle.vz_callers.proofs.calls.make_call.Goals as goal

call : (g : Over) (c : After-gated g) → Enters c.args.pass.now c.gated.new.state c.args.event c.gated.result
call g c = search rules

pub returns-clause-stays : goal.returns-clause-stays
returns-clause-stays g c = (call g c).stays

pub returns-clause-ok : goal.returns-clause-ok
returns-clause-ok g c = (call g c).ok

pub returns-clause-err : goal.returns-clause-err
returns-clause-err g c = (call g c).err

pub returns-clause-told : goal.returns-clause-told
returns-clause-told g c next before =
    let told = g.G.Gate.told c.args.gate.now in
    call_told told c.args.pass.now c.gated.new.state c.args.event c.args.turn c.gated.result (call g c) next
    (told_as told c.number.result c.args.pass.now.number c.args.turn c.args.turn c.number.ensures refl c.gated.ensures.told) before

use Rattle.std.proofs.Common.{refl, ap, length}
use Rattle.vz_turn.proofs.Keeping.{still_legal, legal_there, goes_on, keeps_on, told_is}
use Rattle.vz_turn.proofs.register.Register.take.Goals as goal

pub returns-in_err-reserve-clause-legal : goal.returns-in_err-reserve-clause-legal
returns-in_err-reserve-clause-legal g c = still_legal (g.M.Machine.state c.self.inside.machine) _ _ c.self.invariant _ _ _ refl refl c.in_err-reserve.ensures.list

pub returns-in_err-reserve-2-clause-legal : goal.returns-in_err-reserve-2-clause-legal
returns-in_err-reserve-2-clause-legal g c = still_legal (g.M.Machine.state c.self.inside.machine) _ _ c.self.invariant _ _ _ refl c.in_err-reserve-2.ensures.list c.in_ok-reserve.ensures.list

pub returns-in_err-step-clause-legal : goal.returns-in_err-step-clause-legal
returns-in_err-step-clause-legal g c = still_legal (g.M.Machine.state c.self.inside.machine) _ _ c.self.invariant (g.M.Machine.state c.step_of.new.machine) _ _ c.in_err-step.ensures.err c.in_ok-reserve-2.ensures.list c.in_ok-reserve.ensures.list

pub invariant_of-self-2 : goal.invariant_of-self-2
invariant_of-self-2 g c = keeps_on (g.M.Machine.state c.self.inside.machine) _ _ c.self.invariant c.args.self.now c.self.view_is (g.M.Machine.state c.step_of.new.machine) c.args.event _ _ c.in_ok-step.ensures.answer c.in_ok-step.ensures.world c.entry_of-entry.ensures c.args.caller
    _ _ _ _ c.in_ok-reserve-2.ensures.list c.put-2.ensures.list c.in_ok-reserve.ensures.list c.put.ensures.list c.requires.client

pub returns-clause-ok : goal.returns-clause-ok
returns-clause-ok g c = goes_on (g.M.Machine.state c.self.inside.machine) _ _ c.self.invariant c.args.self.now c.self.view_is (g.M.Machine.state c.step_of.new.machine) c.args.event _ _ c.in_ok-step.ensures.answer c.in_ok-step.ensures.world c.entry_of-entry.ensures c.args.caller
    _ _ _ _ c.in_ok-reserve-2.ensures.list c.put-2.ensures.list c.in_ok-reserve.ensures.list c.put.ensures.list

pub returns-clause-told : goal.returns-clause-told
returns-clause-told g c = told_is (g.M.Machine.state c.self.inside.machine) _ _ c.self.invariant c.args.self.now c.self.view_is (g.M.Machine.state c.step_of.new.machine) c.args.event _ _ c.in_ok-step.ensures.answer c.in_ok-step.ensures.world c.entry_of-entry.ensures c.args.caller
    _ _ _ _ c.in_ok-reserve-2.ensures.list c.put-2.ensures.list c.in_ok-reserve.ensures.list c.put.ensures.list _ _ (ap length c.as_slice.ensures) c.brief_of-reply.ensures

pub returns-clause-legal : goal.returns-clause-legal
returns-clause-legal g c = legal_there (g.M.Machine.state c.step_of.new.machine) _ _
    (keeps_on (g.M.Machine.state c.self.inside.machine) _ _ c.self.invariant c.args.self.now c.self.view_is (g.M.Machine.state c.step_of.new.machine) c.args.event _ _ c.in_ok-step.ensures.answer c.in_ok-step.ensures.world c.entry_of-entry.ensures c.args.caller
    _ _ _ _ c.in_ok-reserve-2.ensures.list c.put-2.ensures.list c.in_ok-reserve.ensures.list c.put.ensures.list c.requires.client)

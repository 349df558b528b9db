use Rattle.std.proofs.Common.{refl, sym, subst, ap}
use Rattle.vz_rules.specs.{World.Machine, Plan.Plan, Step.NamesClient}
use Rattle.vz_player.specs.Tested.{Tested, IsTested}
use Rattle.vz_player.proofs.Testing.{on_is, kept_tested}
use Rattle.vz_player.specs.declared.actors.TheConstants.{MOST_ACTORS}
use Rattle.vz_player.proofs.{Counting.actor_within, Telling.turn_counts, Telling.turn_gated, Telling.unturned_gated}
use Rattle.vz_player.proofs.hit_tester.HitTester.take_plain.Goals as goal

pub invariant_of-self-2 : goal.invariant_of-self-2
invariant_of-self-2 g c =
    let m : Machine = g.M.Machine.state c.self.inside.machine in
    let n : Machine = g.M.Machine.state c.take_gated.new.machine in
    let noted = c.self.inside.hit in
    let is : IsTested m noted c.args.self.now = subst (IsTested m noted) c.self.view_is c.self.invariant.0 in
    let step = c.in_ok-plain.ensures in (
      kept_tested m n noted c.args.self.now _ c.args.event c.in_ok-plain.plain is c.requires.named step.entry step.world step.picture
          (on_is m n noted c.args.self.now c.args.event c.in_ok-plain.plain c.self.inside.history.list c.reserve.new.self.list c.put.new.self.list c.self.inside.point is step.entry step.world c.self.view_is c.in_ok-reserve.ensures.list c.put.ensures.list),
      turn_counts _ _ MOST_ACTORS c.args.event c.actor_of-actor.result c.self.invariant.1 c.in_ok-plain.ensures.entry c.in_ok-reserve.ensures.list c.put.ensures.list
          (actor_within (g.M.Machine.state c.self.inside.machine).plan c.args.event c.self.invariant.0.files (subst (λ (q : Plan). NamesClient q c.args.event) (sym (ap (λ (t : Tested). t.plan) c.self.view_is)) c.requires.named)) c.actor_of-actor.ensures _ c.count.ensures,
    )

pub returns-clause-taken : goal.returns-clause-taken
returns-clause-taken g c =
    let m : Machine = g.M.Machine.state c.self.inside.machine in
    let n : Machine = g.M.Machine.state c.take_gated.new.machine in
    let noted = c.self.inside.hit in
    let is : IsTested m noted c.args.self.now = subst (IsTested m noted) c.self.view_is c.self.invariant.0 in
    let step = c.in_ok-plain.ensures in
    on_is m n noted c.args.self.now c.args.event c.in_ok-plain.plain c.self.inside.history.list c.reserve.new.self.list c.put.new.self.list c.self.inside.point is step.entry step.world c.self.view_is c.in_ok-reserve.ensures.list c.put.ensures.list

pub returns-in_err-reserve-clause-gated : goal.returns-in_err-reserve-clause-gated
returns-in_err-reserve-clause-gated g c = unturned_gated (g.G.Gate.told c.args.gate.now) c.args.self.now.history c.in_err-reserve.ensures.list (ap (λ (t : Tested). t.history) c.self.view_is)

pub returns-in_err-plain-clause-gated : goal.returns-in_err-plain-clause-gated
returns-in_err-plain-clause-gated g c = unturned_gated (g.G.Gate.told c.args.gate.now) c.args.self.now.history c.in_ok-reserve.ensures.list (ap (λ (t : Tested). t.history) c.self.view_is)

pub returns-clause-gated : goal.returns-clause-gated
returns-clause-gated g c =
    turn_gated _ _ MOST_ACTORS c.args.event c.actor_of-actor.result c.self.invariant.1 c.in_ok-plain.ensures.entry c.in_ok-reserve.ensures.list c.put.ensures.list
    (actor_within (g.M.Machine.state c.self.inside.machine).plan c.args.event c.self.invariant.0.files (subst (λ (q : Plan). NamesClient q c.args.event) (sym (ap (λ (t : Tested). t.plan) c.self.view_is)) c.requires.named)) c.actor_of-actor.ensures (g.G.Gate.told c.args.gate.now) c.args.self.now.history c.next_turn-turn.result.actor c.next_turn-turn.result.number
    (ap (λ (t : Tested). t.history) c.self.view_is) c.next_turn-turn.ensures.actor c.next_turn-turn.ensures.number c.in_ok-plain.ensures.told

use Rattle.std.proofs.Common.{None, false, refl, ap, sym, subst, ◌∙◌, arith}
use Rattle.vz_rules.specs.{World.Machine, Plan.Plan, Step.NamesClient}
use Rattle.vz_player.specs.Played.{Played, StopsAt}
use Rattle.vz_player.proofs.Playing.{on_err, unturned, turn_invariant, turn_taken, turn_written, turn_counted}
use Rattle.vz_player.specs.declared.actors.TheConstants.{MOST_ACTORS}
use Rattle.vz_player.proofs.{Counting.actor_within, Telling.turn_counts, Telling.turn_gated, Telling.unturned_gated}
use Rattle.vz_player.proofs.player.Player.take_plain.Goals as goal

pub returns-in_err-reserve-clause-err : goal.returns-in_err-reserve-clause-err
returns-in_err-reserve-clause-err g c =
    let m : Machine = g.M.Machine.state c.self.inside.machine in
    on_err c.from_residual.result (StopsAt c.args.self.now c.args.event _) (unturned m m c.args.event c.self.view_is refl c.in_err-reserve.ensures.list)

pub returns-in_err-plain-clause-err : goal.returns-in_err-plain-clause-err
returns-in_err-plain-clause-err g c =
    on_err c.from_residual-in_err-plain.result (StopsAt c.args.self.now c.args.event _)
    (unturned (g.M.Machine.state c.self.inside.machine) (g.M.Machine.state c.take_gated.new.machine) c.args.event c.self.view_is c.in_err-plain.ensures.err
    c.in_ok-reserve.ensures.list)

pub invariant_of-self-2 : goal.invariant_of-self-2
invariant_of-self-2 g c =
    let step = c.in_ok-plain.ensures in (
      turn_invariant (g.M.Machine.state c.self.inside.machine) (g.M.Machine.state c.take_gated.new.machine) c.args.event None
          c.self.view_is c.self.invariant.0 step.entry step.world step.picture c.in_ok-reserve.ensures.list c.put.ensures.list c.requires.going c.requires.named c.self.inside.display.shown c.self.inside.stopped (λ t. refl),
      turn_counts _ _ MOST_ACTORS c.args.event c.actor_of-actor.result c.self.invariant.1 c.in_ok-plain.ensures.entry c.in_ok-reserve.ensures.list c.put.ensures.list (actor_within (g.M.Machine.state c.self.inside.machine).plan c.args.event c.self.invariant.0.files (subst (λ (q : Plan). NamesClient q c.args.event) (sym (ap (λ (p : Played). p.plan) c.self.view_is)) c.requires.named)) c.actor_of-actor.ensures _ c.count.ensures,
    )

pub returns-clause-taken : goal.returns-clause-taken
returns-clause-taken g c =
    let step = c.in_ok-plain.ensures in
    turn_taken (g.M.Machine.state c.self.inside.machine) (g.M.Machine.state c.take_gated.new.machine) c.args.event None
    c.self.view_is c.self.invariant.0 step.entry step.world step.picture c.in_ok-reserve.ensures.list c.put.ensures.list c.requires.going c.self.inside.stopped
    (ap (λ (p : Played). p.stopped) c.self.view_is ∙ c.requires.going)

pub returns-clause-written : goal.returns-clause-written
returns-clause-written g c =
    let step = c.in_ok-plain.ensures in
    turn_written (g.M.Machine.state c.self.inside.machine) (g.M.Machine.state c.take_gated.new.machine) c.args.event None
    c.self.view_is c.self.invariant.0 step.entry step.world step.picture c.in_ok-reserve.ensures.list c.put.ensures.list c.requires.going c.self.inside.stopped
    (ap (λ (p : Played). p.stopped) c.self.view_is ∙ c.requires.going) false refl

pub returns-clause-counted : goal.returns-clause-counted
returns-clause-counted g c =
    let step = c.in_ok-plain.ensures in
    let same = turn_counted (g.M.Machine.state c.self.inside.machine) (g.M.Machine.state c.take_gated.new.machine) c.args.event None
    c.self.view_is c.self.invariant.0 step.entry step.world step.picture c.in_ok-reserve.ensures.list c.put.ensures.list c.requires.going c.self.inside.stopped
    (ap (λ (p : Played). p.stopped) c.self.view_is ∙ c.requires.going) 0 0 refl in
    omega (arith, same)

pub returns-in_err-reserve-clause-gated : goal.returns-in_err-reserve-clause-gated
returns-in_err-reserve-clause-gated g c = unturned_gated (g.G.Gate.told c.args.gate.now) c.args.self.now.history c.in_err-reserve.ensures.list (ap (λ (p : Played). p.history) c.self.view_is)

pub returns-in_err-plain-clause-gated : goal.returns-in_err-plain-clause-gated
returns-in_err-plain-clause-gated g c = unturned_gated (g.G.Gate.told c.args.gate.now) c.args.self.now.history c.in_ok-reserve.ensures.list (ap (λ (p : Played). p.history) c.self.view_is)

pub returns-clause-gated : goal.returns-clause-gated
returns-clause-gated g c =
    turn_gated _ _ MOST_ACTORS c.args.event c.actor_of-actor.result c.self.invariant.1 c.in_ok-plain.ensures.entry c.in_ok-reserve.ensures.list c.put.ensures.list (actor_within (g.M.Machine.state c.self.inside.machine).plan c.args.event c.self.invariant.0.files (subst (λ (q : Plan). NamesClient q c.args.event) (sym (ap (λ (p : Played). p.plan) c.self.view_is)) c.requires.named)) c.actor_of-actor.ensures (g.G.Gate.told c.args.gate.now) c.args.self.now.history c.next_turn-turn.result.actor c.next_turn-turn.result.number
    (ap (λ (p : Played). p.history) c.self.view_is) c.next_turn-turn.ensures.actor c.next_turn-turn.ensures.number c.in_ok-plain.ensures.told

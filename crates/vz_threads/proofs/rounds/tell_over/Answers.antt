use Rattle.std.proofs.Common.{OnOk, OnErr, rules}
use Rattle.vz_rules.specs.declared.entry.Event.TheVariants as event
use Rattle.vz_desk.specs.{Displays.Displays, Owners.MakesNone}
use Rattle.vz_threads.proofs.Telling.{over_told}
use Rattle.vz_threads.proofs.rounds.tell_over.Goals as goal

pub returns-clause-told : goal.returns-clause-told
returns-clause-told g c = λ own.
    let made : OnOk c.gated.result (Displays c.args.d.now c.gated.new.state event.Over) = search rules in
    let none : OnErr c.gated.result (MakesNone c.args.d.now c.gated.new.state) = search rules in
    over_told (g.G.Gate.told c.args.gate.now) c.args.d.now c.gated.new.state c.next_turn-turn.result.actor c.next_turn-turn.result.number c.next_turn-turn.ensures.actor c.next_turn-turn.ensures.number
    c.gated.ensures.told own c.gated.result event.Over made none

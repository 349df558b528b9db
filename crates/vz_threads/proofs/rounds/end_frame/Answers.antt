use Rattle.vz_threads.proofs.Telling.{done_told}
use Rattle.vz_threads.proofs.rounds.end_frame.Goals as goal

pub returns-clause-told : goal.returns-clause-told
returns-clause-told g c = λ own.
    done_told (g.G.Gate.told c.args.gate.now) c.args.d.now c.done.new.d c.next_turn-turn.result.actor c.next_turn-turn.result.number c.next_turn-turn.ensures.actor c.next_turn-turn.ensures.number
    (record { before = c.before-2.ensures; after = c.after.ensures }) own c.done.ensures.done

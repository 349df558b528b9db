use Rattle.std.proofs.Common.{IfOk, OnErr}
use Rattle.vz_desk.specs.{Drawings.IsDrawing, Owners.Owner, Owners.MakesNone, Totals.DisplayTotals}
use Rattle.vz_threads.proofs.{Ends.at_both, Telling.draw_told}
use Rattle.vz_threads.proofs.rounds.ask_drawing.Goals as goal

pub returns-clause-told : goal.returns-clause-told
returns-clause-told g c = λ own.
    let r = c.gated.ensures.answer in
    let made =
    at_both (λ (a b : Owner DisplayTotals). IfOk c.gated.result (λ x. IsDrawing g.M.Picture.Picture.pictured a b x)) r.shown.now r.left.now c.args.d.now c.gated.new.state r.shows r.leaves r.met.1.0 in
    let none = at_both (λ (a b : Owner DisplayTotals). OnErr c.gated.result (MakesNone a b)) r.shown.now r.left.now c.args.d.now c.gated.new.state r.shows r.leaves r.met.1.1 in
    draw_told (g.G.Gate.told c.args.gate.now) c.args.d.now c.gated.new.state c.next_turn-turn.result.actor c.next_turn-turn.result.number c.next_turn-turn.ensures.actor c.next_turn-turn.ensures.number
    c.gated.ensures.told own g.M.Picture.Picture.pictured c.gated.result made none

use Rattle.vz_callers.proofs.Played.{none_legal, none_told}
use Rattle.vz_callers.proofs.play.play_turns.Goals as goal

pub returns-in_err-opened-clause-legal : goal.returns-in_err-opened-clause-legal
returns-in_err-opened-clause-legal g c = none_legal (g.M.Machine.state c.args.machine).plan c.args.history.now c.requires.empty

pub play_opened-machine-requires-clause-opened : goal.play_opened-machine-requires-clause-opened
play_opened-machine-requires-clause-opened g c κs within =
    let e = c.in_ok-opened.ensures in
    ((g.M.Machine.state c.args.machine).plan, record { counts = c.requires.counts; callers = e.callers; passes = e.passes; display = e.display })

pub play_opened-machine-requires-clause-spare : goal.play_opened-machine-requires-clause-spare
play_opened-machine-requires-clause-spare g c κs within = c.in_ok-opened.ensures.spare

pub play_opened-machine-requires-clause-room : goal.play_opened-machine-requires-clause-room
play_opened-machine-requires-clause-room g c κs within = (c.in_ok-opened.ensures.none, c.in_ok-opened.ensures.room)

pub returns-clause-turns : goal.returns-clause-turns
returns-clause-turns g c =
    let e = c.in_ok-opened.ensures in
    c.play_opened-machine.ensures.turns (g.M.Machine.state c.args.machine).plan (record { counts = c.requires.counts; callers = e.callers; passes = e.passes; display = e.display })

pub returns-clause-legal : goal.returns-clause-legal
returns-clause-legal g c =
    let e = c.in_ok-opened.ensures in
    c.play_opened-machine.ensures.legal (g.M.Machine.state c.args.machine).plan (record { counts = c.requires.counts; callers = e.callers; passes = e.passes; display = e.display })

pub returns-in_err-opened-clause-gated : goal.returns-in_err-opened-clause-gated
returns-in_err-opened-clause-gated g c = none_told (g.G.Gate.told c.args.gate.now) c.args.history.now c.requires.empty

pub returns-clause-gated : goal.returns-clause-gated
returns-clause-gated g c =
    let e = c.in_ok-opened.ensures in
    c.play_opened-machine.ensures.gated (g.M.Machine.state c.args.machine).plan (record { counts = c.requires.counts; callers = e.callers; passes = e.passes; display = e.display })

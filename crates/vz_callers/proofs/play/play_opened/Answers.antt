use Rattle.std.proofs.Common.{◌≡◌, ◌∙◌, ap, arith, length, Some}
use Rattle.vz_callers.proofs.Crewing.{crew_new}
use Rattle.vz_callers.proofs.Played.{unused_count, unused_rests, counted, all_rest, all_turns, legal_there, told_there}
use Rattle.vz_callers.proofs.play.play_opened.Goals as goal

pub play_beside-passes-requires-clause-crew : goal.play_beside-passes-requires-clause-crew
play_beside-passes-requires-clause-crew g c κs within =
    let p = c.requires.opened.0 in
    let o = c.requires.opened.1 in
    let counts = counted p c.args.messages.now o.counts in
    (p, crew_new (g.G.Gate.told c.args.gate.now) c.args.opened.hub.id p c.args.messages.now (length c.args.messages.now) c.args.opened.passes.items counts counts o.passes)

pub play_beside-passes-requires-clause-room : goal.play_beside-passes-requires-clause-room
play_beside-passes-requires-clause-room g c κs within =
    let p = c.requires.opened.0 in
    let o = c.requires.opened.1 in
    let many : length c.args.opened.passes.items ≡ length c.args.messages.now =
    ap length o.passes ∙ unused_count c.args.opened.hub.id (Some p) 1 (length c.args.messages.now) in
    let long = c.args.opened.passes.ok.0 in
    let room = c.requires.room.1 in
    (c.requires.room.0, omega arith)

pub push_reserved-requires : goal.push_reserved-requires
push_reserved-requires g c =
    let p = c.requires.opened.0 in
    let o = c.requires.opened.1 in
    let many : length c.args.opened.passes.items ≡ length c.args.messages.now =
    ap length o.passes ∙ unused_count c.args.opened.hub.id (Some p) 1 (length c.args.messages.now) in
    let long = c.args.opened.passes.ok.0 in
    let spare = c.requires.spare in
    let count = c.play_beside-passes.ensures.count in
    let capacity = c.play_beside-passes.ensures.capacity in
    omega arith

pub close-machine-requires-clause-all : goal.close-machine-requires-clause-all
close-machine-requires-clause-all g c κs within =
    let p = c.requires.opened.0 in
    let o = c.requires.opened.1 in
    let many : length c.args.opened.passes.items ≡ length c.args.messages.now =
    ap length o.passes ∙ unused_count c.args.opened.hub.id (Some p) 1 (length c.args.messages.now) in
    let long = c.args.opened.passes.ok.0 in
    let callers = o.callers in
    let count = c.play_beside-passes.ensures.count in
    let more = c.push_reserved.ensures.len in
    let all = c.push_reserved.new.self.ok.0 in
    omega arith

pub close-machine-requires-clause-ours : goal.close-machine-requires-clause-ours
close-machine-requires-clause-ours g c κs within =
    let p = c.requires.opened.0 in
    let o = c.requires.opened.1 in
    let id = c.args.opened.hub.id in
    let b = c.play_beside-passes in
    let counts = counted p c.args.messages.now o.counts in
    let crew = crew_new (g.G.Gate.told c.args.gate.now) id p c.args.messages.now (length c.args.messages.now) c.args.opened.passes.items counts counts o.passes in
    all_rest (g.G.Gate.told c.args.gate.now) id p c.args.messages.now b.result.passes.items c.push_reserved.new.self.items c.args.opened.display b.result.display b.result.complete (b.ensures.back p crew) c.push_reserved.ensures.items
    (unused_rests id (Some p) c.args.opened.display o.display) b.ensures.stays

pub returns-else-complete-clause-legal : goal.returns-else-complete-clause-legal
returns-else-complete-clause-legal g c p o =
    let b = c.play_beside-passes in
    legal_there (g.G.Gate.told c.args.gate.now) c.args.opened.hub.id p (g.M.Machine.state c.close-machine.result.0).plan c.args.messages.now c.args.ticks (length c.args.messages.now) c.close-machine.result.1 c.args.opened.passes.items b.result.passes.items
    c.push_reserved.new.self.items c.args.opened.display b.result.display o.counts (counted p c.args.messages.now o.counts) o.display o.passes b.ensures.stays
    c.push_reserved.ensures.items c.close-machine.ensures.passes c.close-machine.ensures.legal

pub returns-then-complete-clause-legal : goal.returns-then-complete-clause-legal
returns-then-complete-clause-legal g c p o =
    let b = c.play_beside-passes in
    legal_there (g.G.Gate.told c.args.gate.now) c.args.opened.hub.id p (g.M.Machine.state c.close-machine.result.0).plan c.args.messages.now c.args.ticks (length c.args.messages.now) c.close-machine.result.1 c.args.opened.passes.items b.result.passes.items
    c.push_reserved.new.self.items c.args.opened.display b.result.display o.counts (counted p c.args.messages.now o.counts) o.display o.passes b.ensures.stays
    c.push_reserved.ensures.items c.close-machine.ensures.passes c.close-machine.ensures.legal

pub returns-then-complete-clause-turns : goal.returns-then-complete-clause-turns
returns-then-complete-clause-turns g c p o =
    let id = c.args.opened.hub.id in
    let b = c.play_beside-passes in
    let counts = counted p c.args.messages.now o.counts in
    let crew = crew_new (g.G.Gate.told c.args.gate.now) id p c.args.messages.now (length c.args.messages.now) c.args.opened.passes.items counts counts o.passes in
    all_turns (g.G.Gate.told c.args.gate.now) id p (g.M.Machine.state c.close-machine.result.0).plan c.args.messages.now c.args.ticks (length c.args.messages.now) c.close-machine.result.1 c.args.opened.passes.items b.result.passes.items c.push_reserved.new.self.items
    c.args.opened.display b.result.display o.counts counts o.display o.passes b.ensures.stays c.push_reserved.ensures.items c.close-machine.ensures.passes c.close-machine.ensures.legal
    b.result.complete b.ensures.told (b.ensures.back p crew) b.ensures.numbers b.result.played b.ensures.played c.if-complete.true

pub returns-then-complete-clause-gated : goal.returns-then-complete-clause-gated
returns-then-complete-clause-gated g c p o =
    let id = c.args.opened.hub.id in
    let b = c.play_beside-passes in
    let counts = counted p c.args.messages.now o.counts in
    let crew = crew_new (g.G.Gate.told c.args.gate.now) id p c.args.messages.now (length c.args.messages.now) c.args.opened.passes.items counts counts o.passes in
    told_there (g.G.Gate.told c.args.gate.now) id p (g.M.Machine.state c.close-machine.result.0).plan c.args.messages.now c.args.ticks (length c.args.messages.now) c.close-machine.result.1 c.args.opened.passes.items b.result.passes.items c.push_reserved.new.self.items
    c.args.opened.display b.result.display o.counts counts o.display o.passes b.ensures.stays c.push_reserved.ensures.items c.close-machine.ensures.passes c.close-machine.ensures.legal
    b.result.complete b.ensures.told (b.ensures.back p crew) b.ensures.numbers

pub returns-else-complete-clause-gated : goal.returns-else-complete-clause-gated
returns-else-complete-clause-gated g c p o =
    let id = c.args.opened.hub.id in
    let b = c.play_beside-passes in
    let counts = counted p c.args.messages.now o.counts in
    let crew = crew_new (g.G.Gate.told c.args.gate.now) id p c.args.messages.now (length c.args.messages.now) c.args.opened.passes.items counts counts o.passes in
    told_there (g.G.Gate.told c.args.gate.now) id p (g.M.Machine.state c.close-machine.result.0).plan c.args.messages.now c.args.ticks (length c.args.messages.now) c.close-machine.result.1 c.args.opened.passes.items b.result.passes.items c.push_reserved.new.self.items
    c.args.opened.display b.result.display o.counts counts o.display o.passes b.ensures.stays c.push_reserved.ensures.items c.close-machine.ensures.passes c.close-machine.ensures.legal
    b.result.complete b.ensures.told (b.ensures.back p crew) b.ensures.numbers

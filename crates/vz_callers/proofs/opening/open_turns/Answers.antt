use Rattle.std.proofs.Common.{◌≡◌, ◌+◌, ◌∙◌, ap, arith, length, Some, drop, get_or}
use Rattle.vz_callers.proofs.Played.{unused_count, unused_first}
use Rattle.vz_callers.proofs.opening.open_turns.Goals as goal

pub returns-clause-spare : goal.returns-clause-spare
returns-clause-spare g c =
    let many : length c.in_ok-hub.passes.items ≡ c.args.clients + 1 =
    ap length (c.in_ok-hub.ensures).passes ∙ unused_count c.in_ok-hub.hub.id (Some (g.M.Machine.state c.args.machine).plan) 0 (c.args.clients + 1) in
    let same = c.remove-display.ensures.capacity in
    let long = c.in_ok-hub.passes.ok.0 in
    let room = c.in_ok-hub.passes.ok.1 in
    omega arith

pub returns-clause-display : goal.returns-clause-display
returns-clause-display g c =
    let all = (c.in_ok-hub.ensures).passes ∙ unused_first c.in_ok-hub.hub.id (Some (g.M.Machine.state c.args.machine).plan) c.args.clients in
    c.remove-display.ensures.value ∙ ap (λ l. get_or l 0 c.remove-display.result) all

pub returns-clause-passes : goal.returns-clause-passes
returns-clause-passes g c =
    let all = (c.in_ok-hub.ensures).passes ∙ unused_first c.in_ok-hub.hub.id (Some (g.M.Machine.state c.args.machine).plan) c.args.clients in
    c.remove-display.ensures.items ∙ ap (drop 1) all

use Rattle.std.proofs.Common.{◌<◌, ◌∙◌, length, get_or, arith}
use Rattle.std.proofs.lemmas.List.Elements.{Contains-get_or}
use Rattle.vz_rules.specs.World.{Client}
use Rattle.vz_rules.specs.Messages.{took}
use Rattle.vz_state.specs.Changes.{changed_by}
use Rattle.vz_state.proofs.Alone.{changed_alone, found_within}
use Rattle.vz_state.proofs.change.change_alone.Goals as goal

pub change-requires : goal.change-requires
change-requires c =
    let k = c.saturating_sub-place.result in
    let old = c.args.clients.now in
    let within : k < length old = omega arith in
    c.requires.small (get_or old k c.index-clients-place.result) (Contains-get_or old k c.index-clients-place.result within)

pub returns-then-place-clients-clause-value : goal.returns-then-place-clients-clause-value
returns-then-place-clients-clause-value c = λ x h.
    let k = c.saturating_sub-place.result in
    let r = found_within c.args.c k c.args.clients.now x c.saturating_sub-place.ensures c.requires.numbered h in
    let here = r.1 in
    let out = c.if-place-clients.true in
    absurd (omega arith)

pub returns-clause-value : goal.returns-clause-value
returns-clause-value c = λ x h.
    changed_alone (λ (y : Client). took (changed_by c.args.change.now y)) c.args.c c.saturating_sub-place.result c.args.clients.now x c.index-clients-place.result c.change.new.self
    c.saturating_sub-place.ensures c.requires.numbered h c.in_ok-change.ensures.value

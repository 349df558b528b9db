use Rattle.std.proofs.Common.{Option, Some, false, sym, ap, ◌∙◌}
use Rattle.std.specs.Option.{option_map_or}
use Rattle.indexmap.specs.IndexMap.{get}
use Rattle.vz_rules.specs.Reach.{names}
use Rattle.vz_refs.specs.declared.sets.Nth.{Nth}
use Rattle.vz_refs.specs.declared.sets.Edge.{Edge}
use Rattle.vz_refs.specs.Indexing.{same_nth, same_place}
use Rattle.vz_refs.proofs.Keyed.{nths, places, at_key}
use Rattle.vz_refs.proofs.naming.names_at.Goals as goal

pub returns-in-Some-get : goal.returns-in-Some-get
returns-in-Some-get c =
    let edge : Nth → Option Edge = get same_nth c.args.edges.now in
    c.names.ensures
    ∙ sym (ap (λ (o : Option Nth). option_map_or (λ (n : Nth). option_map_or (λ (e : Edge). names c.args.id.now e.range) (edge n) false) o false) (at_key _ same_place places c.args.ends.now c.args.place (Some c.in-Some.slot.now) c.in-Some.ensures.value)
    ∙ ap (λ (o : Option Edge). option_map_or (λ (e : Edge). names c.args.id.now e.range) o false) (at_key _ same_nth nths c.args.edges.now c.in-Some.slot.now (Some c.in-Some-get.edge.now) c.in-Some-get.ensures.value))

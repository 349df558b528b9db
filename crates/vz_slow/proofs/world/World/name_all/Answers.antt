use Rattle.std.proofs.Common.{map, sym, ap, ◌∙◌}
use Rattle.vz_state.proofs.Placed.{placed_map}
use Rattle.vz_slow.proofs.Named.{naming_is, named_if, newly_named, flags_are}
use Rattle.vz_rules.specs.World.{World}
use Rattle.vz_slow.proofs.world.World.name_all.Goals as goal

pub returns : goal.returns
returns c =
    let w = c.args.self.now in
    let had = c.deref_mut.ensures.value in
    let ends = c.deref-3.ensures.value ∙ c.in_ok-ends.ensures in
    let named = flags_are w c.deref.result.now c.deref-3.result.now c.deref-2.result.now (c.deref.ensures.value ∙ ap (λ (u : World). u.subs) c.self.view_is) ends in
    let flags = c.deref-4.ensures.value ∙ (c.in_ok-flags.ensures ∙ (named ∙ ap (map (newly_named w)) (c.deref-2.ensures.value ∙ sym had))) in
    naming_is w _ c.self.view_is _
    (placed_map c.self.inside.surfaces (named_if (newly_named w)) _ c.name_by.new.surfaces c.name_by.auto.surfaces c.deref_mut.ensures.len had (c.name_by.ensures (newly_named w) flags))

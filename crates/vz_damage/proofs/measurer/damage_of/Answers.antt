use Rattle.std.proofs.Common.{ap, sym, ◌∙◌}
use Rattle.vz_damage.specs.Told.{damage_in}
use Rattle.vz_damage.proofs.Looking.{looked}
use Rattle.vz_damage.proofs.measurer.damage_of.Goals as goal

pub returns-in-Some : goal.returns-in-Some
returns-in-Some c = c.damage.ensures ∙ ap damage_in (c.in-Some.ensures.value ∙ sym (looked c.args.told.now.entries c.args.id.now))

pub returns-in-None : goal.returns-in-None
returns-in-None c = c.empty.ensures ∙ ap damage_in (c.in-None.ensures.value
    ∙ sym (looked c.args.told.now.entries c.args.id.now))

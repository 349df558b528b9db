use Rattle.std.proofs.Common.{sym, ◌∙◌}
use Rattle.vz_damage.proofs.Ranging.{switched_some, switched_none}
use Rattle.vz_damage.proofs.ranges.Ranges.is_switched.Goals as goal

pub returns-then-is_at : goal.returns-then-is_at
returns-then-is_at c a e = sym (c.is_at.ensures.same c.if-is_at.true a (e ∙ sym c.self.view_is))

pub returns-in-None : goal.returns-in-None
returns-in-None c a e = switched_none a c.self.inside.shown.entries c.args.range.now c.args.now.now (e
    ∙ sym c.self.view_is) c.in-None.ensures.value

pub returns-in-Some : goal.returns-in-Some
returns-in-Some c a e =
    c.shows_other.ensures ∙ switched_some a c.self.inside.shown.entries c.args.range.now c.in-Some.before.now c.args.now.now (e
    ∙ sym c.self.view_is) c.in-Some.ensures.value

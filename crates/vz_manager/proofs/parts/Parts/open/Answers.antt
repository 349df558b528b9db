use Rattle.std.proofs.Common.{None, ap, sym, subst, ◌∙◌}
use Rattle.vz_rules.specs.World.{opening}
use Rattle.vz_returns.specs.Lent.{NoneReleased}
use Rattle.vz_surface_manager.specs.Settles.{AreSettling}
use Rattle.vz_manager.specs.Serving.{Served}
use Rattle.vz_manager.proofs.Opened.{filled}
use Rattle.vz_manager.proofs.parts.Parts.open.Goals as goal

pub returns-in-Ok-all_messages-clause-serves : goal.returns-in-Ok-all_messages-clause-serves
returns-in-Ok-all_messages-clause-serves c =
    let here = c.deref_mut.ensures.value in
    let empty = c.in-Ok.ensures in
    let planned = c.count-clients.ensures.kept in
    filled c.args.plan c.deref_mut.result.now _ _ c.keep_for.ensures planned (ap (λ (v : Served). v.size) here ∙ empty.size ∙ c.size-size.ensures.value)
    c.in-Ok-all_messages.ensures.ok
    (subst (λ (v : Served). AreSettling (opening c.args.plan) None v.settling) (sym here) (empty.settling c.args.plan planned (sym c.count-clients.ensures.value)))
    (subst (λ (v : Served). NoneReleased v.settling.live.lent) (sym here) empty.released) (ap (λ (v : Served). v.returned.list) here ∙ empty.returned)
    (ap (λ (v : Served). v.fed.list) here ∙ empty.fed)

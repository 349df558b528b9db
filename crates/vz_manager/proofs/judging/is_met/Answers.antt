use Rattle.std.proofs.Common.{None, true, false, refl, sym, ◌∙◌}
use Rattle.vz_surface_manager.proofs.Asked.{met_asked}
use Rattle.vz_manager.proofs.judging.is_met.Goals as goal

pub returns-then-ever_active : goal.returns-then-ever_active
returns-then-ever_active c p w asks =
    c.if-ever_active.true
    ∙ met_asked w c.args.d.now true _ (sym c.if-ever_active.true ∙ c.ever_active.ensures.active w None asks.live) refl

pub returns-else-ever_active : goal.returns-else-ever_active
returns-else-ever_active c p w asks =
    met_asked w c.args.d.now false _ (sym c.if-ever_active.false ∙ c.ever_active.ensures.active w None asks.live)
    (c.is_gone.ensures p w asks.always.clients asks.support)

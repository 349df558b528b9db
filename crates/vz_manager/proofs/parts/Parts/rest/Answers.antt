use Rattle.std.proofs.Common.{sym, subst}
use Rattle.vz_manager.specs.Serving.{Serves}
use Rattle.vz_manager.proofs.Resting.{rest_is}
use Rattle.vz_manager.proofs.parts.Parts.rest.Goals as goal

pub returns : goal.returns
returns c p w serves =
    let h = subst (Serves p w) (sym c.self.view_is) serves in
    rest_is w _ _ (c.in_ok-held.ensures w h.keeps.always h.settling.live) (c.in_ok-unfed.ensures w h.keeps h.settling.live)

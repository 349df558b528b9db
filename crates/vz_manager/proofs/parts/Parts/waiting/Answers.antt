use Rattle.std.proofs.Common.{sym, subst}
use Rattle.vz_manager.specs.Serving.{Serves}
use Rattle.vz_manager.proofs.parts.Parts.waiting.Goals as goal

pub returns : goal.returns
returns c p w serves =
    let h = subst (Serves p w) (sym c.self.view_is) serves in
    sym (c.count.ensures.some w h.keeps.none_ready h.settling.waiting)

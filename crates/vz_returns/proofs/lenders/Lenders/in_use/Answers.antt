use Rattle.std.proofs.Common.{sym, subst, ◌∙◌}
use Rattle.vz_returns.specs.Lent.{IsLender, AreLent, NoneReleased}
use Rattle.vz_returns.proofs.Returns_to_all.{refused_use}
use Rattle.vz_returns.proofs.lenders.Lenders.in_use.Goals as goal

pub returns : goal.returns
returns c = λ w d always there number none lent.
    let items = c.self.inside.lenders.items in
    let known = subst (IsLender c.args.client) (sym c.self.view_is) c.requires.known in
    let o = c.index.result.now in
    let is = c.index.ensures in
    c.in_use.ensures
    ∙ refused_use items c.args.client known o _ is w d always there number (subst (AreLent w) (sym c.self.view_is) lent) c.args.id
    (subst NoneReleased (sym c.self.view_is) none)

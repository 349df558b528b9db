use Rattle.std.proofs.Common.{rules, ◌≡◌, length, sym, subst}
use Rattle.std.proofs.lemmas.List.{with_items_is}
use Rattle.vz_returns.specs.Lent.{NoneReleased}
use Rattle.vz_returns.proofs.lenders.Lenders.give_back.Goals as goal

pub returns-clause-released : goal.returns-clause-released
returns-clause-released c =
    let many : length c.give_back_each.new.lenders ≡ c.self.inside.lenders.len = search rules in
    subst NoneReleased (sym (with_items_is c.self.inside.lenders c.give_back_each.new.lenders many)) c.give_back_each.ensures.released

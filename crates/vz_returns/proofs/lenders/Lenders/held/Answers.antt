use Rattle.std.proofs.Common.{◌++◌, ap, ◌∙◌}
use Rattle.std.specs.List.{flat_map}
use Rattle.vz_returns.specs.{Held.held, Lent.Lent}
use Rattle.vz_returns.proofs.Rest.{rest_is}
use Rattle.vz_returns.proofs.lenders.Lenders.held.Goals as goal

pub returns : goal.returns
returns c = λ w always lent.
    c.put_held.ensures.out
    ∙ (ap (λ l. c.args.out.now.list ++ flat_map (λ (x : Lent). held x.holding) l) (c.deref.ensures.value ∙ c.self.view_is)
    ∙ ap (λ l. c.args.out.now.list ++ l) (rest_is w c.args.self.now always lent))

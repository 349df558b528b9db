use Rattle.std.proofs.Common.{not, ◌&&◌, ◌==◌, rules, ap}
use Rattle.std.proofs.lemmas.Iterator.{YieldsList-from_slice}
use Rattle.std.proofs.lemmas.Iterator.Search.{any_from_yields_List}
use Rattle.vz_rules.specs.World.{Resource}
use Rattle.vz_state.proofs.resource.is_unknown.Goals as goal

pub returns : goal.returns
returns c =
    let l = c.args.listing.now in
    let serves = λ (s : Resource). (s.id == l.id) && (s.block.w == l.w) && (s.block.h == l.h) in
    ap not (any_from_yields_List serves _ _ _ c.any.ensures.ran (YieldsList-from_slice c.args.resources.now cc) (λ x b q k. search rules))

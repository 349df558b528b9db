use Rattle.std.proofs.Common.{rules}
use Rattle.std.proofs.lemmas.Iterator.{YieldsList-from_slice}
use Rattle.std.proofs.lemmas.Iterator.Search.{position_from_yields_List}
use Rattle.vz_frame.specs.Frame.{lists}
use Rattle.vz_surfaces.specs.Names.{listing_place}
use Rattle.vz_surfaces.proofs.named.listing_place.Goals as goal

pub returns : goal.returns
unfolding listing_place
returns c = position_from_yields_List (lists c.args.id) _ _ _ c.position.ensures.ran (YieldsList-from_slice c.args.listings.now cc) (λ x b q k. search rules)

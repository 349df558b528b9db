use Rattle.std.proofs.Common.{ap, ◌∙◌, ◌++◌, ◌∷◌, [], List}
use Rattle.vz_hit.specs.declared.region.Owner.{Owner}
use Rattle.vz_hit.proofs.Owning.{put_is}
use Rattle.vz_hit.proofs.regions.Regions.put.Goals as goal

pub returns : goal.returns
returns c =
    let inside = c.self.inside in
    put_is inside.areas.items _ inside.owners.items _ c.args.self.now c.args.region c.self.invariant c.self.view_is
    (c.push_reserved.ensures.items ∙ ap (λ l. l ++ c.args.region.area ∷ []) c.make_place.ensures.same)
    (c.push_reserved-2.ensures.items ∙ ap (λ (l : List Owner). l ++ record { id = c.args.region.id; shift = c.args.region.shift } ∷ []) c.make_place-2.ensures.same)

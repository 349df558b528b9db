use Rattle.std.proofs.Common.{◌≡◌, ◌==◌, ℕ, map, IfSome, subst}
use Rattle.vz_frame.specs.Frame.{has_repeat}
use Rattle.vz_frame.specs.Pairs.{get}
use Rattle.vz_frame.specs.Places.{first_place}
use Rattle.vz_frame.specs.declared.places.Index.{Index}
use Rattle.vz_frame.proofs.places.Places.of.Goals as goal

-- what the map says is what the condition says of it
pub invariant_of-result : goal.invariant_of-result
invariant_of-result g c =
    let ids = map g.T.HasId.id_of c.args.items.now in
    subst (λ o. IfSome o (λ (m : Index). (m.repeats ≡ has_repeat (λ a b. b == a) ids) × ((n : ℕ) → get m.places n ≡ first_place n ids))) c.in-Some.is c.requires

use Rattle.std.proofs.Common.{◌≡◌, map, take}
use Rattle.std.specs.List.{filter_map}
use Rattle.std.specs.Option.{option_map}
use Rattle.vz_frame.specs.declared.frame.Listing.{Listing}
use Rattle.vz_rules.specs.World.{Resource, resource_in}
use Rattle.vz_state.proofs.accept.blocks_of.Given as goal

-- the blocks of the listings so far
abbrev pub invariant-loop-listing : goal.invariant-loop-listing
invariant-loop-listing l =
    map (λ b. b.now) l.blocks.items ≡ filter_map (λ (x : Listing). option_map (λ (s : Resource). s.block) (resource_in x.id l.resources)) (take l.listing-index l.listing-items)

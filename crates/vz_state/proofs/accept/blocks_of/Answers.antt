use Rattle.std.specs.Option.{option_map}
use Rattle.vz_frame.specs.declared.frame.Listing.{Listing}
use Rattle.vz_rules.specs.World.{Resource, resource_in}
use Rattle.vz_state.proofs.Submitting.{block_more}
use Rattle.vz_state.proofs.accept.blocks_of.Goals as goal

pub loop-listing-preserved : goal.loop-listing-preserved
loop-listing-preserved c =
    block_more (λ (x : Listing). option_map (λ (s : Resource). s.block) (resource_in x.id c.args.resources.now)) c.as_slice-listing-items.result.now c.loop-listing.listing-index _ _ _
    c.loop-listing-test.true c.loop-listing.invariant c.in_ok-add_block.ensures

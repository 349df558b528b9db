use Rattle.std.proofs.Common.{◌++◌, ap, sym, ◌∙◌, take}
use Rattle.std.specs.{List.filter_map, Option.option_copied, Option.option_to_list}
use Rattle.vz_frame.specs.declared.frame.Listing.{Listing}
use Rattle.vz_support.specs.Sent.{block_in}
use Rattle.vz_support.proofs.Listed.{given_more}
use Rattle.vz_support.proofs.blocks.Blocks.listed.Goals as goal

pub loop-listing-preserved : goal.loop-listing-preserved
loop-listing-preserved c =
    let f = λ (l : Listing). block_in c.args.self.now.blocks.entries l.id in
    let k = c.loop-listing.listing-index in
    c.in_ok-push_shared.ensures
    ∙ (ap (λ l. l ++ option_to_list (option_copied c.get-in-loop-listing.result)) c.loop-listing.invariant
    ∙ (ap (λ o. filter_map f (take k c.args.listings.now) ++ option_to_list o) c.get-in-loop-listing.ensures
    ∙ sym (given_more f c.args.listings.now k _ c.loop-listing-test.true)))

use Rattle.std.proofs.Common.{Some, List, slice_get, take, drop, length, ap, sym, ◌∙◌, arith}
use Rattle.std.proofs.lemmas.Option.{slice_get-map}
use Rattle.std.specs.Map.Iter.{deref_pair}
use Rattle.std.specs.Option.{option_map}
use Rattle.vz_frame.specs.declared.frame.Listing.{Listing}
use Rattle.vz_surface_manager.specs.{Flown.Flown, Packed.unpacked_one}
use Rattle.vz_surface_manager.proofs.Packed.{within_at}
use Rattle.vz_surface_manager.proofs.roster.Roster.get.Goals as goal

pub listed-requires : goal.listed-requires
listed-requires c =
    let inside = c.self.inside in
    let at = within_at (length inside.listings.items) inside.subs.entries c.args.k (c.in-Some.sub.now, c.in-Some.part.now) c.self.invariant
    (sym c.get_index.ensures.entry ∙ ap (option_map deref_pair) c.in-Some.is) in
    record { within = (at.0, omega (arith, at.1, ap length c.as_slice.ensures.value)) }

pub returns : goal.returns
returns c =
    let inside = c.self.inside in
    ap (λ (l : List Flown). slice_get l c.args.k) (sym c.self.view_is)
    ∙ (slice_get-map (unpacked_one inside.listings.items) inside.subs.entries c.args.k
    ∙ (ap (option_map (unpacked_one inside.listings.items)) (sym c.get_index.ensures.entry ∙ ap (option_map deref_pair) c.in-Some.is)
    ∙ sym (ap (λ (l : List Listing). Some (c.in-Some.sub.now, l)) (c.listed.ensures
    ∙ ap (λ (l : List Listing). drop c.in-Some.part.now.from (take c.in-Some.part.now.to l)) c.as_slice.ensures.value))))

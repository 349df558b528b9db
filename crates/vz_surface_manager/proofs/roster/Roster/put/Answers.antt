use Rattle.std.proofs.Common.{List, [], ◌∷◌, ◌++◌, length, ap, sym, ◌∙◌, subst, arith}
use Rattle.std.proofs.lemmas.List.{length-append}
use Rattle.vz_frame.specs.declared.frame.Listing.{Listing}
use Rattle.vz_rules.specs.World.{has_sub}
use Rattle.vz_surface_manager.specs.{Flown.Flown, Flown.subs_of, Packed.unpacked, Packed.AreWithin}
use Rattle.vz_surface_manager.proofs.Packed.{on_err, put_unpacked, put_within, unpacked_more, within_more}
use Rattle.vz_surface_manager.proofs.roster.Roster.put.Goals as goal

pub returns-clause-ok : goal.returns-clause-ok
returns-clause-ok c =
    let inside = c.self.inside in
    put_unpacked inside.listings.items c.args.listings.now _ inside.subs.entries _ c.args.sub c.len-from.result c.len-to.result c.self.invariant
    c.in_ok-extend_from_slice.ensures.items (omega (arith, c.len-from.ensures, inside.listings.ok))
    (omega (arith, c.len-to.ensures, c.extend_from_slice.new.self.ok))
    (ap (λ (l : List Flown). has_sub (subs_of l) c.args.sub) c.self.view_is ∙ c.requires) c.in_ok-insert.ensures.entries
    ∙ ap (λ (l : List Flown). l ++ (c.args.sub, c.args.listings.now) ∷ []) c.self.view_is

pub invariant_of-self-2 : goal.invariant_of-self-2
invariant_of-self-2 c =
    let inside = c.self.inside in
    put_within inside.listings.items c.args.listings.now _ inside.subs.entries _ c.args.sub c.len-from.result c.len-to.result c.self.invariant
    c.in_ok-extend_from_slice.ensures.items (omega (arith, c.len-from.ensures, inside.listings.ok))
    (omega (arith, c.len-to.ensures, c.extend_from_slice.new.self.ok))
    (ap (λ (l : List Flown). has_sub (subs_of l) c.args.sub) c.self.view_is ∙ c.requires) c.in_ok-insert.ensures.entries

-- no room for the listings

pub returns-in_err-extend_from_slice-clause-err : goal.returns-in_err-extend_from_slice-clause-err
returns-in_err-extend_from_slice-clause-err c =
    on_err c.from_residual.result _
    (ap (λ (l : List Listing). unpacked l c.self.inside.subs.entries) c.in_err-extend_from_slice.ensures.items ∙ c.self.view_is)

pub invariant_of-self : goal.invariant_of-self
invariant_of-self c =
    subst (λ (l : List Listing). AreWithin (length l) c.self.inside.subs.entries) (sym c.in_err-extend_from_slice.ensures.items) c.self.invariant

-- no room for the submission

pub returns-in_err-insert-clause-err : goal.returns-in_err-insert-clause-err
returns-in_err-insert-clause-err c =
    let inside = c.self.inside in
    on_err c.from_residual-in_err-insert.result _
    ((λ i. unpacked (c.in_ok-extend_from_slice.ensures.items i) (c.in_err-insert.ensures.err i))
    ∙ (unpacked_more inside.listings.items c.args.listings.now inside.subs.entries c.self.invariant ∙ c.self.view_is))

pub invariant_of-self-in_err-insert : goal.invariant_of-self-in_err-insert
invariant_of-self-in_err-insert c =
    let inside = c.self.inside in
    let longer = length-append inside.listings.items c.args.listings.now in
    subst (AreWithin (length c.extend_from_slice.new.self.items)) (sym c.in_err-insert.ensures.err)
    (within_more (length inside.listings.items) (length c.extend_from_slice.new.self.items) inside.subs.entries
    (omega (arith, longer, ap length c.in_ok-extend_from_slice.ensures.items)) c.self.invariant)

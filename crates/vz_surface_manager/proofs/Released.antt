-- The submissions of a drawn frame release what they list, one after the other.
use Rattle.std.proofs.Common.{◌≡◌, ℕ, zero, suc, ◌+◌, ◌≤◌, Some, List, []}
use Rattle.std.proofs.Common.{◌∷◌, length, drop, slice_get, ap, sym, ◌∙◌, subst, arith, Contains}
use Rattle.std.proofs.Math.ListN.{drop_of_length-le}
use Rattle.vz_ids.specs.declared.Sub.{Sub}
use Rattle.vz_frame.specs.declared.frame.Listing.{Listing}
use Rattle.vz_rules.specs.{World.World, World.Submission, World.has_sub, World.sub_of, Kept.KeepsAlways}
use Rattle.vz_rules.proofs.Members.{contains_at, at_contains, at_within}
use Rattle.vz_returns.specs.{Lent.Lent, Lent.AreLent, Lent.IsLender, Listed.lists_twice, Changes.IsDone}
use Rattle.vz_surface_manager.specs.{Flown.Flown, Flown.subs_of, Frame_end.IsLanding}
use Rattle.vz_surface_manager.proofs.Found.{client_of, whole_once}

drop_from : (xs : List Flown) (k : ℕ) (f : Flown) → slice_get xs k ≡ Some f → subs_of (drop k xs) ≡ f.0 ∷ subs_of (drop (suc k) xs)
drop_from [] k f e = absurd (cc)
drop_from (x ∷ xs) zero f e = let one : x ≡ f = cc in ap (λ (g : Flown). g.0 ∷ subs_of xs) one
drop_from (x ∷ xs) (suc k) f e = drop_from xs k f e

next_is : (k : ℕ) → suc k ≡ k + 1
next_is k = omega arith

-- the first of those that are left
pub drop_next : (xs : List Flown) (k : ℕ) (f : Flown) → slice_get xs k ≡ Some f → subs_of (drop k xs) ≡ f.0 ∷ subs_of (drop (k + 1) xs)
drop_next xs k f e = drop_from xs k f e ∙ ap (λ n. f.0 ∷ subs_of (drop n xs)) (next_is k)

pub drop_all : (xs : List Flown) (k : ℕ) → length xs ≤ k → subs_of (drop k xs) ≡ []
drop_all xs k over = ap subs_of (drop_of_length-le xs over)

-- each submission is of a client that lends
pub lender_there : (w : World) (s : Submission) (sub : Sub) (items : List Lent) → KeepsAlways w → Contains w.subs s → sub_of s ≡ sub
    → length items ≡ length w.clients → IsLender sub.client items
lender_there w s sub items always known name many =
    let c = client_of w s always known in
    let n = contains_at w.clients c.0 c.1 in
    let number = always.clients.numbered n.0 c.0 n.1 in
    let within = at_within w.clients n.0 c.0 n.1 in
    let own = ap (λ (x : Sub). x.client) name in
    (omega (arith, number, c.2, own), omega (arith, number, c.2, own, within, many))

module _ (w : World) (roster : List Flown) (first : List Lent) (h : IsLanding w roster first) (items : List Lent) (k : ℕ)
    (lent : AreLent (record w { in_flight = Some (subs_of (drop k roster)) }) items) (sub : Sub) (listings : List Listing)
    (at : slice_get roster k ≡ Some (sub, listings)) where
  -- the submission at a place
  abbrev pub there : (s : Submission) × Contains w.subs s × (sub_of s ≡ sub) × (s.submitted.frame.resources ≡ listings)
  there = h.listed (sub, listings) (at_contains roster k (sub, listings) at)

  pub lands_lender : IsLender sub.client items
  lands_lender = lender_there w there.0 sub items h.always there.1 there.2 lent.many

  pub lands_next : IsDone w there.0 (subs_of (drop (k + 1) roster)) sub.client listings items
  lands_next =
      record {
        always = h.always;
        known = there.1;
        first = ap (has_sub (subs_of (drop (k + 1) roster))) there.2 ∙ h.behind k (sub, listings) at;
        own = ap (λ (x : Sub). x.client) there.2;
        listed = sym there.3;
        once = ap lists_twice (sym there.3) ∙ whole_once there.0.submitted (h.whole there.0 there.1);
        lent = subst (λ (l : List Sub). AreLent (record w { in_flight = Some l }) items)
            (drop_next roster k (sub, listings) at ∙ ap (λ (x : Sub). x ∷ subs_of (drop (k + 1) roster)) (sym there.2)) lent;
      }

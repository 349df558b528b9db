-- The submissions of a drawn frame hold what they list, one after the other.
use Rattle.std.proofs.Common.{◌≡◌, ℕ, zero, suc, ◌+◌, ◌≤◌, true, Some, List, [], ◌∷◌}
use Rattle.std.proofs.Common.{◌++◌, length, take, take_all, drop, slice_get, ap, sym, ◌∙◌, arith, Contains}
use Rattle.vz_ids.specs.declared.Sub.{Sub}
use Rattle.vz_frame.specs.declared.frame.Listing.{Listing}
use Rattle.vz_rules.specs.Plan.{Plan}
use Rattle.vz_rules.specs.World.{World, Submission, has_sub, is_active, sub_of}
use Rattle.vz_rules.proofs.Members.{at_contains}
use Rattle.vz_returns.specs.Lent.{Lent, AreLent, IsLender, NoneReleased, HasPlaces}
use Rattle.vz_returns.specs.{Listed.lists_twice, Changes.IsDrawn}
use Rattle.vz_surface_manager.specs.{Flown.Flown, Flown.subs_of, Rosters.listing_count, Drawn_frame.IsLifting}
use Rattle.vz_surface_manager.proofs.{Listing_counts.count_next, Found.whole_once, Released.lender_there}
use Rattle.std.proofs.lemmas.Bool.Decides.{nat_tests}

take_from : (xs : List Flown) (k : ℕ) (f : Flown) → slice_get xs k ≡ Some f → subs_of (take (suc k) xs) ≡ subs_of (take k xs) ++ f.0 ∷ []
take_from [] k f e = absurd (cc)
take_from (x ∷ xs) zero f e = let one : x ≡ f = cc in ap (λ (g : Flown). g.0 ∷ []) one
take_from (x ∷ xs) (suc k) f e = ap (λ (l : List Sub). x.0 ∷ l) (take_from xs k f e)

next_is : (k : ℕ) → suc k ≡ k + 1
next_is k = omega arith

-- one more of them
pub take_next : (xs : List Flown) (k : ℕ) (f : Flown) → slice_get xs k ≡ Some f
    → subs_of (take (k + 1) xs) ≡ subs_of (take k xs) ++ f.0 ∷ []
take_next xs k f e = ap (λ n. subs_of (take n xs)) (sym (next_is k)) ∙ take_from xs k f e

pub take_every : (xs : List Flown) (k : ℕ) → length xs ≤ k → subs_of (take k xs) ≡ subs_of xs
take_every xs k over = ap subs_of (take_all k xs over)

-- places for those that are left are places for the next one, and for the others
pub places_here : (xs : List Flown) (k : ℕ) (f : Flown) (client : ℕ) (items : List Lent) → slice_get xs k ≡ Some f
    → HasPlaces (listing_count (drop k xs)) client items → HasPlaces (length f.1) client items
places_here xs k f client items e h l is = omega (arith, h l is, count_next xs k f e)

pub places_left : (xs : List Flown) (k : ℕ) (f : Flown) (client : ℕ) (items : List Lent) → slice_get xs k ≡ Some f
    → HasPlaces (listing_count (drop k xs)) client items → HasPlaces (listing_count (drop (k + 1) xs) + length f.1) client items
places_left xs k f client items e h l is = omega (arith, h l is, count_next xs k f e)

module _ (p : Plan) (w : World) (roster : List Flown) (first : List Lent) (h : IsLifting p w roster first) (items : List Lent) (k : ℕ)
    (lent : AreLent (record w { in_flight = Some (subs_of (take k roster)) }) items) (none : NoneReleased items) (sub : Sub)
    (listings : List Listing) (at : slice_get roster k ≡ Some (sub, listings)) where
  -- the submission at a place
  abbrev pub acting : (s : Submission) × Contains w.subs s × (is_active s ≡ true) × (sub_of s ≡ sub)
      × (s.submitted.frame.resources ≡ listings)
  acting = h.listed (sub, listings) (at_contains roster k (sub, listings) at)

  pub lifts_lender : IsLender sub.client items
  lifts_lender = lender_there w acting.0 sub items h.always acting.1 acting.3 lent.many

  pub lifts_next : IsDrawn p w (subs_of (take k roster)) acting.0 sub.client listings items
  lifts_next =
      record {
        plan = h.plan;
        always = h.always;
        of_plan = h.of_plan;
        known = acting.1;
        shown = acting.2;
        next = ap (has_sub (subs_of (take k roster))) acting.3 ∙ h.before k (sub, listings) at;
        own = ap (λ (x : Sub). x.client) acting.3;
        listed = sym acting.4;
        once = ap lists_twice (sym acting.4) ∙ whole_once acting.0.submitted (h.whole acting.0 acting.1);
        none_released = none;
        lent = lent;
      }

  -- the frame has one more of them
  pub lifts_more : (new : List Lent) → AreLent (record w { in_flight = Some (subs_of (take k roster) ++ sub_of acting.0 ∷ []) }) new
      → AreLent (record w { in_flight = Some (subs_of (take (k + 1) roster)) }) new
  lifts_more new is = grind (arith, nat_tests, take_next roster k (sub, listings) at)

-- The listings of submissions, counted one after the other.
use Rattle.std.proofs.Common.{◌≡◌, ℕ, zero, suc, ◌+◌, ◌≤◌, Some, List, [], ◌∷◌, length, drop, slice_get, ap, ◌∙◌, arith}
use Rattle.std.proofs.{Math.ListN.drop_of_length-le, lemmas.List.Sums.sum_by-cons}
use Rattle.vz_surface_manager.specs.{Flown.Flown, Rosters.listing_count}

count_cons : (f : Flown) (fs : List Flown) → listing_count (f ∷ fs) ≡ length f.1 + listing_count fs
unfolding listing_count
count_cons f fs = sum_by-cons (λ (g : Flown). length g.1) f fs

count_from : (xs : List Flown) (k : ℕ) (f : Flown) → slice_get xs k ≡ Some f
    → listing_count (drop k xs) ≡ length f.1 + listing_count (drop (suc k) xs)
count_from [] k f e = absurd (cc)
count_from (x ∷ xs) zero f e = let one : x ≡ f = cc in count_cons x xs ∙ ap (λ (g : Flown). length g.1 + listing_count xs) one
count_from (x ∷ xs) (suc k) f e = count_from xs k f e

next_is : (k : ℕ) → suc k ≡ k + 1
next_is k = omega arith

-- one that is counted is left no more
pub count_next : (xs : List Flown) (k : ℕ) (f : Flown) → slice_get xs k ≡ Some f
    → listing_count (drop k xs) ≡ length f.1 + listing_count (drop (k + 1) xs)
count_next xs k f e = count_from xs k f e ∙ ap (λ n. length f.1 + listing_count (drop n xs)) (next_is k)

-- and in the end none is
pub count_none : (xs : List Flown) (k : ℕ) → length xs ≤ k → listing_count (drop k xs) ≡ 0
unfolding listing_count
count_none xs k over = ap listing_count (drop_of_length-le xs over)

-- What a search finds among sorted pairs, and what a new pair in a gap does.
use Rattle.std.proofs.Common.{◌≡◌, ℕ, ◌+◌, ◌-◌, ◌<◌, ◌≤◌, length, get_or, Some, None, Result, Ok, Err, IfOk, IfErr, sym, ap, subst, arith}
use Rattle.std.specs.List.{insert}
use Rattle.std.specs.List.Sorted.{IsSearchInRange, IsBinarySearchResult, IsNonDecreasingBy}
use Rattle.std.specs.Ordering.{nat_cmp, ordering_index}
use Rattle.std.proofs.lemmas.Cmp.{ranked}
use Rattle.std.proofs.lemmas.List.Sorted.{IsNonDecreasingBy-from_default}
use Rattle.std.proofs.lemmas.List.Edits.{length-insert, get_or-insert_below, get_or-insert_at, get_or-insert_above}
use Rattle.std.proofs.lemmas.Bool.Decides.{nat_tests}
use Rattle.vz_frame.specs.Pairs.{Pairs, get, id_at, IsStrictlySorted, IsAt, IsGapFor, GetsAfterSet}
use Rattle.vz_frame.proofs.Finding.{get_absent, get_present, get_insert}

module _ (l : Pairs) (sorted : IsStrictlySorted l) (id : ℕ) where
  -- the comparisons with the id rise along the list, as a binary search asks
  comparisons_rise : IsNonDecreasingBy (λ pair. ordering_index (nat_cmp pair.0 id)) l
  comparisons_rise = IsNonDecreasingBy-from_default (λ pair. ordering_index (nat_cmp pair.0 id)) l (0, 0) (λ i j le in_range.
      let ids_rise : id_at l i ≤ id_at l j = grind (arith, sorted i j, λ (same : i ≡ j). ap (id_at l) same) in
      grind (arith, nat_tests))

  -- a binary search ends at the id, or at the gap for it
  pub searched : (r : Result ℕ ℕ) → IsSearchInRange r (length l) → IsBinarySearchResult (λ pair. nat_cmp pair.0 id) l r → record { found : IfOk r (IsAt l id); absent : IfErr r (IsGapFor l id) }
  searched (Ok at) in_range equal = record { found = record { in_range = in_range; has_id = ranked _ id _ (sym (equal (0, 0))) }; absent = tt }
  searched (Err at) in_range parted = record {
    found = tt;
    absent = record {
      in_range = in_range;
      smaller_before = λ j lt. ranked _ id _ (sym ((parted comparisons_rise).0 j (0, 0) (omega arith) lt));
      greater_after = λ j le lt. ranked _ id _ (sym ((parted comparisons_rise).1 j (0, 0) le lt));
    };
  }

-- in sorted pairs, the place of an id is the one beside it
pub get_at : (l : Pairs) → IsStrictlySorted l → (id at : ℕ) → IsAt l id at → get l id ≡ Some (get_or l at (0, 0)).1
get_at l sorted id at is = get_present l id at is (λ j lt same. omega (arith, sorted j at lt is.in_range, is.has_id))

module _ (l : Pairs) (id at : ℕ) (gap : IsGapFor l id at) where
  -- an id that has a gap is not found
  pub get_in_gap : get l id ≡ None
  get_in_gap = get_absent l id (λ j lt same. grind (arith, gap.smaller_before j, gap.greater_after j))

  -- a new pair in the gap changes what is found at that id alone
  pub gets_new : (place : ℕ) → GetsAfterSet l (insert l at (id, place)) id place
  gets_new place = get_insert l id place at (λ j lt same. omega (arith, gap.smaller_before j lt))

  -- it keeps the order: each new id is an old one below the gap, the id at it, or an old one moved up by one
  pub stays_sorted : (place : ℕ) → IsStrictlySorted l → IsStrictlySorted (insert l at (id, place))
  stays_sorted place sorted i j lt in_range =
      let new = insert l at (id, place) in
      let first = λ (x : ℕ × ℕ). x.0 in
      let long = length-insert l at (id, place) gap.in_range in
      let below : (k : ℕ) → k < at → id_at new k ≡ id_at l k = λ k less. ap first (get_or-insert_below l at (id, place) (0, 0) k less gap.in_range) in
      let here : (k : ℕ) → k ≡ at → id_at new k ≡ id = λ k same. rw same (ap first (get_or-insert_at l at (id, place) (0, 0) gap.in_range)) in
      let above : (k : ℕ) → at < k → id_at new k ≡ id_at l (k - 1) = λ k more. subst (λ q. id_at new q ≡ id_at l (k - 1)) {x = k - 1 + 1} (omega arith) (ap first (get_or-insert_above l at (id, place) (0, 0) (k - 1) (omega arith) gap.in_range)) in
      grind (arith, below i, here i, above i, below j, here j, above j, sorted i j, sorted i (j - 1), sorted (i - 1) (j - 1), gap.smaller_before i, gap.greater_after (j - 1))

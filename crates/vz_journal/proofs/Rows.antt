-- Reading items in a row, as a loop does.
use Rattle.std.proofs.Common.{◌≡◌, ℕ, suc, ◌-◌, ◌+◌, ◌≤◌, ◌<◌, List, [], ◌∷◌, ◌++◌, Some, None, sym, ap, ◌∙◌, append_assoc, append-nil, arith}
use Rattle.vz_journal.specs.Reading.{Read, with_first, items_at}

-- what was read before, and what is still read
abbrev pub with_front : {A : Type 0} → List A → List A × List ℕ → List A × List ℕ
with_front front x = (front ++ x.0, x.1)

one_more : {A : Type 0} (read : List ℕ → Read A) (n : ℕ) (bytes after : List ℕ) (a : A) → read bytes ≡ Some (a, after) → items_at read (suc n) bytes ≡ (a ∷ (items_at read n after).0, (items_at read n after).1)
unfolding items_at
one_more read n bytes after a h = rw (h, with_first)

no_more : {A : Type 0} (read : List ℕ → Read A) (n : ℕ) (bytes : List ℕ) → read bytes ≡ None → items_at read (suc n) bytes ≡ ([], bytes)
unfolding items_at
no_more read n bytes h = rw (h, with_first)

pub goes_on : {A : Type 0} (read : List ℕ → Read A) (front : List A) (most i : ℕ) (here after : List ℕ) (a : A) (total : List A × List ℕ) → i < most → read here ≡ Some (a, after)
    → with_front front (items_at read (most - i) here) ≡ total → with_front (front ++ a ∷ []) (items_at read (most - (i + 1)) after) ≡ total
goes_on {A} read front most i here after a total lt h so_far =
    let k : most - i ≡ suc (most - (i + 1)) = omega arith in
    let x = items_at read (most - (i + 1)) after in
    let one : items_at read (most - i) here ≡ (a ∷ (items_at read (most - (i + 1)) after).0, (items_at read (most - (i + 1)) after).1) = ap (λ n. items_at read n here) k ∙ one_more read (most - (i + 1)) here after a h in
    let step : with_front (front ++ a ∷ []) (items_at read (most - (i + 1)) after) ≡ with_front front (a ∷ (items_at read (most - (i + 1)) after).0, (items_at read (most - (i + 1)) after).1) = ap (λ (xs : List A). (xs, (items_at read (most - (i + 1)) after).1)) (append_assoc front (a ∷ []) (items_at read (most - (i + 1)) after).0) in
    step ∙ ap (with_front front) (sym one) ∙ so_far

pub stops_there : {A : Type 0} (read : List ℕ → Read A) (front : List A) (most i : ℕ) (here : List ℕ) (total : List A × List ℕ) → i < most → read here ≡ None
    → with_front front (items_at read (most - i) here) ≡ total → total ≡ (front, here)
stops_there {A} read front most i here total lt h so_far =
    let k : most - i ≡ suc (most - (i + 1)) = omega arith in
    let one : items_at read (most - i) here ≡ ([], here) = ap (λ n. items_at read n here) k ∙ no_more read (most - (i + 1)) here h in
    sym so_far ∙ ap (with_front front) one ∙ ap (λ (xs : List A). (xs, here)) (append-nil front)

pub is_done : {A : Type 0} (read : List ℕ → Read A) (front : List A) (most i : ℕ) (here : List ℕ) (total : List A × List ℕ) → most ≤ i
    → with_front front (items_at read (most - i) here) ≡ total → total ≡ (front, here)
unfolding items_at
is_done {A} read front most i here total le so_far =
    let k : most - i ≡ 0 = omega arith in
    let one : items_at read (most - i) here ≡ ([], here) = ap (λ n. items_at read n here) k in
    sym so_far ∙ ap (with_front front) one ∙ ap (λ (xs : List A). (xs, here)) (append-nil front)

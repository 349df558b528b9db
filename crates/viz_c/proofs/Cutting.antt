-- Files that are put together, and cut again.
use Rattle.std.proofs.Common.{◌≡◌, ℕ, ◌+◌, ◌-◌, ◌<◌, ◌≤◌, suc, Bool, true, false, ◌==◌, List, [], ◌∷◌, ◌++◌, length, map, take, drop, get_or, IsTrue, refl, sym, ap, ◌∙◌, arith, length-append}
use Rattle.std.specs.{Prelude.zero, List.sum, List.flat_map, List.list_all}
use Rattle.std.proofs.{lemmas.Bool.eq-eqb, lemmas.Bool.ne_eqb, lemmas.List.Concat.flat_map-append}
use Rattle.std.proofs.{lemmas.List.take_all, lemmas.List.take_more, lemmas.List.append-nil, lemmas.List.map-append, lemmas.List.Folds.list_all_at}
use Rattle.std.proofs.lemmas.List.Sums.{sum_by-cons, sum_by_more, sum_by_more_le}
use Rattle.vz_codec.specs.Spelling.{file_bytes}
use Rattle.vz_frame.specs.{Fits.fits_file, declared.message.ClientFile.ClientFile}
use Rattle.viz_c.specs.{Calls.cut, Making.lengths_of}

-- the front of two lists, and what is behind it
pub front_of : (xs ys : List ℕ) → take (length xs) (xs ++ ys) ≡ xs
front_of [] ys = refl
front_of (x ∷ xs) ys = ap (λ (zs : List ℕ). x ∷ zs) (front_of xs ys)

pub behind_of : (xs ys : List ℕ) → drop (length xs) (xs ++ ys) ≡ ys
behind_of [] ys = refl
behind_of (x ∷ xs) ys = behind_of xs ys

-- the bytes of files that are cut by their lengths are the files' bytes
pub cut_again : (files : List ClientFile) → cut (lengths_of files) (flat_map file_bytes files) ≡ map file_bytes files
cut_again [] = refl
cut_again (f ∷ files) =
    let own = file_bytes f in
    let rest = flat_map file_bytes files in
    ap (λ (bytes : List ℕ). bytes ∷ cut (lengths_of files) (drop (length own) (own ++ rest))) (front_of own rest)
    ∙ ap (λ (bytes : List ℕ). own ∷ cut (lengths_of files) bytes) (behind_of own rest)
    ∙ ap (λ (more : List (List ℕ)). own ∷ more) (cut_again files)

-- their lengths are together the number of all bytes
pub all_lengths : (files : List ClientFile) → length (flat_map file_bytes files) ≡ sum (lengths_of files)
all_lengths [] = refl
all_lengths (f ∷ files) =
    length-append (file_bytes f) (flat_map file_bytes files)
    ∙ ap (λ (n : ℕ). length (file_bytes f) + n) (all_lengths files)
    ∙ sym (sum_by-cons (λ (n : ℕ). n) (length (file_bytes f)) (lengths_of files))

-- lengths of which the first and the next one are more than a number are together not that number
pub too_long :
    (xs : List ℕ) (i n left d : ℕ) → i < length xs → sum (take i xs) + left ≡ n → left < get_or xs i d → false ≡ (sum xs == n)
too_long xs i n left d low is more =
    let most = sum_by_more_le (λ (x : ℕ). x) xs i d low in
    sym (ne_eqb (sum xs) n (λ e. omega (arith, most, is, more, e)))

-- one length more is taken off
pub one_less :
    (xs : List ℕ) (i n left d : ℕ) → i < length xs → sum (take i xs) + left ≡ n → get_or xs i d ≤ left
    → sum (take (i + 1) xs) + (left - get_or xs i d) ≡ n
one_less xs i n left d low is less =
    let next = sum_by_more (λ (x : ℕ). x) xs i d low in
    omega (arith, next, is, less)

-- what is left after all lengths is nothing exactly if they are together that number
left_over : (xs : List ℕ) (n left : ℕ) → sum xs + left ≡ n → (left == 0) ≡ (sum xs == n)
left_over xs n zero e = sym (eq-eqb (sum xs) n (omega (arith, e)))
left_over xs n (suc left) e =
    ne_eqb (suc left) 0 (λ f. omega (arith, f)) ∙ sym (ne_eqb (sum xs) n (λ f. omega (arith, e, f)))

pub all_taken :
    (xs : List ℕ) (i n left : ℕ) → length xs ≤ i → sum (take i xs) + left ≡ n → (left == 0) ≡ (sum xs == n)
all_taken xs i n left high is =
    let whole : sum (take i xs) ≡ sum xs = ap sum (take_all i xs high) in
    left_over xs n left (omega (arith, whole, is))

-- one file more
pub bytes_more :
    (files : List ClientFile) (i : ℕ) (d : ClientFile) (old new own : List ℕ) → i < length files
    → old ≡ flat_map file_bytes (take i files) → own ≡ file_bytes (get_or files i d) → new ≡ old ++ own
    → new ≡ flat_map file_bytes (take (i + 1) files)
bytes_more files i d old new own low is made put =
    put ∙ (ap (λ (xs : List ℕ). xs ++ own) is ∙ (ap (λ (xs : List ℕ). flat_map file_bytes (take i files) ++ xs) (made ∙ sym (append-nil (file_bytes (get_or files i d))))
    ∙ (sym (flat_map-append file_bytes (take i files) (get_or files i d ∷ []))
    ∙ ap (λ (fs : List ClientFile). flat_map file_bytes fs) (sym (take_more files i d low)))))

pub lengths_more :
    (files : List ClientFile) (i : ℕ) (d : ClientFile) (old new : List ℕ) (n : ℕ) → i < length files
    → old ≡ lengths_of (take i files) → n ≡ length (file_bytes (get_or files i d)) → new ≡ old ++ n ∷ []
    → new ≡ lengths_of (take (i + 1) files)
lengths_more files i d old new n low is made put =
    put ∙ (ap (λ (xs : List ℕ). xs ++ n ∷ []) is ∙ (ap (λ (m : ℕ). lengths_of (take i files) ++ m ∷ []) made
    ∙ (sym (map-append (λ (f : ClientFile). length (file_bytes f)) (take i files) (get_or files i d ∷ []))
    ∙ ap lengths_of (sym (take_more files i d low)))))

-- what fails only if the whole fails holds if the whole holds
holds_in : (own whole : Bool) → (own ≡ false → whole ≡ false) → whole ≡ true → own ≡ true
holds_in true whole fails all = refl
holds_in false whole fails all = absurd (let none = fails refl in cc)

-- each of files that fit fits
pub fits_at :
    (files : List ClientFile) (i : ℕ) (d : ClientFile) → i < length files → IsTrue (list_all fits_file files) → IsTrue (fits_file (get_or files i d))
fits_at files i d low all =
    holds_in (fits_file (get_or files i d)) (list_all fits_file files) (λ none. list_all_at fits_file files i d low none) all

-- The last of a list.
use Rattle.std.proofs.Common.{◌≡◌, ℕ, zero, suc, ◌+◌, ◌-◌, ◌<◌, List, [], ◌∷◌, ◌++◌, take, length, get_or, reverse, slice_get, refl, sym, ap, ◌∙◌, arith}
use Rattle.std.proofs.lemmas.List.{reverse-append, take_all}
use Rattle.std.proofs.lemmas.Grind.{take_at_read}
use Rattle.std.proofs.lemmas.Option.{slice_get-get_or, slice_get_past}
use Rattle.vz_frame.specs.Frame.{first_of}

last_by : {A : Type 0} (n : ℕ) (xs : List A) (d : A) → length xs ≡ n → 0 < n → slice_get xs (length xs - 1) ≡ first_of (reverse xs)
last_by zero xs d e h = absurd (omega arith)
last_by (suc m) xs d e h =
    let within : m < length xs = omega arith in
    let place : length xs - 1 ≡ m = omega arith in
    let last = get_or xs m d in
    let more : take (m + 1) xs ≡ take m xs ++ last ∷ [] = (take_at_read xs m d within).1 in
    let all : take (m + 1) xs ≡ xs = take_all (m + 1) xs (omega arith) in
    ap (slice_get xs) place ∙ (slice_get-get_or xs m d within ∙ sym (ap (λ l. first_of (reverse l)) (sym all ∙ more) ∙ ap first_of (reverse-append (take m xs) (last ∷ []))))

-- the last of a list is the first of the list turned round
pub last_first : {A : Type 0} (xs : List A) → slice_get xs (length xs - 1) ≡ first_of (reverse xs)
last_first [] = slice_get_past [] (0 - 1) (omega arith)
last_first (x ∷ xs) = last_by (length (x ∷ xs)) (x ∷ xs) x refl (omega arith)
